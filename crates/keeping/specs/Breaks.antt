-- Which windows proposed times break, as the code tells it: by the places of a mode's part of the tables. These definitions face the code;
-- proofs/Windows ties them to the windows of a sheet.
use Rattle.std.specs.Prelude.{◌≡◌, Bool, true, false, not, cond, List, ℕ, ◌+◌, ◌-◌, ◌*◌, ◌/◌, ◌%◌, ◌≤◌, ◌<◌, leb, ℤ, pos, length, get_or, drop, Option, Some, None}
use Rattle.tables.specs.Sheets.{absent}
use Rattle.windows.specs.Arcs.{up, down}
use Rattle.edges.specs.declared.Edge.{Edge}
use Rattle.edges.specs.declared.lines.Line.{Line}
use Rattle.edges.specs.declared.Record.{Record}
use Rattle.edges.specs.Edges.{from_place, edge_at}
use Rattle.calls.specs.ProposedTimes.{in_reach}
use Rattle.keeping.specs.declared.TimesHeld.{TimesHeld}
use Rattle.keeping.specs.declared.TimesHeld.TheVariants.{Broken}

-- a time, later by the reach of 382,000,000,000
abbrev pub lift : ℤ → ℕ
lift z = up z + 382000000000 - down z

-- the time at a node, so lifted
abbrev pub lifted_at : List ℤ → ℕ → ℕ
lifted_at times v = lift (get_or times v (pos 0))

-- the arc of a record at the position g + 1
abbrev pub arc_at : Line → ℕ → Record → Edge
arc_at line g w = edge_at line.sheet.n line.sheet.positions line.time.top line.time.bottom g w

-- the times keep it: "time at arrival is at least time at departure plus weight" (01)
unfoldable pub keeps_at : Line → ℕ → Record → List ℤ → Bool
keeps_at line g w times = let e = arc_at line g w in leb (lifted_at times e.departure + e.rise) (lifted_at times e.arrival + e.fall)

-- the place k of a mode's part, where the value stands, has a window, and the times break it
unfoldable pub breaks_at : Line → ℕ → ℕ → ℤ → List ℤ → Bool
breaks_at line g k value times = cond (absent value) false (not (keeps_at line g (from_place line.sheet.n k value) times))

-- the part of the tables of the mode at the position g + 1, and what comes after it
abbrev pub part_at : Line → ℕ → List ℤ
part_at line g = drop (get_or line.sheet.schedule.now g 0 * (4 * (line.sheet.n * line.sheet.n))) line.sheet.tables.now

-- the place k of that part is broken
abbrev pub breaks : Line → List ℤ → ℕ → ℕ → Bool
breaks line times g k = breaks_at line g k (get_or (part_at line g) k (pos 0)) times

-- ---- what a test rests on

-- An arc's nodes have times in reach, and its weight is small.
pub record Reach (e : Edge) (times : List ℤ) : Type 0 where
  pub departs_few : e.departure < 192
  pub arrives_few : e.arrival < 192
  pub departs : e.departure < length times
  pub arrives : e.arrival < length times
  pub leaves_in : in_reach (get_or times e.departure (pos 0)) ≡ true
  pub comes_in : in_reach (get_or times e.arrival (pos 0)) ≡ true
  pub rise_small : e.rise ≤ 2000000000
  pub fall_small : e.fall ≤ 2000000000

-- ---- what is found

-- k is the first number below `size` of which the test holds
pub record First (test : ℕ → Bool) (size k : ℕ) : Type 0 where
  pub inside : k < size
  pub before : (j : ℕ) → j < k → test j ≡ false
  pub here : test k ≡ true

-- what is found below `size`: the first number of which the test holds, or none where it holds of none there
abbrev pub Finds : (ℕ → Bool) → ℕ → Option ℕ → Type 0
Finds test size (Some k) = First test size k
Finds test size None = (j : ℕ) → j < size → test j ≡ false

-- the window of the place k of a mode's part, at the position g + 1
abbrev pub broken_at : ℕ → ℕ → ℕ → TimesHeld
broken_at n g k = Broken (g + 1) (k / (n * n)) (k / n % n + 1) (k % n + 1)
