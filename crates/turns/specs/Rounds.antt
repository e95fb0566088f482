-- Rounds over the list of records (document 01, "Rounds"): "Every round reads only the table before it."
-- These definitions face the code: what one arc, one position and one round do to a table of times and to the row of marks.
-- proofs/Tables ties them to the tables of the theory, proofs/Sheets to the arcs of a sheet.
use Rattle.std.specs.Prelude.{◌≡◌, ◌≢◌, cond, ℕ, zero, suc, ◌+◌, ◌-◌, ◌*◌, ◌≤◌, ◌<◌, max, ltb, length, get_or, set, drop}
use mathlib.Core.List.{List, [], ◌∷◌, ◌++◌, Memᴰ}
use Rattle.std.proofs.Math.Decide.{ℕ_discrete}
use Rattle.theory.specs.Arcs.{only}
use Rattle.edges.specs.declared.Edge.{Edge}
use Rattle.edges.specs.declared.Record.{Record}
use Rattle.edges.specs.Edges.{edge_of, site_of}
use Rattle.layout.specs.Records.{listed}
use Rattle.windows.specs.Arcs.{up, down}
use Rattle.turns.specs.declared.jobs.Job.{Job}
use Rattle.edges.specs.declared.Site.{Site}
use Rattle.turns.specs.declared.Turn.{Turn}

-- An arc with its mark, which has the node that it leaves and its kind.
pub record Named : Type 0 where
  pub mark : ℕ
  pub edge : Edge

-- a record at a position
abbrev pub named : Record → Site → Named
named a at = let e = edge_of a at.q at.here at.next at.cross in record { mark = e.departure * 8 + a.kind; edge = e }

-- the times, and the row of marks
pub record Board : Type 0 where
  pub times : List ℕ
  pub row : List ℕ

-- both, as one value
abbrev pub board : List ℕ → List ℕ → Board
board t r = record { times = t; row = r }

-- what an arc asks of its arrival: "table r at departure plus weight"
abbrev pub asks : (ℕ → ℕ) → Edge → ℕ
asks t e = t e.departure + e.rise - e.fall

-- an arc raises the time at its arrival, by what the old times ask, and leaves its mark there, where that is more
unfoldable pub raise : List ℕ → Named → Board → Board
raise old a b =
    let e = a.edge in
    let c = asks (λ v. get_or old v 0) e in
    cond (ltb (get_or b.times e.arrival 0) c) (board (set b.times e.arrival c) (set b.row e.arrival a.mark)) b

-- the arcs of a list, one after the other
unfoldable pub after : List ℕ → List Named → Board → Board
after old [] b = b
after old (a ∷ rest) b = after old rest (raise old a b)

-- f a, f (a + 1), .., m in all
unfoldable pub span : {A : Type 0} → (ℕ → A) → ℕ → ℕ → List A
span f a zero = []
span f a (suc m) = f a ∷ span f (suc a) m

-- the arcs of a part of the list at a position
abbrev pub passed : Site → List Record → List Named
passed at [] = []
passed at (a ∷ rest) = named a at ∷ passed at rest

-- "a mode's part at each position where it stands": the arcs of the first g positions
unfoldable pub walked : List Record → List ℕ → List ℕ → ℕ → ℕ → ℕ → ℕ → ℕ → List Named
walked l start schedule n positions p q zero = []
walked l start schedule n positions p q (suc g) =
    let t = get_or schedule g 0 in
    walked l start schedule n positions p q g ++ span (λ k. named (listed l k) (site_of g n positions p q)) (get_or start t 0) (get_or start (t + 1) 0 - get_or start t 0)

-- the arcs of all positions
abbrev pub round_of : List Record → Job → List Named
round_of l job = walked l job.start job.sheet.schedule.now job.sheet.n job.sheet.positions job.time.top job.time.bottom job.sheet.positions

-- The turn at the position g + 1 of the round r + 1, where `left` turns are left: the mode there has the records from `first` to `last`.
abbrev pub turn_of : ℕ → ℕ → ℕ → ℕ → Job → Turn
turn_of left r g node job =
    let t = get_or job.sheet.schedule.now g 0 in
    record { left = left; round = r; position = g; node = node; first = get_or job.start t 0; last = get_or job.start (t + 1) 0; at = site_of g job.sheet.n job.sheet.positions job.time.top job.time.bottom }

-- ---- tables over a list of arcs, as the theory has them

-- "the largest (table r at departure plus weight) over arcs arriving"
unfoldable pub most_of : List Named → (ℕ → ℕ) → ℕ → ℕ
unfolding ℕ_discrete
most_of [] t v = 0
most_of (a ∷ rest) t v = max (only (ℕ_discrete a.edge.arrival v) (asks t a.edge)) (most_of rest t v)

-- "Table r+1 holds, at each node, the larger of table r there" and that
unfoldable pub table_of : List Named → ℕ → ℕ → ℕ
table_of arcs zero v = 0
table_of arcs (suc r) v = max (table_of arcs r v) (most_of arcs (table_of arcs r) v)

-- ---- what the functions are handed

-- The records below `count` are windows between events 1 to n, with kinds and limits that are small.
pub record Fine (l : List Record) (n count : ℕ) : Type 0 where
  pub few : count ≤ 4608
  pub kind_few : (k : ℕ) → k < count → (listed l k).kind < 8
  pub to_first : (k : ℕ) → k < count → 1 ≤ (listed l k).to
  pub to_last : (k : ℕ) → k < count → (listed l k).to ≤ n
  pub from_first : (k : ℕ) → k < count → 1 ≤ (listed l k).from
  pub from_last : (k : ℕ) → k < count → (listed l k).from ≤ n
  pub up_small : (k : ℕ) → k < count → up (listed l k).w ≤ 1000000
  pub down_small : (k : ℕ) → k < count → down (listed l k).w ≤ 1000000

-- An arc's nodes are among the times and the marks, and its sum is small.
pub record Reach (e : Edge) (old new row : List ℕ) : Type 0 where
  pub departs : e.departure < length old
  pub departs_few : e.departure < 192
  pub arrives : e.arrival < length new
  pub marked : e.arrival < length row
  pub sum_small : get_or old e.departure 0 + e.rise < 9000000000000000

-- What one record's step rests on.
pub record Able (a : Record) (at : Site) (old new row : List ℕ) : Type 0 where
  pub kind_few : a.kind < 8
  pub to_first : 1 ≤ a.to
  pub from_first : 1 ≤ a.from
  pub here_few : at.here < 4096
  pub next_few : at.next < 4096
  pub q_small : at.q ≤ 1000
  pub cross_small : at.cross < 4294967296000
  pub reach : Reach (named a at).edge old new row

-- The parts that the positions' modes have of the records are fine.
pub record Parts (l : List Record) (n : ℕ) (start schedule : List ℕ) (positions : ℕ) : Type 0 where
  pub rising : (g : ℕ) → g < positions → get_or start (get_or schedule g 0) 0 ≤ get_or start (get_or schedule g 0 + 1) 0
  pub fine : (g : ℕ) → g < positions → Fine l n (get_or start (get_or schedule g 0 + 1) 0)

-- ---- what the rounds leave

-- v is the first place below n where the lists differ, or n
pub record Differs (xs ys : List ℕ) (n v : ℕ) : Type 0 where
  pub within : v ≤ n
  pub same : (k : ℕ) → k < v → get_or xs k 0 ≡ get_or ys k 0
  pub other : v < n → get_or xs v 0 ≢ get_or ys v 0

-- the first `count` places are those of the times, and the rest stays
pub record Filled (times : List ℕ) (count : ℕ) (old new : List ℕ) : Type 0 where
  pub long : length new ≡ length old
  pub inside : (v : ℕ) → v < count → get_or new v 0 ≡ get_or times v 0
  pub rest : drop count new ≡ drop count old

-- After a turn comes that of the next position, or, after the last one, that of the next round, which reads what this round wrote; or
-- none, where the round changed nothing.
pub data Next (t : Turn) (job : Job) (old new : List ℕ) (t' : Turn) (old' : List ℕ) : Type 0 where
  on : t.position + 1 < job.sheet.positions → t' ≡ turn_of (t.left - 1) t.round (t.position + 1) t.node job → old' ≡ old → Next t job old new t' old'
  still : job.sheet.positions ≤ t.position + 1 → Differs old new (job.sheet.positions * job.sheet.n) (job.sheet.positions * job.sheet.n) → t' ≡ turn_of 0 t.round 0 (job.sheet.positions * job.sheet.n) job → old' ≡ old → Next t job old new t' old'
  again : job.sheet.positions ≤ t.position + 1 → (d : ℕ) → d < job.sheet.positions * job.sheet.n → Differs old new (job.sheet.positions * job.sheet.n) d → t' ≡ turn_of (t.left - 1) (t.round + 1) 0 d job → old' ≡ new → Next t job old new t' old'

-- round r + 1 raised v
abbrev pub Rose : List Named → ℕ → ℕ → Type 0
Rose arcs r v = table_of arcs r v < table_of arcs (suc r) v

-- Of r rounds, `round` + 1 was the last that raised v, and v's mark names the arc that did.
pub record MarkTold (arcs : List Named) (row : List ℕ) (r v : ℕ) : Type 0 where
  pub round : ℕ
  pub early : round < r
  pub raised : Rose arcs round v
  pub kept : table_of arcs r v ≡ table_of arcs (suc round) v
  pub by : Named
  pub member : Memᴰ by arcs
  pub marked : get_or row v 0 ≡ by.mark
  pub arrives : by.edge.arrival ≡ v
  pub exact : table_of arcs (suc round) v + by.edge.fall ≡ table_of arcs round by.edge.departure + by.edge.rise

-- The rounds ran until one changed nothing, or N times: `rounds` of them changed something.
pub record Ran (arcs : List Named) (N rounds node : ℕ) (times row : List ℕ) : Type 0 where
  pub few : rounds ≤ N
  pub still : rounds < N → (v : ℕ) → v < N → table_of arcs (suc rounds) v ≡ table_of arcs rounds v
  pub table : (v : ℕ) → v < N → get_or times v 0 ≡ table_of arcs rounds v
  pub rising : (r : ℕ) → r < rounds → (v : ℕ) × (v < N) × Rose arcs r v
  pub told : (v : ℕ) → v < N → 0 < table_of arcs rounds v → MarkTold arcs row rounds v
  pub last : rounds ≡ N → (node < N) × Rose arcs (N - 1) node
