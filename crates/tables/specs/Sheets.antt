-- A sheet in memory (document 01, "Windows and plans", "Numbers and room").
-- Events and positions are counted from 1 and modes and kinds from 0, as in document 01.
use Rattle.std.specs.Prelude.{ℕ, zero, suc, ◌+◌, ◌-◌, ◌*◌, Bool, true, false, ◌&&◌, ◌||◌, List, [], ◌∷◌, leb, ltb, eqb, length, take, ℤ, pos, negsuc}

-- "There are n events per mode, m modes and a schedule of V positions, each naming a mode." V is `positions` here.
-- The lists may be longer than is needed; "the surplus is neither read nor written".
pub record Sheet : Type 0 where
  pub n : ℕ
  pub m : ℕ
  pub positions : ℕ
  pub tables : List ℤ
  pub schedule : List ℕ

-- a sheet of its five parts
abbrev pub sheet : ℕ → ℕ → ℕ → List ℤ → List ℕ → Sheet
sheet n m positions tables schedule = record { n = n; m = m; positions = positions; tables = tables; schedule = schedule }

-- "-2147483648 means "no window" and is the only other value admitted."
abbrev pub no_window : ℤ
no_window = negsuc 2147483647

-- "the window of mode t (from 0), kind, to, from stands at ((4t + kind)·n + to - 1)·n + from - 1"
abbrev pub place : ℕ → ℕ → ℕ → ℕ → ℕ → ℕ
place n t kind to from = ((4 * t + kind) * n + (to - 1)) * n + (from - 1)

-- how many places the tables need: 4·m·n²
abbrev pub places : ℕ → ℕ → ℕ
places n m = 4 * m * (n * n)

-- "w -1,000,000..1,000,000"
abbrev pub in_limit : ℤ → Bool
in_limit (pos a) = leb a 1000000
in_limit (negsuc a) = ltb a 1000000

-- the value is "no window"
abbrev pub absent : ℤ → Bool
absent (pos a) = false
absent (negsuc a) = eqb a 2147483647

-- the value is admitted in a table
abbrev pub admits : ℤ → Bool
admits v = in_limit v || absent v

-- the test holds of every element
unfoldable pub all : {A : Type 0} → (A → Bool) → List A → Bool
all f [] = true
all f (a ∷ rest) = f a && all f rest

-- the number lies from 1 to most
abbrev pub within : ℕ → ℕ → Bool
within most k = leb 1 k && leb k most

-- 10: "q 1..1000; p 0..1,000,000,000"
abbrev pub timed : ℕ → ℕ → Bool
timed p q = within 1000 q && leb p 1000000000

-- "Longer buffers than needed are allowed; the surplus is neither read nor written." The sheet without its surplus: 4·m·n² places of the tables and
-- V of the schedule. Of lists that are shorter, all that is there.
abbrev pub exact : Sheet → Sheet
exact s = sheet s.n s.m s.positions (take (places s.n s.m) s.tables) (take s.positions s.schedule)

-- 4: "n, m or V past its limit; in memory also tables shorter than 4·m·n² or schedule shorter than V"
unfoldable pub sized : Sheet → Bool
sized s = within 12 s.n && within 8 s.m && within 16 s.positions && leb (places s.n s.m) (length s.tables) && leb s.positions (length s.schedule)

-- 5: "schedule names a mode not below m"
unfoldable pub scheduled : Sheet → Bool
scheduled s = all (λ t. ltb t s.m) (take s.positions s.schedule)

-- 6: "in memory, an inadmissible table value"
unfoldable pub admitted : Sheet → Bool
admitted s = all admits (take (places s.n s.m) s.tables)

-- the first k of the refusals that fits, and 0 where none does
abbrev pub unless : Bool → ℕ → ℕ → ℕ
unless true k rest = rest
unless false k rest = k

-- 4, 5, 6 in that order; 0 for a sheet that is none of these
unfoldable pub refusal : Sheet → ℕ
refusal s = unless (sized s) 4 (unless (scheduled s) 5 (unless (admitted s) 6 0))

-- the refusal, or what comes after it where there is none
abbrev pub otherwise : ℕ → ℕ → ℕ
otherwise zero next = next
otherwise (suc k) next = suc k
