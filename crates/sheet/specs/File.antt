-- The sheet file as it is read (document 01, "The sheet file", "Numbers a call can answer").
-- "Order: format number 1; n; m; V; V mode numbers from 0; then for each mode a count and that many records of kind, to, from, value."
-- "The reader checks each number as soon as it is read, left to right; 7 follows a record's fourth number; 8 after the last record".
-- Document 02, E1: the place of a number just read goes "with refusals 1 to 8 (for 8, the first surplus byte; for 7, the start of the record)".
use Rattle.std.specs.Prelude.{ℕ, zero, suc, ◌+◌, ◌-◌, ◌*◌, Bool, cond, List, [], ◌∷◌, ◌++◌, leb, ltb, eqb, length, set, replicate, ℤ}
use Rattle.numbers.specs.Groups.{bad, number_at}
use Rattle.numbers.specs.Signs.{decoded}
use Rattle.numbers.specs.Groups.{Refusal}
use Rattle.numbers.specs.Groups.{Number}
use Rattle.numbers.specs.Groups.{Value, Refused}
use Rattle.tables.specs.Sheets.{Sheet, sheet, no_window, in_limit, within}

-- a part of the file: what was read and the place after it, or the refusal with its place
pub data Part (A : Type 0) : Type 0 where
  got : A → ℕ → Part A
  refused : Refusal → Part A

-- "checks each number as soon as it is read": the number, or the refusal k, at its place, where the test fails
unfoldable pub tested : (ℕ → Bool) → ℕ → Number → Number
tested ok k (Value v began next) = cond (ok v) (Value v began next) (Refused (bad k began))
tested ok k (Refused r) = Refused r

-- "left to right": what follows a number, with its value and the place after it
unfoldable pub after : {A : Type 0} → Number → (ℕ → ℕ → Part A) → Part A
after (Value v began next) go = go v next
after (Refused r) go = refused r

-- "left to right": what follows a part, with what it holds and the place after it
unfoldable pub and_then : {A B : Type 0} → Part A → (A → ℕ → Part B) → Part B
and_then (got a next) go = go a next
and_then (refused r) go = refused r

-- a limit at its place in a mode's part of the tables
pub record Placed : Type 0 where
  pub place : ℕ
  pub limit : ℤ

-- the limit v at the place p
abbrev pub placed : ℕ → ℤ → Placed
placed p v = record { place = p; limit = v }

-- the place of kind, to, from in "the part of the tables that starts at 4t·n²"
abbrev pub in_mode : ℕ → ℕ → ℕ → ℕ → ℕ
in_mode n kind to from = (kind * n + (to - 1)) * n + (from - 1)

-- 7, "records not strictly rising": by kind, then to, then from is by place in the mode's part, and `low` is the first such place above the record before.
-- "for 7, the start of the record"
unfoldable pub rising : ℕ → ℕ → ℕ → ℤ → ℕ → Part Placed
rising start low p v next = cond (leb low p) (got (placed p v) next) (refused (bad 7 start))

-- the fourth number of the record that starts at `start`, whose first three give its place in the mode's part. 6: "value past its limit"; "7 follows a record's fourth number"
unfoldable pub value_at : List ℕ → ℕ → ℕ → ℕ → ℕ → Part Placed
value_at file start low p at =
    after (tested (λ u. in_limit (decoded u)) 6 (number_at file at)) λ u next.
    rising start low p (decoded u) next

-- a record, "kind, to, from, value". 6: "kind above 3, event not 1..n"
unfoldable pub record_at : List ℕ → ℕ → ℕ → ℕ → Part Placed
record_at file n low at =
    after (tested (λ kind. leb kind 3) 6 (number_at file at)) λ kind a.
    after (tested (within n) 6 (number_at file a)) λ to b.
    after (tested (within n) 6 (number_at file b)) λ from c.
    value_at file at low (in_mode n kind to from) c

-- so many records, the first of them at or above the place `low`
unfoldable pub records_at : List ℕ → ℕ → ℕ → ℕ → ℕ → Part (List Placed)
records_at file n zero low at = got [] at
records_at file n (suc count) low at =
    and_then (record_at file n low at) λ w a.
    and_then (records_at file n count (w.place + 1) a) λ rest b.
    got (w ∷ rest) b

-- a mode: "a count and that many records". 6: "count above 4·n²"
unfoldable pub mode_at : List ℕ → ℕ → ℕ → Part (List Placed)
mode_at file n at =
    after (tested (λ count. leb count (4 * (n * n))) 6 (number_at file at)) λ count a.
    records_at file n count 0 a

-- "then for each mode"
unfoldable pub modes_at : List ℕ → ℕ → ℕ → ℕ → Part (List (List Placed))
modes_at file n zero at = got [] at
modes_at file n (suc m) at =
    and_then (mode_at file n at) λ windows a.
    and_then (modes_at file n m a) λ rest b.
    got (windows ∷ rest) b

-- the limits of a mode's windows put at their places
unfoldable pub put : List Placed → List ℤ → List ℤ
put [] part = part
put (w ∷ rest) part = put rest (set part w.place w.limit)

-- a mode's part of the tables: its windows, and "no window" at every other place
unfoldable pub laid : ℕ → List Placed → List ℤ
laid size windows = put windows (replicate size no_window)

-- the tables: one mode's part after the other
unfoldable pub tables_of : ℕ → List (List Placed) → List ℤ
tables_of n [] = []
tables_of n (windows ∷ rest) = laid (4 * (n * n)) windows ++ tables_of n rest

-- "Nothing follows." 8: "bytes after the sheet"; "for 8, the first surplus byte"
unfoldable pub ended : List ℕ → List ℤ → ℕ → Part (List ℤ)
ended file tables next = cond (eqb next (length file)) (got tables next) (refused (bad 8 next))

-- all that follows the schedule, which ends the file
unfoldable pub tables_at : List ℕ → ℕ → ℕ → ℕ → Part (List ℤ)
tables_at file n m at =
    and_then (modes_at file n m at) λ modes a.
    ended file (tables_of n modes) a

-- "V mode numbers from 0". 5: "schedule names a mode not below m"
unfoldable pub schedule_at : List ℕ → ℕ → ℕ → ℕ → Part (List ℕ)
schedule_at file m zero at = got [] at
schedule_at file m (suc positions) at =
    after (tested (λ t. ltb t m) 5 (number_at file at)) λ t a.
    and_then (schedule_at file m positions a) λ rest b.
    got (t ∷ rest) b

-- n, m and V
pub record Counts : Type 0 where
  pub n : ℕ
  pub m : ℕ
  pub positions : ℕ

-- n, m and V in one
abbrev pub counts : ℕ → ℕ → ℕ → Counts
counts n m positions = record { n = n; m = m; positions = positions }

-- "format number 1; n; m; V". 3: "format number not 1"; 4: "n, m or V past its limit"
unfoldable pub counts_at : List ℕ → ℕ → Part Counts
counts_at file at =
    after (tested (λ format. eqb format 1) 3 (number_at file at)) λ format a.
    after (tested (within 12) 4 (number_at file a)) λ n b.
    after (tested (within 8) 4 (number_at file b)) λ m c.
    after (tested (within 16) 4 (number_at file c)) λ positions d.
    got (counts n m positions) d

-- all that follows n, m and V
unfoldable pub sheet_after : List ℕ → Counts → ℕ → Part Sheet
sheet_after file c at =
    and_then (schedule_at file c.m c.positions at) λ schedule a.
    and_then (tables_at file c.n c.m a) λ tables b.
    got (sheet c.n c.m c.positions tables schedule) b

-- the sheet that the bytes are, or their refusal
unfoldable pub sheet_in : List ℕ → Part Sheet
sheet_in file = and_then (counts_at file 0) (sheet_after file)
