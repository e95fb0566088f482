-- The sheet file as it is written (document 01, "The sheet file"): the numbers of a sheet in their order, each in groups.
-- That reading it gives the sheet back, and that writing what was read gives the same bytes, are theorems (proofs/There, Back).
use Rattle.std.specs.Prelude.{ℕ, zero, suc, ◌+◌, ◌*◌, ◌/◌, ◌%◌, cond, List, [], ◌∷◌, ◌++◌, length, take, drop, ℤ}
use Rattle.numbers.specs.Groups.{groups}
use Rattle.numbers.specs.Signs.{encoded}
use Rattle.tables.specs.Sheets.{Sheet, absent}
use Rattle.sheet.specs.File.{Placed, placed}

-- "All numbers are in groups of seven bits"
unfoldable pub in_groups : List ℕ → List ℕ
in_groups [] = []
in_groups (v ∷ rest) = groups v ++ in_groups rest

-- a value's limit at its place, if it is one, and nothing where it is "no window"
unfoldable pub cell : ℕ → ℤ → List Placed
cell k v = cond (absent v) [] (placed k v ∷ [])

-- "Records strictly rise by kind, then to, then from": the limits of a part in the order of their places, the first value's place being k
unfoldable pub placed_of : ℕ → List ℤ → List Placed
placed_of k [] = []
placed_of k (v ∷ rest) = cell k v ++ placed_of (k + 1) rest

-- "records of kind, to, from, value": the numbers of a place, and "Value v is written as 2v when v is not negative, else as -2v - 1"
unfoldable pub records : ℕ → List Placed → List ℕ
records n [] = []
records n (w ∷ rest) = (w.place / (n * n)) ∷ (w.place / n % n + 1) ∷ (w.place % n + 1) ∷ encoded w.limit ∷ records n rest

-- "a count and that many records"
unfoldable pub mode_numbers : ℕ → List ℤ → List ℕ
mode_numbers n part = length (placed_of 0 part) ∷ records n (placed_of 0 part)

-- "for each mode": its part of the tables starts at 4t·n²
unfoldable pub modes_numbers : ℕ → ℕ → List ℤ → List ℕ
modes_numbers n zero tables = []
modes_numbers n (suc m) tables = mode_numbers n (take (4 * (n * n)) tables) ++ modes_numbers n m (drop (4 * (n * n)) tables)

-- "Order: format number 1; n; m; V; V mode numbers from 0; then for each mode a count and that many records of kind, to, from, value."
unfoldable pub sheet_numbers : Sheet → List ℕ
sheet_numbers s = 1 ∷ s.n ∷ s.m ∷ s.positions ∷ take s.positions s.schedule ++ modes_numbers s.n s.m s.tables

-- the bytes of a sheet
unfoldable pub written : Sheet → List ℕ
written s = in_groups (sheet_numbers s)
