-- The list of records: the windows present in each mode, "laid out once as a list of records".
-- These definitions face the code: they say what stands where in the list. proofs/Windows ties them to the windows of a sheet.
use Rattle.std.specs.Prelude.{◌≡◌, cond, List, [], ◌∷◌, ◌++◌, ℕ, zero, suc, ◌*◌, ◌≤◌, ◌<◌, ℤ, pos, length, get_or, drop}
use Rattle.tables.specs.Sheets.{absent}
use Rattle.edges.specs.declared.Record.{Record}
use Rattle.edges.specs.Edges.{from_place}

-- the records of the windows at the first k places of a mode's part: rising places are rising kind, to, from
unfoldable pub records_in : List ℤ → ℕ → ℕ → List Record
records_in part n zero = []
records_in part n (suc k) = let w = get_or part k (pos 0) in records_in part n k ++ cond (absent w) [] (from_place n k w ∷ [])

-- the records of mode t: "the part of the tables that starts at 4t·n²"
unfoldable pub mode_records : List ℤ → ℕ → ℕ → List Record
mode_records tables n t = records_in (drop (t * (4 * (n * n))) tables) n (4 * (n * n))

-- the records of the first t modes, one mode's after the other's
unfoldable pub laid_out : List ℤ → ℕ → ℕ → List Record
laid_out tables n zero = []
laid_out tables n (suc t) = laid_out tables n t ++ mode_records tables n t

-- what stands in the list where nothing is laid out
abbrev pub blank : Record
blank = record { kind = 0; to = 0; from = 0; w = pos 0 }

-- what stands at i
abbrev pub listed : List Record → ℕ → Record
listed l i = get_or l i blank

-- the records stand at the beginning of the list
abbrev pub Laid : List Record → List Record → Type 0
Laid records l = (i : ℕ) → i < length records → listed l i ≡ listed records i

-- the records of each mode begin where those of the modes before it end; t modes are counted
abbrev pub Starts : List ℤ → ℕ → List ℕ → ℕ → Type 0
Starts tables n start t = (j : ℕ) → j ≤ t → get_or start j 0 ≡ length (laid_out tables n j)
