-- A circuit in the buffer that a call is lent for it.
use Rattle.std.specs.Prelude.{◌≡◌, ◌⊎◌, List, [], ◌++◌, ℕ, ◌*◌, length, drop}
use Rattle.tables.specs.Sheets.{Sheet}
use Rattle.windows.specs.Circuits.{Step, numbers, CircuitOf}

-- the buffer with the arcs' numbers written: "only the arcs' places are written"
abbrev pub onto : List Step → List ℕ → List ℕ
onto cs before = numbers cs ++ drop (4 * length cs) before

-- a circuit of the sheet, or no arcs
abbrev pub CircuitOrNone : Sheet → List Step → Type 0
CircuitOrNone s cs = (cs ≡ []) ⊎ CircuitOf s cs
