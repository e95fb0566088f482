-- `records::read_each` meets its contract. The invariant: the file is the same, and what ends the modes that are left, from their part on, ends them all.
use Rattle.sheet.specs.File.{modes_at}
use Rattle.records.specs.Steps.{Walks}
use Rattle.records.proofs.Modes.{store_from}
use Rattle.numbers.specs.declared.refusals.Refusal as code
use Rattle.std.specs.Prelude.{Result}
use mathlib.Core.Path.{◌≡◌}
use mathlib.Core.List.{List}
use Prim.Native.Nat.{ℕ, ◌-◌, ◌*◌}
use lib.IntN.{ℤ}
use Rattle.records.proofs.read_each.Given as goal

abbrev pub invariant-loop-t : goal.invariant-loop-t
invariant-loop-t l = (l.cursor.file.now ≡ l.initial.cursor.file.now)
    × ((r : Result ℕ code.Refusal) (now : List ℤ) → Walks (store_from l.n (l.t * (4 * (l.n * l.n)))) (modes_at l.initial.cursor.file.now l.n (l.m - l.t) l.cursor.at) l.tables r now
    → Walks (store_from l.n 0) (modes_at l.initial.cursor.file.now l.n l.m l.initial.cursor.at) l.initial.tables r now)
