-- `records::read_windows` meets its contract. The invariant: the file is the same, and what ends the records that are left ends them all.
use Rattle.records.proofs.Records.{store}
use Rattle.sheet.specs.File.{records_at}
use Rattle.records.specs.Steps.{Walks}
use Rattle.numbers.specs.declared.refusals.Refusal as code
use Rattle.std.specs.Prelude.{Result}
use mathlib.Core.Path.{◌≡◌}
use mathlib.Core.List.{List}
use Prim.Native.Nat.{ℕ, ◌-◌}
use lib.IntN.{ℤ}
use Rattle.records.proofs.read_windows.Given as goal

abbrev pub invariant-loop : goal.invariant-loop
invariant-loop l = (l.cursor.file.now ≡ l.initial.cursor.file.now)
    × ((r : Result ℕ code.Refusal) (now : List ℤ) → Walks store (records_at l.initial.cursor.file.now l.n (l.count - l.counter) l.low l.cursor.at) l.part r now
    → Walks store (records_at l.initial.cursor.file.now l.n l.count 0 l.initial.cursor.at) l.initial.part r now)
