-- `reader::read_schedule` meets its contract. The invariant: the file is the same, and what ends the positions that are left ends them all.
use Rattle.sheet.specs.File.{schedule_at}
use Rattle.records.specs.Steps.{Walks}
use Rattle.numbers.specs.declared.refusals.Refusal as code
use Rattle.std.specs.Prelude.{Result}
use Rattle.reader.proofs.Schedules.{store_modes}
use mathlib.Core.Path.{◌≡◌}
use mathlib.Core.List.{List}
use Prim.Native.Nat.{ℕ, ◌-◌}
use Rattle.reader.proofs.read_schedule.Given as goal

abbrev pub invariant-loop-position : goal.invariant-loop-position
invariant-loop-position l = (l.cursor.file.now ≡ l.initial.cursor.file.now)
    × ((r : Result ℕ code.Refusal) (now : List ℕ) → Walks (store_modes l.position) (schedule_at l.initial.cursor.file.now l.m (l.positions - l.position) l.cursor.at) l.schedule r now
    → Walks (store_modes 0) (schedule_at l.initial.cursor.file.now l.m l.positions l.initial.cursor.at) l.initial.schedule r now)
