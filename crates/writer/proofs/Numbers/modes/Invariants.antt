-- `writer::Numbers::modes` meets its contract. The invariant: the modes that the loop has not met are left.
use Prim.Native.Nat.{◌+◌, ◌*◌, ◌≤◌}
use Rattle.sheet.specs.Written.{modes_numbers}
use Rattle.writer.proofs.Runs.{Leaves}
use Rattle.writer.proofs.Rows.{left_modes}
use Rattle.writer.proofs.Numbers.modes.Given as goal

abbrev pub invariant-loop-t : goal.invariant-loop-t
invariant-loop-t l = (l.self.at ≤ l.initial.self.at + 9220 * l.t) × Leaves l.initial.self (modes_numbers l.sheet.n l.sheet.m l.sheet.tables.now) l.self (left_modes l.sheet.n l.sheet.m l.sheet.tables.now l.t)
