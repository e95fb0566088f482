-- `writer::Numbers::windows` meets its contract. The invariant: the windows that the loop has not met are left.
use Prim.Native.Nat.{◌+◌, ◌*◌, ◌≤◌}
use Rattle.sheet.specs.Written.{placed_of, records}
use Rattle.writer.proofs.Runs.{Leaves}
use Rattle.writer.proofs.Rows.{left}
use Rattle.writer.proofs.Numbers.windows.Given as goal

abbrev pub invariant-loop-k : goal.invariant-loop-k
invariant-loop-k l = (l.self.at ≤ l.initial.self.at + 16 * l.k) × Leaves l.initial.self (records l.n (placed_of 0 l.part)) l.self (records l.n (left l.part l.k))
