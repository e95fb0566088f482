-- `writer::Numbers::schedule` meets its contract. The invariant: the positions that the loop has not met are left.
use Prim.Native.Nat.{◌+◌, ◌*◌, ◌≤◌}
use lib.ListN.{drop}
use Rattle.writer.proofs.Runs.{Leaves}
use Rattle.writer.proofs.Numbers.schedule.Given as goal

abbrev pub invariant-loop-mode : goal.invariant-loop-mode
invariant-loop-mode l = (l.self.at ≤ l.initial.self.at + 4 * l.mode-index) × Leaves l.initial.self l.schedule l.self (drop l.mode-index l.schedule)
