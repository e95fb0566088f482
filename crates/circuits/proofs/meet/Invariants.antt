-- The invariant: the way back has come to u, and the nodes that it passed are seen. The measure is how many are not.
use mathlib.Core.Path.{◌≡◌}
use lib.ListN.{length}
use Rattle.circuits.proofs.Ways.{others, Passed}
use Rattle.circuits.proofs.meet.Given as goal

abbrev pub invariant-loop-seen : goal.invariant-loop-seen
invariant-loop-seen l = (length l.seen ≡ length l.initial.seen) × Passed l.marks.row.now l.marks.n l.marks.positions l.v l.seen l.u

abbrev pub decreases-loop-seen : goal.decreases-loop-seen
decreases-loop-seen l = others l.seen
