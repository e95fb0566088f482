-- The invariant: `least` is the smallest of the nodes passed, and u was not met again. The measure is how many nodes are left.
use Prim.Native.Nat.{◌-◌, ◌*◌}
use Rattle.circuits.specs.Ways.{before}
use Rattle.circuits.proofs.Ways.{Going}
use Rattle.circuits.proofs.go_round.Given as goal

abbrev pub invariant-loop-x : goal.invariant-loop-x
invariant-loop-x l = Going (before l.marks.row.now) l.u l.least l.count l.x

abbrev pub decreases-loop-x : goal.decreases-loop-x
decreases-loop-x l = l.marks.positions * l.marks.n - l.count
