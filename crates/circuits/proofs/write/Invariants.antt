-- The invariant: all arcs but k are written, and x is the node before them.
use mathlib.Core.Path.{◌≡◌}
use lib.ListN.{length}
use Rattle.circuits.proofs.Writing.{Written}
use Rattle.circuits.proofs.write.Given as goal

abbrev pub invariant-loop-k : goal.invariant-loop-k
invariant-loop-k l = (length l.circuit ≡ length l.initial.circuit) × Written l.marks.row.now l.marks.n l.s l.count l.initial.circuit l.k l.x l.circuit
