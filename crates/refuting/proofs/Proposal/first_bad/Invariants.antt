-- The invariant: no arc passed is bad.
use Prim.Native.Nat.{ℕ, ◌<◌}
use Rattle.tables.specs.Lent.{lent}
use Rattle.calls.specs.ProposedArcs.{Good}
use Rattle.refuting.proofs.Proposal.first_bad.Given as goal

abbrev pub invariant-loop-k : goal.invariant-loop-k
invariant-loop-k l = (j : ℕ) → j < l.k → Good (lent l.self.line.sheet) l.self.arcs.now j
