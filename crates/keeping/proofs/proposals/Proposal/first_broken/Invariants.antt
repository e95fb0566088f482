-- The invariant: the places passed have no window that is broken.
use mathlib.Core.Path.{◌≡◌}
use mathlib.Core.Bool.{false}
use Prim.Native.Nat.{ℕ, ◌<◌}
use Rattle.keeping.specs.Breaks.{breaks}
use Rattle.keeping.proofs.proposals.Proposal.first_broken.Given as goal

abbrev pub invariant-loop-k : goal.invariant-loop-k
invariant-loop-k l = (j : ℕ) → j < l.k → breaks l.self.line l.self.times.now l.g j ≡ false
