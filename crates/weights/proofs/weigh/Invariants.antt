-- `weights::weigh` meets its contract. The invariant: the total is the sums of the first k arcs, and small; the measure is what is left.
use mathlib.Core.Path.{◌≡◌}
use Rattle.tables.specs.Lent.{lent}
use Rattle.weights.specs.Weights.{weights_in, Light}
use Rattle.weights.proofs.weigh.Given as goal

abbrev pub invariant-loop-k : goal.invariant-loop-k
invariant-loop-k l = (l.total ≡ weights_in (lent l.sheet) l.circuit l.k) × Light l.k l.total
