-- The invariant: the sums are those of the arcs passed.
use mathlib.Core.Path.{◌≡◌}
use Rattle.tables.specs.Lent.{lent}
use Rattle.calls.proofs.ProposedArcs.Tests.{sum_to}
use Rattle.refuting.specs.Reading.{edge_in}
use Rattle.refuting.proofs.Chain.is_above.Given as goal

abbrev pub invariant-loop-k : goal.invariant-loop-k
invariant-loop-k l = let s = lent l.self.line.sheet in let p = l.self.line.time.top in let q = l.self.line.time.bottom in
    (l.rises ≡ sum_to (λ i. (edge_in s p q l.self.arcs.now i).rise) l.k) × (l.falls ≡ sum_to (λ i. (edge_in s p q l.self.arcs.now i).fall) l.k)
