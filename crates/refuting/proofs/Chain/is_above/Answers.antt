-- The invariant: the sums are those of the arcs passed.
use native.Mathlib.Omega.{arith}
use native.Mathlib.Nat.{le_antisymm}
use mathlib.Core.Path.{◌≡◌, ap, ◌∙◌}
use Rattle.edges.specs.declared.Edge.{Edge}
use Rattle.calls.specs.ProposedArcs.{count}
use Rattle.calls.proofs.ProposedArcs.Tests.{sum_to}
use Rattle.refuting.proofs.Tests.{edge_small, sums_small, sum_step, above_tells}
use Rattle.refuting.proofs.Chain.is_above.Goals as goal

pub overflow_add-rises : goal.overflow_add-rises
overflow_add-rises c = let h = c.args.self.now in let l = c.loop-k in
    let z = sums_small h.line h.arcs.now h.unrefused h.present h.follows l.k (omega (arith, c.loop-k-test.true, c.count-k-end.ensures)) in
    let e = edge_small h.line h.arcs.now h.unrefused h.present h.follows l.k (omega (arith, c.loop-k-test.true, c.count-k-end.ensures)) in
    omega (arith, l.invariant.0, z.0, e.rises, ap (λ (x : Edge). x.rise) c.edge-arc.ensures, c.requires, c.loop-k-test.true, c.count-k-end.ensures)

pub overflow_add-falls : goal.overflow_add-falls
overflow_add-falls c = let h = c.args.self.now in let l = c.loop-k in
    let z = sums_small h.line h.arcs.now h.unrefused h.present h.follows l.k (omega (arith, c.loop-k-test.true, c.count-k-end.ensures)) in
    let e = edge_small h.line h.arcs.now h.unrefused h.present h.follows l.k (omega (arith, c.loop-k-test.true, c.count-k-end.ensures)) in
    omega (arith, l.invariant.1, z.1, e.falls, ap (λ (x : Edge). x.fall) c.edge-arc.ensures, c.requires, c.loop-k-test.true, c.count-k-end.ensures)

pub loop-k-preserved : goal.loop-k-preserved
loop-k-preserved c = let l = c.loop-k in
    (sum_step _ l.k l.rises _ l.invariant.0 (ap (λ (x : Edge). x.rise) c.edge-arc.ensures), sum_step _ l.k l.falls _ l.invariant.1 (ap (λ (x : Edge). x.fall) c.edge-arc.ensures))

pub returns : goal.returns
returns c = let h = c.args.self.now in let l = c.loop-k in
    let end : l.k ≡ count h.arcs.now = le_antisymm (c.loop-k.auto.k-end) (c.loop-k-test.false) ∙ c.count-k-end.ensures in
    above_tells h.line h.arcs.now h.unrefused h.present h.follows l.rises l.falls (l.invariant.0 ∙ ap (sum_to _) end) (l.invariant.1 ∙ ap (sum_to _) end)
