-- The invariant: no two of the arcs passed leave the same node.
use native.Mathlib.Omega.{arith}
use Rattle.refuting.proofs.Following.{told_false}
use Rattle.refuting.proofs.Tests.{once_not, once_yes}
use Rattle.refuting.proofs.Chain.leaves_once.Goals as goal

pub returns-then-not-is_apart : goal.returns-then-not-is_apart
returns-then-not-is_apart c = let h = c.args.self.now in let g = c.is_apart in
    once_not h.line h.arcs.now h.unrefused h.present h.follows c.loop-k.k (omega (arith, c.loop-k-test.true, c.count-k-end.ensures)) (told_false g.result c.if-not-is_apart.true g.ensures)

pub returns : goal.returns
returns c = let h = c.args.self.now in
    once_yes h.line h.arcs.now h.unrefused h.present h.follows (λ k below. c.loop-k.invariant k (omega (arith, c.loop-k-test.false, c.count-k-end.ensures)))
