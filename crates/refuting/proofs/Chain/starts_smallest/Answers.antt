-- The invariant: no arc passed leaves a smaller node than the first.
use native.Mathlib.Omega.{arith}
use mathlib.Core.Path.{ap}
use Prim.Native.Nat.{ℕ, ◌≤◌}
use borrow.Author.Count.{below_more}
use Rattle.tables.specs.Lent.{lent}
use Rattle.edges.specs.declared.Edge.{Edge}
use Rattle.refuting.specs.Reading.{edge_in}
use Rattle.refuting.proofs.Tests.{some, smallest_not, smallest_yes}
use Rattle.refuting.proofs.Chain.starts_smallest.Goals as goal

pub edge-first-requires : goal.edge-first-requires
edge-first-requires c = let h = c.args.self.now in some h.line h.arcs.now h.unrefused h.present h.follows

pub returns-then-is_smaller : goal.returns-then-is_smaller
returns-then-is_smaller c = let h = c.args.self.now in
    smallest_not h.line h.arcs.now h.unrefused h.present h.follows c.edge-first.result c.edge-arc.result c.loop-k.k (omega (arith, c.loop-k-test.true, c.count-k-end.ensures))
    c.edge-first.ensures c.edge-arc.ensures (omega (arith, c.if-is_smaller.true))

pub loop-k-preserved : goal.loop-k-preserved
loop-k-preserved c = let h = c.args.self.now in
    let e = edge_in (lent h.line.sheet) h.line.time.top h.line.time.bottom h.arcs.now in
    below_more (λ (j : ℕ). (e 0).departure ≤ (e j).departure) c.loop-k.k c.loop-k.invariant
    (omega (arith, c.if-is_smaller.false, ap (λ (x : Edge). x.departure) c.edge-first.ensures, ap (λ (x : Edge). x.departure) c.edge-arc.ensures))

pub returns : goal.returns
returns c = let h = c.args.self.now in
    smallest_yes h.line h.arcs.now h.unrefused h.present h.follows (λ k below. c.loop-k.invariant k (omega (arith, c.loop-k-test.false, c.count-k-end.ensures)))
