-- The invariant: no arc passed leaves the node that the one at k leaves.
use mathlib.Core.Logic.{◌≢◌}
use mathlib.Core.Path.{sym, ap, ◌∙◌}
use Prim.Native.Nat.{ℕ}
use borrow.Author.Count.{below_more}
use Rattle.tables.specs.Lent.{lent}
use Rattle.edges.specs.declared.Edge.{Edge}
use Rattle.refuting.specs.Reading.{edge_in}
use Rattle.refuting.proofs.Chain.is_apart.Goals as goal

pub returns-then-other-here : goal.returns-then-other-here
returns-then-other-here c = λ apart. apart c.loop-i.i c.loop-i-test.true
    (sym (ap (λ (x : Edge). x.departure) c.edge-other.ensures) ∙ c.if-other-here.true ∙ ap (λ (x : Edge). x.departure) c.edge-here.ensures)

pub loop-i-preserved : goal.loop-i-preserved
loop-i-preserved c = let h = c.args.self.now in
    let e = edge_in (lent h.line.sheet) h.line.time.top h.line.time.bottom h.arcs.now in
    below_more (λ (j : ℕ). (e j).departure ≢ (e c.args.k).departure) c.loop-i.i c.loop-i.invariant
    (λ same. c.if-other-here.false (ap (λ (x : Edge). x.departure) c.edge-other.ensures ∙ same ∙ sym (ap (λ (x : Edge). x.departure) c.edge-here.ensures)))
