-- The window first, then where the arc leaves.
use native.Mathlib.Omega.{arith}
use mathlib.Core.Path.{sym, ap, ◌∙◌}
use Prim.Native.Nat.{◌-◌}
use Rattle.tables.specs.Lent.{lent}
use Rattle.refuting.specs.Reading.{present, edge_for}
use Rattle.refuting.proofs.Present.{step_present}
use Rattle.refuting.proofs.Following.{good_first, good_next}
use Rattle.refuting.proofs.Proposal.is_good.Goals as goal

pub returns-then-is_first : goal.returns-then-is_first
returns-then-is_first c = let p = c.args.self.now in let s = lent p.line.sheet in
    good_first s p.arcs.now c.args.k (ap (present s) (sym c.four_at-arc.ensures) ∙ sym c.is_window.ensures ∙ c.if-not-is_window.false) c.if-is_first.true

pub edge_for-before-requires : goal.edge_for-before-requires
edge_for-before-requires c = let p = c.args.self.now in let s = lent p.line.sheet in
    let some = c.if-is_first.false in
    let g = c.requires.before (c.args.k - 1) (omega arith) in
    ap (present s) c.four_at.ensures ∙ step_present s p.arcs.now (c.args.k - 1) g.step g.stands g.present

pub returns : goal.returns
returns c = let p = c.args.self.now in let s = lent p.line.sheet in
    let some = c.if-is_first.false in
    good_next s p.arcs.now p.line.time.top p.line.time.bottom c.args.k some (c.requires.before (c.args.k - 1) (omega arith))
    (ap (present s) (sym c.four_at-arc.ensures) ∙ sym c.is_window.ensures ∙ c.if-not-is_window.false) c.edge_for-before.result c.edge_for-here.result
    (c.edge_for-before.ensures ∙ ap (edge_for s p.line.time.top p.line.time.bottom) c.four_at.ensures)
    (c.edge_for-here.ensures ∙ ap (edge_for s p.line.time.top p.line.time.bottom) c.four_at-arc.ensures)
