-- The arc's two nodes have times in reach, and the test is the arc's.
use mathlib.Core.Path.{sym, ap, ap₂, ◌∙◌, subst}
use Prim.Native.Nat.{ℕ, ◌+◌}
use native.Mathlib.Omega.{arith}
use lib.Dec.{leb}
use lib.ListN.{get_or}
use lib.IntN.{pos}
use Rattle.edges.specs.declared.Edge.{Edge}
use Rattle.keeping.specs.Breaks.{lift, lifted_at, keeps_at, Reach}
use Rattle.keeping.proofs.Reach.{passed}
use Rattle.keeping.proofs.Windows.{granted}
use Rattle.keeping.proofs.proposals.Proposal.is_kept.Goals as goal

pub edge_at-arc-requires : goal.edge_at-arc-requires
edge_at-arc-requires c = let p = c.args.self.now in let g = granted p.line p.times.now p.unrefused in let w = c.requires.window in
    (g.sheet_ok.size.few_events, g.sheet_ok.size.few_positions, w.0, g.p_small, g.q_small, w.1, w.2)

pub offset_bounds-self-arc : goal.offset_bounds-self-arc
offset_bounds-self-arc c = let p = c.args.self.now in
    let r : Reach c.edge_at-arc.result p.times.now = subst (λ (e : Edge). Reach e p.times.now) (sym c.edge_at-arc.ensures) c.requires.reach in
    omega (arith, r.departs_few)

pub bounds-self-arc : goal.bounds-self-arc
bounds-self-arc c = let p = c.args.self.now in
    let r : Reach c.edge_at-arc.result p.times.now = subst (λ (e : Edge). Reach e p.times.now) (sym c.edge_at-arc.ensures) c.requires.reach in
    r.departs

pub lifted-departure-requires : goal.lifted-departure-requires
lifted-departure-requires c = let p = c.args.self.now in
    let r : Reach c.edge_at-arc.result p.times.now = subst (λ (e : Edge). Reach e p.times.now) (sym c.edge_at-arc.ensures) c.requires.reach in
    rw (passed (get_or p.times.now c.edge_at-arc.result.departure (pos 0)) r.leaves_in) r.leaves_in

pub offset_bounds-self-arc-2 : goal.offset_bounds-self-arc-2
offset_bounds-self-arc-2 c = let p = c.args.self.now in
    let r : Reach c.edge_at-arc.result p.times.now = subst (λ (e : Edge). Reach e p.times.now) (sym c.edge_at-arc.ensures) c.requires.reach in
    omega (arith, r.arrives_few)

pub bounds-self-arc-2 : goal.bounds-self-arc-2
bounds-self-arc-2 c = let p = c.args.self.now in
    let r : Reach c.edge_at-arc.result p.times.now = subst (λ (e : Edge). Reach e p.times.now) (sym c.edge_at-arc.ensures) c.requires.reach in
    r.arrives

pub lifted-arrival-requires : goal.lifted-arrival-requires
lifted-arrival-requires c = let p = c.args.self.now in
    let r : Reach c.edge_at-arc.result p.times.now = subst (λ (e : Edge). Reach e p.times.now) (sym c.edge_at-arc.ensures) c.requires.reach in
    rw (passed (get_or p.times.now c.edge_at-arc.result.arrival (pos 0)) r.comes_in) r.comes_in

pub overflow_add-result : goal.overflow_add-result
overflow_add-result c = let p = c.args.self.now in
    let r : Reach c.edge_at-arc.result p.times.now = subst (λ (e : Edge). Reach e p.times.now) (sym c.edge_at-arc.ensures) c.requires.reach in
    omega (arith, r.rise_small, c.lifted-departure.ensures.1)

pub overflow_add-result-2 : goal.overflow_add-result-2
overflow_add-result-2 c = let p = c.args.self.now in
    let r : Reach c.edge_at-arc.result p.times.now = subst (λ (e : Edge). Reach e p.times.now) (sym c.edge_at-arc.ensures) c.requires.reach in
    omega (arith, r.fall_small, c.lifted-arrival.ensures.1)

pub returns : goal.returns
unfolding keeps_at
returns c = let p = c.args.self.now in let times = p.times.now in
    let r : Reach c.edge_at-arc.result p.times.now = subst (λ (e : Edge). Reach e p.times.now) (sym c.edge_at-arc.ensures) c.requires.reach in
    let departure = c.lifted-departure.ensures.0 ∙ ap lift (passed (get_or times c.edge_at-arc.result.departure (pos 0)) r.leaves_in) in
    let arrival = c.lifted-arrival.ensures.0 ∙ ap lift (passed (get_or times c.edge_at-arc.result.arrival (pos 0)) r.comes_in) in
    ap₂ (λ (x y : ℕ). leb (x + c.edge_at-arc.result.rise) (y + c.edge_at-arc.result.fall)) departure arrival
    ∙ ap (λ (a : Edge). leb (lifted_at times a.departure + a.rise) (lifted_at times a.arrival + a.fall)) c.edge_at-arc.ensures
