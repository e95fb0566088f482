-- The two ways of the branch are the two cases of `raise`.
use mathlib.Core.Path.{◌≡◌, refl, sym, ap, subst}
use native.Mathlib.Omega.{arith}
use Rattle.edges.specs.declared.Edge.{Edge}
use Rattle.turns.specs.Rounds.{Named, named, board, Reach}
use Rattle.turns.proofs.Folds.{raise_more, raise_same}
use Rattle.turns.proofs.step.Goals as goal

pub mark_of-requires : goal.mark_of-requires
mark_of-requires c =
    let reach : Reach c.edge_of-e.result c.args.old.now c.args.new.now c.args.row.now = let a = c.args in subst (λ (e : Edge). Reach e a.old.now a.new.now a.row.now) (sym c.edge_of-e.ensures) c.requires.reach in
    (reach.departs_few, omega (arith, c.requires.kind_few))

pub returns-then-new-arrival : goal.returns-then-new-arrival
returns-then-new-arrival c =
    let A : Named = let a = c.args in named a.w a.turn.at in
    let marked : c.mark_of.result ≡ A.mark = omega (arith, c.mark_of.ensures, ap (λ (x : Edge). x.departure) c.edge_of-e.ensures) in
    let m = c.saturating_sub-most in let a = c.args in
    raise_more a.old.now A (board a.new.now a.row.now) c.mark_of.result c.edge_of-e.result m.result marked c.edge_of-e.ensures m.ensures (omega (arith, c.if-new-arrival.true))

pub returns-else-new-arrival : goal.returns-else-new-arrival
returns-else-new-arrival c =
    let A : Named = let a = c.args in named a.w a.turn.at in
    let m = c.saturating_sub-most in let a = c.args in
    raise_same a.old.now A (board a.new.now a.row.now) A.mark c.edge_of-e.result m.result refl c.edge_of-e.ensures m.ensures (omega (arith, c.if-new-arrival.false))
