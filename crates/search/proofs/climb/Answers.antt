-- `search::climb` meets its contract. The invariant: the climb stands, with its circuit; the measure is what is left of the climb, which falls
-- since every step goes to a later cycle time with a bottom up to n.
use Rattle.std.proofs.lemmas.Result.{err_from_is_err_and}
use Rattle.search.proofs.Asking.{stands_ready}
use Rattle.search.proofs.Rising.{fresh_stands, climb_asks, climb_next, climbed_low, climbed_none}
use Rattle.search.proofs.climb.Goals as goal

pub loop-above-init : goal.loop-above-init
loop-above-init c = fresh_stands _ c.args.admitted.now.admitted _ _ c.requires

pub judge_at-requires : goal.judge_at-requires
judge_at-requires c = stands_ready _ c.args.admitted.now.admitted _ _ _ c.loop-above.invariant

pub climb_by-requires : goal.climb_by-requires
climb_by-requires c = climb_asks _ c.args.admitted.now.admitted _ _ _ c.loop-above.invariant _ _ c.judge_at.ensures _ c.in-Some.is

pub returns-in_err-at : goal.returns-in_err-at
returns-in_err-at c = let p = err_from_is_err_and c.from_residual.result c.from_residual.ensures.1 in
    rw (p.1, p.2) (climbed_none _ c.args.admitted.now.admitted _ _ _ c.loop-above.invariant _ _ c.judge_at.ensures _ c.in-Some.is _ _ c.climb_by.ensures _ c.in_err-at.was)

pub loop-above-smaller : goal.loop-above-smaller
loop-above-smaller c = (climb_next _ c.args.admitted.now.admitted _ _ _ c.loop-above.invariant _ _ c.judge_at.ensures _ c.in-Some.is _ _ c.climb_by.ensures _ c.in_ok-at.was).1

pub loop-above-preserved : goal.loop-above-preserved
loop-above-preserved c = (climb_next _ c.args.admitted.now.admitted _ _ _ c.loop-above.invariant _ _ c.judge_at.ensures _ c.in-Some.is _ _ c.climb_by.ensures _ c.in_ok-at.was).0

pub returns : goal.returns
returns c = climbed_low _ c.args.admitted.now.admitted _ _ _ c.loop-above.invariant _ _ c.judge_at.ensures c.in_default.is
