-- `search::descend_from` meets its contract. The invariant: the descent stands, with its circuit, over what works; the measure falls since
-- every step goes to an earlier cycle time.
use Rattle.search.proofs.Falling.{fall_asks, descend_next, descend_rests}
use Rattle.search.proofs.descend_from.Goals as goal

pub descend_by-at-requires : goal.descend_by-at-requires
descend_by-at-requires c = fall_asks _ c.args.admitted.now.admitted _ _ _ c.loop-above.invariant.hangs _ _ c.judge_at.ensures _ c.in-Some.is

pub loop-above-smaller : goal.loop-above-smaller
loop-above-smaller c = (descend_next _ c.args.admitted.now.admitted _ _ _ c.loop-above.invariant _ _ c.judge_at.ensures _ c.in-Some.is _ _ c.descend_by-at.ensures).1

pub loop-above-preserved : goal.loop-above-preserved
loop-above-preserved c = (descend_next _ c.args.admitted.now.admitted _ _ _ c.loop-above.invariant _ _ c.judge_at.ensures _ c.in-Some.is _ _ c.descend_by-at.ensures).0

pub returns : goal.returns
returns c = descend_rests _ c.args.admitted.now.admitted _ _ _ c.loop-above.invariant _ _ c.judge_at.ensures c.in_default.is
