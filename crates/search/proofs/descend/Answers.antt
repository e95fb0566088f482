-- `search::descend` meets its contract: it starts above every limit.
use Rattle.search.proofs.Falling.{overhead_hangs, fall_asks, fall_next}
use Rattle.search.proofs.descend.Goals as goal

pub descend_by-next-requires : goal.descend_by-next-requires
descend_by-next-requires c = fall_asks _ c.args.admitted.now.admitted _ _ _ (overhead_hangs _ _ _ _ c.requires) _ _ c.judge_at.ensures _ c.in_ok-above.was

pub descend_from-requires : goal.descend_from-requires
descend_from-requires c = (fall_next _ c.args.admitted.now.admitted _ _ _ (overhead_hangs _ _ _ _ c.requires) _ _ c.judge_at.ensures _ c.in_ok-above.was _ _ c.descend_by-next.ensures).0
