-- `ends::find_high` meets its contract: what the descent comes to, with its circuit handed over.
use Rattle.ends.proofs.Finishing.{high_overhead, high_open, high_fits, high_up_to, open_works, rests_high}
use Rattle.ends.proofs.find_high.Goals as goal

pub descend-requires : goal.descend-requires
descend-requires c = high_overhead _ c.args.admitted.now.admitted _ _ _ _ c.requires

pub copy-requires : goal.copy-requires
copy-requires c = high_fits _ c.args.admitted.now.admitted _ _ _ _ c.requires _ _ _ (rests_high _ _ _ _ c.descend.ensures _ c.in_ok-high.was)

pub returns-in_err-high : goal.returns-in_err-high
returns-in_err-high c = rw c.from_residual.ensures (high_open _ c.args.admitted.now.admitted _ _ _ _ c.requires (open_works _ _ _ _ c.descend.ensures c.in_err-high.was))

pub returns : goal.returns
returns c = high_up_to _ c.args.admitted.now.admitted _ _ _ _ c.requires _ _ _ (rests_high _ _ _ _ c.descend.ensures _ c.in_ok-high.was) _ c.copy.ensures
