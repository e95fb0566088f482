-- `ends::find` meets its contract: what the climb comes to, with the circuits handed over.
use Rattle.ends.proofs.Finishing.{find_fresh, find_unrefused, find_low, climbs_low, climbs_none, none_fit, lacks}
use Rattle.ends.proofs.find.Goals as goal

pub climb-requires : goal.climb-requires
climb-requires c = find_fresh _ c.args.admitted.now.admitted _ _ _ _ c.requires

pub finish_low-requires : goal.finish_low-requires
finish_low-requires c = find_low _ c.args.admitted.now.admitted _ _ _ _ c.requires _ _ _ (climbs_low _ _ _ _ c.climb.ensures _ c.in-Ok.is)

pub copy-requires : goal.copy-requires
copy-requires c = (none_fit _ c.args.admitted.now.admitted _ _ _ _ c.requires _ _ _ _ (climbs_none _ _ _ _ c.climb.ensures _ c.in-Err.is)).0

pub copy-requires-in-Err : goal.copy-requires-in-Err
copy-requires-in-Err c = (none_fit _ c.args.admitted.now.admitted _ _ _ _ c.requires _ _ _ _ (climbs_none _ _ _ _ c.climb.ensures _ c.in-Err.is)).1

pub returns-in-Err : goal.returns-in-Err
returns-in-Err c = lacks _ _ _ (find_unrefused _ c.args.admitted.now.admitted _ _ _ _ c.requires) _ _ _ (climbs_none _ _ _ _ c.climb.ensures _ c.in-Err.is).0 _ _ c.copy.ensures c.copy-in-Err.ensures
