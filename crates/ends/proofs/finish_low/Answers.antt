-- `ends::finish_low` meets its contract: low's circuit goes into the first buffer, then high's, if there is one, into the second.
use Rattle.ends.proofs.Finishing.{low_fits, low_high, finds}
use Rattle.ends.proofs.finish_low.Goals as goal

pub copy-requires : goal.copy-requires
copy-requires c = low_fits _ c.args.admitted.now.admitted _ _ _ _ _ c.requires

pub find_high-requires : goal.find_high-requires
find_high-requires c = low_high _ c.args.admitted.now.admitted _ _ _ _ _ c.requires

pub returns : goal.returns
returns c = finds _ c.args.admitted.now.admitted _ _ _ _ _ c.requires _ c.copy.ensures c.find_high.result _ c.find_high.ensures
