-- `search::descend_from` meets its contract. The invariant: the descent stands, with its circuit, over what works; the measure falls since
-- every step goes to an earlier cycle time.
use Rattle.tables.specs.Lent.{lent}
use Rattle.search.specs.Searches.{HighStands}
use Rattle.search.proofs.Falling.{to_descend}
use Rattle.search.proofs.descend_from.Given as goal

abbrev pub invariant-loop-above : goal.invariant-loop-above
invariant-loop-above l = HighStands (lent l.admitted.sheet) l.at l.high l.found

abbrev pub decreases-loop-above : goal.decreases-loop-above
decreases-loop-above l = to_descend (lent l.admitted.sheet) l.at
