-- `search::climb` meets its contract. The invariant: the climb stands, with its circuit; the measure is what is left of the climb, which falls
-- since every step goes to a later cycle time with a bottom up to n.
use Rattle.tables.specs.Lent.{lent}
use Rattle.search.specs.Searches.{LowStands}
use Rattle.search.proofs.Rising.{to_climb}
use Rattle.search.proofs.climb.Given as goal

abbrev pub invariant-loop-above : goal.invariant-loop-above
invariant-loop-above l = LowStands (lent l.admitted.sheet) l.at l.low l.found

abbrev pub decreases-loop-above : goal.decreases-loop-above
decreases-loop-above l = to_climb (lent l.admitted.sheet) l.at
