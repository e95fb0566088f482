-- `search::climb_by` meets its contract: each case of what the sums say is a case of the climb.
use Rattle.search.proofs.Rising.{rises_on, rises_alone, rises_both}
use Rattle.search.proofs.climb_by.Goals as goal

pub returns-in-On : goal.returns-in-On
returns-in-On c = rises_on _ c.args.held _ _ _ _ c.next_low.ensures _ c.in-On.is _ c.copy.ensures

pub returns-in-Alone : goal.returns-in-Alone
returns-in-Alone c = rises_alone _ _ _ _ _ _ c.next_low.ensures c.in-Alone.is _ c.copy-in-Alone.ensures

pub returns-in-Both : goal.returns-in-Both
returns-in-Both c = rises_both _ _ _ _ _ _ c.next_low.ensures c.in-Both.is
