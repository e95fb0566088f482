-- `search::judge_at` meets its contract: what Ask answers, with the sums of the circuit that refutes.
use Rattle.search.proofs.Asking.{judged_works, judged_lists, judged_above}
use Rattle.search.proofs.judge_at.Goals as goal

pub weigh-weight-requires : goal.weigh-weight-requires
weigh-weight-requires c = judged_lists _ c.args.admitted.now.admitted c.args.at _ _ c.ask_at.ensures _ c.in-Refuted.is

pub returns-in-Accepted : goal.returns-in-Accepted
returns-in-Accepted c = judged_works _ c.args.admitted.now.admitted c.args.at _ _ c.ask_at.ensures _ c.in-Accepted.is

pub returns-in-Refuted : goal.returns-in-Refuted
returns-in-Refuted c = judged_above _ c.args.admitted.now.admitted c.args.at _ _ c.ask_at.ensures _ c.in-Refuted.is _ c.weigh-weight.ensures.sums
