-- `limits::next_low` meets its contract: where c is below 0 the circuit gains, so that W and -c are differences.
use Rattle.limits.proofs.next_low.Goals as goal

pub overflow_sub-weight : goal.overflow_sub-weight
overflow_sub-weight c = c.requires c.if-weight.true

pub returns-then-weight : goal.returns-then-weight
returns-then-weight c = (c.if-weight.true, c.reduce-limit.ensures)

pub returns-then-weight-2 : goal.returns-then-weight-2
returns-then-weight-2 c = (c.if-weight.false, c.if-weight-2.true)

pub returns : goal.returns
returns c = (c.if-weight.false, c.if-weight-2.false)
