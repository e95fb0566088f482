-- `tables::is_absent` meets its contract: the test of the bits is that of the integer.
use Rattle.tables.proofs.Laws.{is_absent}
use Rattle.tables.proofs.is_absent.Goals as goal

pub returns : goal.returns
returns c = is_absent c.args.value c.ranges.value.sfits
