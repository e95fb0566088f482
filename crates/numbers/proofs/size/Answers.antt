-- `numbers::size` meets its contract: by the ranges of one, two, three and four groups.
use native.Mathlib.Omega.{arith}
use Rattle.numbers.proofs.Writing.{size_one, size_two, size_three, size_four}
use Rattle.numbers.proofs.size.Goals as goal

pub returns-in-0-to-127 : goal.returns-in-0-to-127
returns-in-0-to-127 c = size_one c.args.value (omega arith)

pub returns-in-128-to-16383 : goal.returns-in-128-to-16383
returns-in-128-to-16383 c = size_two c.args.value (omega arith) (omega arith)

pub returns-in-16384-to-2097151 : goal.returns-in-16384-to-2097151
returns-in-16384-to-2097151 c = size_three c.args.value (omega arith) (omega arith)

pub returns-in-2097152-to-max : goal.returns-in-2097152-to-max
returns-in-2097152-to-max c = size_four c.args.value (omega arith)
