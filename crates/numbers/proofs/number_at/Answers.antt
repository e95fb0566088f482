-- `numbers::number_at` meets its contract: at most four groups.
use native.Mathlib.Omega.{arith}
use Rattle.numbers.proofs.number_at.Goals as goal

pub number_in-requires : goal.number_in-requires
number_in-requires c = omega arith

pub returns : goal.returns
returns c = c.number_in.ensures
