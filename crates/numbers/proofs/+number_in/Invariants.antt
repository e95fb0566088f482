-- `numbers::number_in` meets its contract. It is its definition, unrolled once; the groups that are left fall.
use Rattle.numbers.proofs.+number_in.Given as goal

abbrev pub decreases-number_in : goal.decreases-number_in
decreases-number_in l = l.left
