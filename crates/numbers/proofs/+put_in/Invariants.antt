-- `numbers::put_in` meets its contract: the first group is stored, and the rest is written after it; the groups that are left fall.
use Rattle.numbers.proofs.+put_in.Given as goal

abbrev pub decreases-put_in : goal.decreases-put_in
decreases-put_in l = l.left
