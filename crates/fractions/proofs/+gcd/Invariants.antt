-- `fractions::gcd` meets its contract: where b is 0 the divisor is a; else b and the remainder have the divisors of a and b. The measure is b.
use Rattle.fractions.proofs.+gcd.Given as goal

abbrev pub decreases-gcd : goal.decreases-gcd
decreases-gcd l = l.b
