-- `fractions::gcd` meets its contract: where b is 0 the divisor is a; else b and the remainder have the divisors of a and b. The measure is b.
use Rattle.theory.proofs.Fractions.{greatest_zero, greatest_step}
use native.Mathlib.Nat.{mod-lt, pos_of_ne-zero}
use Rattle.fractions.proofs.+gcd.Goals as goal

pub nonzero_rem-a : goal.nonzero_rem-a
nonzero_rem-a t c = pos_of_ne-zero c.if-b-eq0.false

pub gcd-requires : goal.gcd-requires
gcd-requires t c = (rw (← c.decreases) (mod-lt c.args.a (pos_of_ne-zero c.if-b-eq0.false)), tt)

pub returns-then-b-eq0 : goal.returns-then-b-eq0
returns-then-b-eq0 t c = rw c.if-b-eq0.true (greatest_zero c.args.a)

pub returns-else-b-eq0 : goal.returns-else-b-eq0
returns-else-b-eq0 t c = greatest_step c.gcd.result c.args.a c.args.b c.gcd.ensures
