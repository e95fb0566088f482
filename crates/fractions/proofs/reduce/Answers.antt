-- `fractions::reduce` meets its contract: both divided by their greatest common divisor, which is above 0 since it divides the bottom.
use native.Mathlib.Nat.{pos_of_dvd_of_pos}
use Rattle.theory.proofs.Fractions.{greatest_parts}
use Rattle.fractions.proofs.reduce.Goals as goal

pub nonzero_div-result : goal.nonzero_div-result
nonzero_div-result c = pos_of_dvd_of_pos c.gcd-divisor.ensures.right c.requires

pub nonzero_div-result-2 : goal.nonzero_div-result-2
nonzero_div-result-2 c = pos_of_dvd_of_pos c.gcd-divisor.ensures.right c.requires

pub returns : goal.returns
returns c = let p = greatest_parts c.gcd-divisor.result c.args.top c.args.bottom c.requires c.gcd-divisor.ensures in
    record { lowest = p.0; worth = p.1; positive = p.2 }
