-- `lines::put_numbers` meets its contract. The invariant: the first number is added, and those after it that the loop has met, each after a space.
use mathlib.Core.List.{append-nil}
use native.Mathlib.Omega.{arith}
use Rattle.lines.proofs.Listed.{numbers_more, numbers_all}
use Rattle.lines.proofs.put_numbers.Goals as goal

pub loop-number-init : goal.loop-number-init
unfolding Rattle.lines.proofs.Listed.spaced
loop-number-init c = let e = c.number.ensures in (omega (arith, e.short), rw (append-nil _) e.adds)

pub loop-number-preserved : goal.loop-number-preserved
loop-number-preserved c = let i = c.loop-number.invariant in
    let e = c.put_spaced.ensures in
    (omega (arith, i.0, e.short), numbers_more _ _ c.loop-number.number-index i.1 c.loop-number-test.true e.adds)

pub returns-clause-adds : goal.returns-clause-adds
returns-clause-adds c = rw c.in-Some.ensures.cases.0 (numbers_all _ _ c.loop-number.number-index c.loop-number.invariant.1 c.loop-number-test.false c.byte.ensures)
