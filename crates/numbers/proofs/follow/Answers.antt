-- `numbers::follow` meets its contract: by what the rest is. What was read in three groups is below 2 ^ 21, so that the value fits.
use Rattle.numbers.specs.Groups.{followed}
use Rattle.numbers.proofs.Reading.{followed_zero, followed_more}
use mathlib.Core.Path.{refl}
use native.Mathlib.Omega.{arith}
use Rattle.numbers.proofs.follow.Goals as goal

pub overflow_mul-result : goal.overflow_mul-result
overflow_mul-result c = omega (arith, rw c.in-Ok.is at c.requires.rest)

pub overflow_add-result : goal.overflow_add-result
overflow_add-result c = omega (arith, rw c.in-Ok.is at c.requires.rest)

pub returns-then-is_needless : goal.returns-then-is_needless
returns-then-is_needless c = let a = c.args in
    rw c.in-Ok.is (followed_zero a.first a.low c.in-Ok.rest.value c.in-Ok.rest.at c.in-Ok.rest.next c.if-is_needless.true)

pub returns-else-is_needless : goal.returns-else-is_needless
returns-else-is_needless c = let a = c.args in
    rw c.in-Ok.is (followed_more a.first a.low c.in-Ok.rest.value c.in-Ok.rest.at c.in-Ok.rest.next c.if-is_needless.false)

pub returns-in-Err : goal.returns-in-Err
unfolding followed
returns-in-Err c = rw c.in-Err.is refl
