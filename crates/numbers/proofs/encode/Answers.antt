-- `numbers::encode` meets its contract. `!v` of a negative v has the bits of -v - 1.
use mathlib.Core.Path.{ap}
use native.Mathlib.Omega.{arith}
use Rattle.numbers.specs.Signs.{encoded}
use Rattle.numbers.proofs.Signs.{flip, keep, is_neg, is_pos}
use Rattle.numbers.proofs.encode.Goals as goal

pub overflow_cast-result : goal.overflow_cast-result
overflow_cast-result c = rw (flip c.args.v c.ranges.v c.if-v-lt0.true) (tt, omega (arith, c.ranges.v.sfits))

pub overflow_mul-result : goal.overflow_mul-result
overflow_mul-result c = rw (flip c.args.v c.ranges.v c.if-v-lt0.true) (omega (arith, c.ranges.v.sfits))

pub overflow_add-result : goal.overflow_add-result
overflow_add-result c = rw (flip c.args.v c.ranges.v c.if-v-lt0.true) (omega (arith, c.ranges.v.sfits))

pub overflow_cast-result-else-v-lt0 : goal.overflow_cast-result-else-v-lt0
overflow_cast-result-else-v-lt0 c = rw (keep c.args.v c.ranges.v c.if-v-lt0.false) (tt, omega (arith, c.ranges.v.sfits))

pub overflow_mul-result-else-v-lt0 : goal.overflow_mul-result-else-v-lt0
overflow_mul-result-else-v-lt0 c = rw (keep c.args.v c.ranges.v c.if-v-lt0.false) (omega (arith, c.ranges.v.sfits))

pub returns-then-v-lt0 : goal.returns-then-v-lt0
returns-then-v-lt0 c = rw (flip c.args.v c.ranges.v c.if-v-lt0.true) (ap encoded (is_neg c.args.v c.ranges.v c.if-v-lt0.true))

pub returns-else-v-lt0 : goal.returns-else-v-lt0
returns-else-v-lt0 c = rw (keep c.args.v c.ranges.v c.if-v-lt0.false) (ap encoded (is_pos c.args.v c.ranges.v c.if-v-lt0.false))
