-- The complement of the bits of a limit below 0 is one less than its size.
use native.Mathlib.Omega.{arith}
use mathlib.Core.Path.{ap, ◌∙◌}
use Rattle.numbers.proofs.Signs.{flip, is_neg, is_pos}
use native.Mathlib.Numerals.{add-one}
use lib.Signed.{mag}
use Rattle.windows.specs.Arcs.{down}
use Rattle.edges.proofs.lower.Goals as goal

pub overflow_cast-result : goal.overflow_cast-result
overflow_cast-result c = rw (flip c.args.value c.ranges.value c.if-value-lt0.true) (tt, omega (arith, c.ranges.value.sfits))

pub overflow_cast-result-then-value-lt0 : goal.overflow_cast-result-then-value-lt0
overflow_cast-result-then-value-lt0 c = rw (flip c.args.value c.ranges.value c.if-value-lt0.true) (omega (arith, c.ranges.value.sfits))

pub overflow_add-result : goal.overflow_add-result
overflow_add-result c = rw (flip c.args.value c.ranges.value c.if-value-lt0.true) (omega (arith, c.ranges.value.sfits))

pub returns-then-value-lt0 : goal.returns-then-value-lt0
returns-then-value-lt0 c = rw (flip c.args.value c.ranges.value c.if-value-lt0.true) (add-one (mag c.args.value) ∙ ap down (is_neg c.args.value c.ranges.value c.if-value-lt0.true), omega (arith, c.ranges.value.sfits))

pub returns-else-value-lt0 : goal.returns-else-value-lt0
returns-else-value-lt0 c = (ap down (is_pos c.args.value c.ranges.value c.if-value-lt0.false), omega arith)
