-- The bits of a limit that is not below 0 are the limit.
use native.Mathlib.Omega.{arith}
use mathlib.Core.Path.{ap}
use Rattle.numbers.proofs.Signs.{keep, is_neg, is_pos}
use Rattle.windows.specs.Arcs.{up}
use Rattle.edges.proofs.upper.Goals as goal

pub overflow_cast-result : goal.overflow_cast-result
overflow_cast-result c = rw (keep c.args.value c.ranges.value c.if-value-lt0.false) (tt, omega (arith, c.ranges.value.sfits))

pub overflow_cast-result-else-value-lt0 : goal.overflow_cast-result-else-value-lt0
overflow_cast-result-else-value-lt0 c = rw (keep c.args.value c.ranges.value c.if-value-lt0.false) (omega (arith, c.ranges.value.sfits))

pub returns-then-value-lt0 : goal.returns-then-value-lt0
returns-then-value-lt0 c = (ap up (is_neg c.args.value c.ranges.value c.if-value-lt0.true), omega arith)

pub returns-else-value-lt0 : goal.returns-else-value-lt0
returns-else-value-lt0 c = rw (keep c.args.value c.ranges.value c.if-value-lt0.false) (ap up (is_pos c.args.value c.ranges.value c.if-value-lt0.false), c.ranges.value.sfits)
