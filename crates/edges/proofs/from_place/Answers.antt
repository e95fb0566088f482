-- The place k names kind, to and from.
use mathlib.Core.Path.{ap}
use Prim.Native.Nat.{◌/◌}
use native.Mathlib.Omega.{arith}
use native.Mathlib.Nat.{mod-lt}
use Rattle.numbers.proofs.Signs.{passed}
use Rattle.tables.proofs.Laws.{square}
use Rattle.edges.specs.Edges.{from_place}
use Rattle.edges.proofs.Places.{kind_few}
use Rattle.edges.proofs.from_place.Goals as goal

pub overflow_mul-result : goal.overflow_mul-result
overflow_mul-result c = omega (arith, square c.args.n c.requires.1)

pub overflow_cast-result : goal.overflow_cast-result
overflow_cast-result c = omega (arith, kind_few c.args.n c.args.k c.requires.0 c.requires.2)

pub overflow_add-result : goal.overflow_add-result
overflow_add-result c = omega (arith, mod-lt (c.args.k / c.args.n) c.requires.0, c.requires.1)

pub overflow_cast-result-2 : goal.overflow_cast-result-2
overflow_cast-result-2 c = omega (arith, mod-lt (c.args.k / c.args.n) c.requires.0, c.requires.1)

pub overflow_add-result-2 : goal.overflow_add-result-2
overflow_add-result-2 c = omega (arith, mod-lt c.args.k c.requires.0, c.requires.1)

pub overflow_cast-result-3 : goal.overflow_cast-result-3
overflow_cast-result-3 c = omega (arith, mod-lt c.args.k c.requires.0, c.requires.1)

pub returns : goal.returns
returns c = let a = c.args in ap (from_place a.n a.k) (passed a.value c.ranges.value.sfits)
