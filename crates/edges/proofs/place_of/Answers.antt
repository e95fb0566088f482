-- `edges::place_of` meets its contract: its sums are small, since n, t and the kind are.
use native.Mathlib.Omega.{arith}
use Rattle.edges.proofs.Naming.{row_small, place_small}
use Rattle.edges.proofs.place_of.Goals as goal

pub overflow_mul-row-2 : goal.overflow_mul-row-2
overflow_mul-row-2 c = let p = c.requires in omega (arith, row_small c.args.n c.args.t c.args.kind c.args.to p.0 p.1 p.2 p.4)

pub overflow_add-row-2 : goal.overflow_add-row-2
overflow_add-row-2 c = let p = c.requires in omega (arith, row_small c.args.n c.args.t c.args.kind c.args.to p.0 p.1 p.2 p.4)

pub overflow_mul-result : goal.overflow_mul-result
overflow_mul-result c = let p = c.requires in
    omega (arith, place_small _ c.args.n c.args.from (row_small c.args.n c.args.t c.args.kind c.args.to p.0 p.1 p.2 p.4) p.0 p.6)

pub overflow_add-result : goal.overflow_add-result
overflow_add-result c = let p = c.requires in
    omega (arith, place_small _ c.args.n c.args.from (row_small c.args.n c.args.t c.args.kind c.args.to p.0 p.1 p.2 p.4) p.0 p.6)
