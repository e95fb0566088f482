-- The invariant: `least` is the smallest of the nodes passed, and u was not met again. The measure is how many nodes are left.
use Rattle.std.proofs.Common.{rules}
use Prim.Native.Nat.{◌*◌, ◌<◌}
use native.Mathlib.Omega.{arith}
use Rattle.circuits.specs.Ways.{before}
use Rattle.theory.proofs.Backs.{back_none}
use Rattle.circuits.proofs.Ways.{sound_here, going_none, going_few, going_on, going_round}
use Rattle.circuits.proofs.go_round.Goals as goal

pub offset_bounds-marks-u : goal.offset_bounds-marks-u
offset_bounds-marks-u c = let a = c.args in omega (arith, c.requires.0.rowed.few, sound_here a.marks.now.row.now a.marks.now.n a.marks.now.positions a.u c.requires.0 0 a.u (back_none (before a.marks.now.row.now) a.u))

pub bounds-marks-u : goal.bounds-marks-u
bounds-marks-u c = let a = c.args in omega (arith, c.requires.0.rowed.long, sound_here a.marks.now.row.now a.marks.now.n a.marks.now.positions a.u c.requires.0 0 a.u (back_none (before a.marks.now.row.now) a.u))

pub loop-x-init : goal.loop-x-init
loop-x-init c = let a = c.args in going_none (before a.marks.now.row.now) a.u c.departure-x.result c.departure-x.ensures

pub overflow_add-count : goal.overflow_add-count
overflow_add-count c =
    let few : c.loop-x.count < c.args.marks.now.positions * c.args.marks.now.n = let a = c.args in
    omega (arith, c.requires.1.1, going_few (before a.marks.now.row.now) a.u c.loop-x.least c.loop-x.count c.loop-x.x c.loop-x.invariant c.requires.1.0 c.requires.1.2 c.loop-x-test.true) in
    omega (arith, c.requires.0.rowed.few, few)

pub offset_bounds-marks-x : goal.offset_bounds-marks-x
offset_bounds-marks-x c =
    let in_row : c.loop-x.x < c.args.marks.now.positions * c.args.marks.now.n = let a = c.args in sound_here a.marks.now.row.now a.marks.now.n a.marks.now.positions a.u c.requires.0 c.loop-x.count c.loop-x.x c.loop-x.invariant.there in
    omega (arith, c.requires.0.rowed.few, in_row)

pub bounds-marks-x : goal.bounds-marks-x
bounds-marks-x c =
    let in_row : c.loop-x.x < c.args.marks.now.positions * c.args.marks.now.n = let a = c.args in sound_here a.marks.now.row.now a.marks.now.n a.marks.now.positions a.u c.requires.0 c.loop-x.count c.loop-x.x c.loop-x.invariant.there in
    omega (arith, c.requires.0.rowed.long, in_row)

pub loop-x-smaller : goal.loop-x-smaller
loop-x-smaller c =
    let few : c.loop-x.count < c.args.marks.now.positions * c.args.marks.now.n = let a = c.args in
    omega (arith, c.requires.1.1, going_few (before a.marks.now.row.now) a.u c.loop-x.least c.loop-x.count c.loop-x.x c.loop-x.invariant c.requires.1.0 c.requires.1.2 c.loop-x-test.true) in
    omega (arith, few)

pub loop-x-preserved : goal.loop-x-preserved
loop-x-preserved c = let a = c.args in search (rules, going_on (before a.marks.now.row.now) a.u c.loop-x.least c.loop-x.count c.loop-x.x c.loop-x.invariant c.loop-x-test.true c.departure-x-in-loop-x.result c.departure-x-in-loop-x.ensures)

pub returns : goal.returns
returns c = let a = c.args in going_round (before a.marks.now.row.now) a.u c.loop-x.least c.loop-x.count c.loop-x.x c.loop-x.invariant c.loop-x-test.false
