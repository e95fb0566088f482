-- The invariant: the way back has come to u, and the nodes that it passed are seen. The measure is how many are not.
use mathlib.Core.Path.{refl, ◌∙◌}
use mathlib.Core.Bool.{true}
use Prim.Native.Nat.{◌<◌}
use native.Mathlib.Omega.{arith}
use lib.ListN.{length, length-set}
use Rattle.circuits.proofs.Ways.{others_less, passed_none, passed_here, passed_met, passed_more}
use Rattle.circuits.proofs.meet.Goals as goal

pub loop-seen-init : goal.loop-seen-init
loop-seen-init c = let a = c.args in (refl, passed_none a.marks.now.row.now a.marks.now.n a.marks.now.positions a.v a.seen.now c.requires.1)

pub bounds-seen-u : goal.bounds-seen-u
bounds-seen-u c =
    let here : c.loop-seen.u < length c.loop-seen.seen = let a = c.args in
    omega (arith, c.loop-seen.invariant.0, c.requires.1.room, passed_here a.marks.now.row.now a.marks.now.n a.marks.now.positions a.v c.requires.0 c.loop-seen.seen c.loop-seen.u c.loop-seen.invariant.1) in
    here

pub bounds-seen-u-in-loop-seen : goal.bounds-seen-u-in-loop-seen
bounds-seen-u-in-loop-seen c =
    let here : c.loop-seen.u < length c.loop-seen.seen = let a = c.args in
    omega (arith, c.loop-seen.invariant.0, c.requires.1.room, passed_here a.marks.now.row.now a.marks.now.n a.marks.now.positions a.v c.requires.0 c.loop-seen.seen c.loop-seen.u c.loop-seen.invariant.1) in
    here

pub offset_bounds-marks-u : goal.offset_bounds-marks-u
offset_bounds-marks-u c = let a = c.args in
    omega (arith, c.requires.0.rowed.few, passed_here a.marks.now.row.now a.marks.now.n a.marks.now.positions a.v c.requires.0 c.loop-seen.seen c.loop-seen.u c.loop-seen.invariant.1)

pub bounds-marks-u : goal.bounds-marks-u
bounds-marks-u c = let a = c.args in
    omega (arith, c.requires.0.rowed.long, passed_here a.marks.now.row.now a.marks.now.n a.marks.now.positions a.v c.requires.0 c.loop-seen.seen c.loop-seen.u c.loop-seen.invariant.1)

pub loop-seen-smaller : goal.loop-seen-smaller
loop-seen-smaller c =
    let here : c.loop-seen.u < length c.loop-seen.seen = let a = c.args in
    omega (arith, c.loop-seen.invariant.0, c.requires.1.room, passed_here a.marks.now.row.now a.marks.now.n a.marks.now.positions a.v c.requires.0 c.loop-seen.seen c.loop-seen.u c.loop-seen.invariant.1) in
    others_less c.loop-seen.seen c.loop-seen.u here c.loop-seen-test.true

pub loop-seen-preserved : goal.loop-seen-preserved
loop-seen-preserved c =
    let here : c.loop-seen.u < length c.loop-seen.seen = let a = c.args in
    omega (arith, c.loop-seen.invariant.0, c.requires.1.room, passed_here a.marks.now.row.now a.marks.now.n a.marks.now.positions a.v c.requires.0 c.loop-seen.seen c.loop-seen.u c.loop-seen.invariant.1) in
    let a = c.args in (
      length-set c.loop-seen.seen c.loop-seen.u true ∙ c.loop-seen.invariant.0,
      passed_more a.marks.now.row.now a.marks.now.n a.marks.now.positions a.v c.requires.0 c.loop-seen.seen c.loop-seen.u c.loop-seen.invariant.1 c.loop-seen-test.true here c.departure-u.result c.departure-u.ensures,
    )

pub returns : goal.returns
returns c = let a = c.args in
    passed_met a.marks.now.row.now a.marks.now.n a.marks.now.positions a.v c.requires.0 c.loop-seen.seen c.loop-seen.u c.loop-seen.invariant.1 c.loop-seen-test.false
