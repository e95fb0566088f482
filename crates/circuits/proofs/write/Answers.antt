-- An arc more is written before those that are.
use mathlib.Core.Path.{refl, ◌∙◌}
use Prim.Native.Nat.{◌-◌}
use native.Mathlib.Omega.{arith}
use Rattle.circuits.proofs.Ways.{sound_here, sound_next}
use Rattle.circuits.proofs.Writing.{written_none, written_more, written_all}
use Rattle.circuits.proofs.write.Goals as goal

pub loop-k-init : goal.loop-k-init
loop-k-init c = let m = c.args.marks.now in (refl, written_none m.row.now m.n c.args.s c.args.count c.args.circuit.now)

pub bounds-marks-x : goal.bounds-marks-x
bounds-marks-x c =
    let m = c.args.marks.now in
    omega (arith, c.requires.0.rowed.long, sound_here m.row.now m.n m.positions c.args.s c.requires.0 (c.args.count - c.loop-k.k) c.loop-k.x c.loop-k.invariant.1.there)

pub write_arc-requires : goal.write_arc-requires
write_arc-requires c =
    let m = c.args.marks.now in
    let r = c.requires.0.rowed in
    let j = c.args.count - c.loop-k.k in
    let t = c.loop-k.invariant.1 in (
      omega (arith, c.requires.2, c.loop-k.invariant.0, t.few, c.loop-k-test.true),
      r.some,
      omega (arith, r.few, sound_here m.row.now m.n m.positions c.args.s c.requires.0 j c.loop-k.x t.there),
      omega (arith, r.few, sound_next m.row.now m.n m.positions c.args.s c.requires.0 j c.loop-k.x t.there),
    )

pub loop-k-preserved : goal.loop-k-preserved
loop-k-preserved c =
    let m = c.args.marks.now in (
      c.write_arc.auto.circuit ∙ c.loop-k.invariant.0,
      written_more m.row.now m.n c.args.s c.args.count c.args.circuit.now c.loop-k.k c.loop-k.x c.loop-k.circuit c.write_arc.new.circuit c.loop-k.invariant.1 c.loop-k-test.true c.write_arc.ensures
          c.departure-x.result c.departure-x.ensures,
    )

pub returns : goal.returns
returns c =
    let m = c.args.marks.now in
    written_all m.row.now m.n c.args.s c.args.count c.args.circuit.now c.loop-k.k c.loop-k.x c.loop-k.circuit c.loop-k.invariant.1 c.loop-k-test.false
