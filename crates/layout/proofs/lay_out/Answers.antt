-- A place that has a window puts one record more, a place that has none puts nothing.
use mathlib.Core.Path.{◌≡◌, refl, sym, ap, ◌∙◌}
use Prim.Native.Nat.{◌<◌}
use native.Mathlib.Omega.{arith}
use borrow.Author.Rules.{rules}
use lib.IntN.{pos}
use lib.ListN.{get_or}
use mir.Syntax.{w32}
use mir.Val.{to_z, of_z}
use Rattle.tables.specs.Sheets.{absent}
use Rattle.edges.specs.Edges.{from_place}
use Rattle.layout.proofs.Laying.{part, fill_none, fill_room, fill_skip, fill_put, fill_mode, fill_done}
use Rattle.layout.proofs.lay_out.Goals as goal
use Rattle.layout.proofs.lay_out.Goals.{then-not-is_absent, else-not-is_absent}

pub loop-t-init : goal.loop-t-init
loop-t-init c = fill_none c.args.sheet.now.tables.now c.args.sheet.now.n c.args.list.now c.told-list

pub offset_bounds-list-w : goal.offset_bounds-list-w
offset_bounds-list-w c =
    let s = c.args.sheet.now in
    omega (arith, fill_room s.tables.now s.n c.loop-t.t s.m c.loop-k.k c.loop-k.list c.loop-k.w c.requires.1 c.requires.2 c.requires.3 c.loop-t-test.true c.loop-k.invariant c.loop-k-test.true)

pub bounds-list-w : goal.bounds-list-w
bounds-list-w c =
    let s = c.args.sheet.now in
    fill_room s.tables.now s.n c.loop-t.t s.m c.loop-k.k c.loop-k.list c.loop-k.w c.requires.1 c.requires.2 c.requires.3 c.loop-t-test.true c.loop-k.invariant c.loop-k-test.true

pub overflow_add-w : goal.overflow_add-w
overflow_add-w c =
    let s = c.args.sheet.now in
    omega (arith, fill_room s.tables.now s.n c.loop-t.t s.m c.loop-k.k c.loop-k.list c.loop-k.w c.requires.1 c.requires.2 c.requires.3 c.loop-t-test.true c.loop-k.invariant c.loop-k-test.true)

pub loop-k-preserved : goal.loop-k-preserved
loop-k-preserved c =
    let s = c.args.sheet.now in
    let T = s.tables.now in
    let t = c.loop-t.t in
    let k = c.loop-k.k in
    let v = get_or (part T s.n t) k (pos 0) in
    let room : c.loop-k.w < 4608 = fill_room T s.n t s.m k c.loop-k.list c.loop-k.w c.requires.1 c.requires.2 c.requires.3 c.loop-t-test.true c.loop-k.invariant c.loop-k-test.true in
    let back : to_z w32 (of_z w32 v) ≡ v = search rules in
    let told = ap absent (sym back) ∙ sym c.is_absent.ensures in
    elim c.if-not-is_absent.branch [
      | then-not-is_absent r ↦ rw (r.list-is, r.w-is) (fill_put T s.n t k c.loop-k.list c.loop-k.w v r.from_place.result c.loop-k.invariant refl (told ∙ r.if-not-is_absent.true) (r.from_place.ensures ∙ ap (from_place s.n k) back) room)
      | else-not-is_absent r ↦ rw (r.list-is, r.w-is) (fill_skip T s.n t k c.loop-k.list c.loop-k.w v c.loop-k.invariant refl (told ∙ r.if-not-is_absent.false))
    ]

pub loop-t-preserved : goal.loop-t-preserved
loop-t-preserved c =
    let s = c.args.sheet.now in
    fill_mode s.tables.now s.n c.loop-t.t s.m c.loop-k.k c.loop-k.list c.loop-k.w c.requires.1 c.requires.2 c.requires.3 c.loop-t-test.true c.loop-k.invariant c.loop-k.auto.k-end c.loop-k-test.false

pub returns : goal.returns
returns c =
    let s = c.args.sheet.now in
    fill_done s.tables.now s.n c.loop-t.t s.m c.loop-t.list c.loop-t.w c.loop-t.invariant c.loop-t.auto.t-end c.loop-t-test.false
