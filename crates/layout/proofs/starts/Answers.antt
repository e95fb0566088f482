-- A mode more is counted behind those before it.
use mathlib.Core.Path.{refl, ◌∙◌}
use Prim.Native.Nat.{◌+◌}
use native.Mathlib.Omega.{arith}
use lib.ListN.{get_or, length-set}
use Rattle.layout.proofs.Laying.{mode_few, laid_few, part_count}
use Rattle.edges.proofs.Places.{Sizes, sizes}
use Rattle.layout.proofs.Counting.{starts_none, starts_more}
use Rattle.layout.proofs.starts.Goals as goal

pub loop-t-init : goal.loop-t-init
loop-t-init c = (refl, starts_none c.args.sheet.now.tables.now c.args.sheet.now.n)

pub overflow_add-start : goal.overflow_add-start
overflow_add-start c =
    let s = c.args.sheet.now in
    let t = c.loop-t.t in
    let fit : Sizes t s.m s.n = sizes t s.m s.n c.requires.1 c.requires.2 c.loop-t-test.true in
    let counted = c.count_windows-windows.ensures ∙ part_count s.tables.now s.n t (omega (arith, fit.part, c.requires.3)) in
    omega (arith, c.loop-t.invariant.1 t (omega arith), laid_few s.tables.now s.n t, fit.part, fit.whole, counted, mode_few s.tables.now s.n t)

pub loop-t-preserved : goal.loop-t-preserved
loop-t-preserved c =
    let s = c.args.sheet.now in
    let t = c.loop-t.t in
    let fit : Sizes t s.m s.n = sizes t s.m s.n c.requires.1 c.requires.2 c.loop-t-test.true in
    let counted = c.count_windows-windows.ensures ∙ part_count s.tables.now s.n t (omega (arith, fit.part, c.requires.3)) in (
      length-set c.loop-t.start (t + 1) (get_or c.loop-t.start t 0 + c.count_windows-windows.result) ∙ c.loop-t.invariant.0,
      starts_more s.tables.now s.n c.loop-t.start t c.loop-t.invariant.1 c.count_windows-windows.result counted (omega (arith, c.loop-t.invariant.0, c.requires.2, c.loop-t-test.true)),
    )
