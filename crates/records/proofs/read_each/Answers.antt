-- `records::read_each` meets its contract. The invariant: the file is the same, and what ends the modes that are left, from their part on, ends them all.
use Rattle.sheet.specs.File.{modes_at, laid}
use Rattle.records.specs.Steps.{Walks}
use Rattle.records.proofs.Walking.{walked, unwalked}
use Rattle.records.proofs.Taking.{left_at, left_no}
use Rattle.records.proofs.Lent.{part_back}
use Rattle.records.proofs.Modes.{store_mode, store_from, mode_next, mode_stop, mode_done}
use Rattle.numbers.proofs.Reasons.{handed_on}
use mathlib.Core.Path.{◌≡◌, refl, subst, ◌∙◌}
use Prim.Native.Nat.{ℕ, ◌-◌, ◌*◌, min}
use native.Mathlib.Omega.{arith}
use native.Mathlib.Nat.{sub-zero}
use lib.ListN.{length}
use Rattle.records.proofs.read_each.Goals as goal

none : (k : ℕ) → 0 * k ≡ 0
none k = omega arith

pub loop-t-init : goal.loop-t-init
loop-t-init c = let a = c.args in let file = a.cursor.now.file.now in (
  refl,
  λ r now h. subst (λ (k : ℕ). Walks (store_from a.n 0) (modes_at file a.n k a.cursor.now.at) a.tables.now r now) (sub-zero a.m)
      (subst (λ (k : ℕ). Walks (store_from a.n k) (modes_at file a.n (a.m - 0) a.cursor.now.at) a.tables.now r now) (none (4 * (a.n * a.n))) h),
)

pub returns-in_err-read_mode-clause-walks : goal.returns-in_err-read_mode-clause-walks
returns-in_err-read_mode-clause-walks c = let a = c.args in
    rw (handed_on _ _ c.from_residual.ensures.1)
    (c.loop-t.invariant.1 _ _ (mode_stop a.cursor.now.file.now a.n a.m c.loop-t.t c.loop-t.cursor.at c.loop-t.tables c.loop-t-test.true c.in_err-read_mode.field-0.0
    (unwalked (store_mode a.n) _ _ _ _ _ (left_no _ _ _ c.in_err-read_mode.was) (rw c.loop-t.invariant.0 at c.read_mode.ensures.walks)) _ _))

pub loop-t-preserved : goal.loop-t-preserved
loop-t-preserved c = let a = c.args in
    let k = walked (store_mode a.n) _ _ _ _ _ (left_at _ _ _ c.in_ok-read_mode.was) (rw c.loop-t.invariant.0 at c.read_mode.ensures.walks) in
    let start : c.min-start.result ≡ min (c.loop-t.t * (4 * (a.n * a.n))) (length c.loop-t.tables) = rw c.places-size.ensures at c.min-start.ensures in (
      c.read_mode.ensures.kept ∙ c.loop-t.invariant.0,
      λ r now h. c.loop-t.invariant.1 r now (mode_next a.cursor.now.file.now a.n a.m c.loop-t.t c.loop-t.cursor.at c.loop-t.tables c.loop-t-test.true k.thing _ k.is _
          (part_back c.loop-t.tables (laid (4 * (a.n * a.n)) k.thing) c.read_mode.new.part (c.loop-t.t * (4 * (a.n * a.n))) c.min-start.result start k.after) r now h),
    )

pub returns-clause-walks : goal.returns-clause-walks
returns-clause-walks c = let a = c.args in
    c.loop-t.invariant.1 _ _ (mode_done a.cursor.now.file.now a.n a.m c.loop-t.t c.loop-t.cursor.at c.loop-t.tables c.loop-t-test.false _)
