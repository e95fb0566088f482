-- `reader::read_schedule` meets its contract. The invariant: the file is the same, and what ends the positions that are left ends them all.
use borrow.Author.Tests.{ltb-true}
use Rattle.sheet.specs.File.{tested, schedule_at}
use Rattle.records.specs.Steps.{Walks, between}
use Rattle.sheet.proofs.Numbers.{tested_same, tested_value}
use Rattle.records.proofs.Ranges.{below}
use Rattle.records.proofs.Taking.{took, took_no}
use Rattle.reader.proofs.Schedules.{store_modes, position_next, position_stop, position_done}
use mathlib.Core.Path.{◌≡◌, refl, sym, subst, ◌∙◌}
use mathlib.Core.List.{List}
use Prim.Native.Nat.{ℕ, ◌+◌, ◌-◌, ◌≤◌}
use native.Mathlib.Omega.{arith}
use native.Mathlib.Nat.{sub-zero}
use lib.Dec.{ltb}
use Rattle.numbers.specs.Groups.{number_at, Value}
use Rattle.numbers.proofs.Reasons.{handed_on}
use Rattle.reader.proofs.read_schedule.Goals as goal

-- the number of this turn
mode_is : (file : List ℕ) (m p : ℕ) → 1 ≤ m → tested (λ t. ltb t m) 5 (number_at file p) ≡ tested (between 0 (m - 1)) 5 (number_at file p)
mode_is file m p h = sym (tested_same (between 0 (m - 1)) (λ t. ltb t m) (λ v. below v m h) 5 (number_at file p))

pub loop-position-init : goal.loop-position-init
loop-position-init c = let a = c.args in
    (refl, λ r now h. subst (λ (k : ℕ). Walks (store_modes 0) (schedule_at a.cursor.now.file.now a.m k a.cursor.now.at) a.schedule.now r now) (sub-zero a.positions) h)

pub returns-in_err-mode-clause-walks : goal.returns-in_err-mode-clause-walks
returns-in_err-mode-clause-walks c = let a = c.args in
    rw (handed_on _ _ c.from_residual.ensures.1)
    (c.loop-position.invariant.1 _ _ (position_stop a.cursor.now.file.now a.m a.positions c.loop-position.position c.loop-position.cursor.at c.loop-position.schedule c.loop-position-test.true c.in_err-mode.field-0.0
    (mode_is c.args.cursor.now.file.now c.args.m c.loop-position.cursor.at c.requires.0 ∙ took_no _ _ _ _ (rw c.loop-position.invariant.0 at c.number_within.ensures.reads) _ c.in_err-mode.was)))

pub overflow_cast-mode : goal.overflow_cast-mode
overflow_cast-mode c =
    let here : tested (λ t. ltb t c.args.m) 5 (number_at c.args.cursor.now.file.now c.loop-position.cursor.at) ≡ Value c.in_ok-mode.mode c.loop-position.cursor.at c.number_within.new.self.at = mode_is c.args.cursor.now.file.now c.args.m c.loop-position.cursor.at c.requires.0 ∙ took _ _ _ _ (rw c.loop-position.invariant.0 at c.number_within.ensures.reads) _ c.in_ok-mode.was in
    omega (arith, ltb-true c.in_ok-mode.mode c.args.m (tested_value _ _ _ _ _ here).1, c.requires.1)

pub loop-position-preserved : goal.loop-position-preserved
loop-position-preserved c =
    let here : tested (λ t. ltb t c.args.m) 5 (number_at c.args.cursor.now.file.now c.loop-position.cursor.at) ≡ Value c.in_ok-mode.mode c.loop-position.cursor.at c.number_within.new.self.at = mode_is c.args.cursor.now.file.now c.args.m c.loop-position.cursor.at c.requires.0 ∙ took _ _ _ _ (rw c.loop-position.invariant.0 at c.number_within.ensures.reads) _ c.in_ok-mode.was in
    let a = c.args in (
      c.number_within.ensures.kept ∙ c.loop-position.invariant.0,
      λ r now h. c.loop-position.invariant.1 r now (position_next a.cursor.now.file.now a.m a.positions c.loop-position.position c.loop-position.cursor.at c.loop-position.schedule c.loop-position-test.true _ _ _ here r now
          (subst (λ (t : List ℕ). Walks (store_modes (c.loop-position.position + 1)) (schedule_at a.cursor.now.file.now a.m (a.positions - (c.loop-position.position + 1)) c.number_within.new.self.at) t r now) c.put.ensures h)),
    )

pub returns-clause-walks : goal.returns-clause-walks
returns-clause-walks c = let a = c.args in
    c.loop-position.invariant.1 _ _ (position_done a.cursor.now.file.now a.m a.positions c.loop-position.position c.loop-position.cursor.at c.loop-position.schedule c.loop-position-test.false)
