-- The refusals in their order; what is not refused is searched for a window broken.
use mathlib.Core.Path.{◌≡◌, refl, sym, ◌∙◌}
use mathlib.Core.Logic.{◌≢◌}
use Prim.Native.Nat.{ℕ}
use native.Mathlib.Omega.{arith}
use Rattle.numbers.specs.Refusals.{number_of}
use Rattle.numbers.proofs.Reasons.{handed_on, numbered}
use Rattle.tables.specs.Sheets.{refusal, timed}
use Rattle.tables.specs.Lent.{lent}
use Rattle.tables.proofs.Refusing.{front_refused, front_granted}
use Rattle.tables.proofs.Laws.{accepted}
use Rattle.windows.proofs.Limits.{nodes_few}
use Rattle.calls.specs.ProposedTimes.{refused}
use Rattle.calls.proofs.ProposedTimes.Refusals.{refused_11}
use Rattle.std.specs.Prelude.{Result, Err}
use Rattle.numbers.specs.declared.refusals.Reason.{Reason}
use Rattle.numbers.specs.Refusals.{verdict}
use Rattle.keeping.proofs.check_times.Goals as goal

-- the number of the reason that a judgement gave
told : {A : Type 0} (r : Result A Reason) (why : Reason) (k : ℕ) → r ≡ Err why → verdict r ≡ k → number_of why ≡ k
told r why k e h = rw e at h

pub returns-in_err-line : goal.returns-in_err-line
returns-in_err-line c = let a = c.args in let s = lent a.sheet.now in
    let why = c.in_err-line.field-0.0 in
    let some : number_of why ≢ 0 = λ e. omega (arith, (numbered why).0) in
    rw (handed_on c.from_residual.result why c.from_residual.ensures.1)
    (refused (number_of why) refl (front_refused (refusal s) (timed a.time.top a.time.bottom) _ (number_of why) (told _ why _ c.in_err-line.was c.judge.ensures.judged) some) some)

pub overflow_mul-sheet : goal.overflow_mul-sheet
overflow_mul-sheet c = let s = lent c.args.sheet.now in let g = front_granted _ _ c.in_ok-line.ensures.judged in omega (arith, nodes_few s (accepted s g.0))

pub returns-then-not-are_enough : goal.returns-then-not-are_enough
returns-then-not-are_enough c = let a = c.args in let g = front_granted _ _ c.in_ok-line.ensures.judged in
    refused 11 refl (refused_11 (lent a.sheet.now) a.time.top a.time.bottom a.times.now (sym g.0) g.1 (sym c.are_enough.ensures ∙ c.if-not-are_enough.true)) (λ e. omega arith)

pub returns : goal.returns
returns c = rw (c.in_ok-line.ensures.same_sheet, c.in_ok-line.ensures.same_time) at c.search.ensures
