-- The refusals in their order; what is not refused is judged.
use mathlib.Core.Path.{◌≡◌, refl, sym, ◌∙◌}
use mathlib.Core.Logic.{◌≢◌}
use native.Mathlib.Omega.{arith}
use Rattle.numbers.specs.Refusals.{number_of}
use Rattle.numbers.proofs.Reasons.{handed_on, numbered}
use Rattle.tables.specs.Sheets.{refusal, timed}
use Rattle.tables.specs.Lent.{lent}
use Rattle.tables.proofs.Refusing.{front_refused, front_granted}
use Rattle.calls.specs.ProposedArcs.{refused}
use Rattle.calls.proofs.ProposedArcs.Refusals.{refused_11}
use Rattle.refuting.proofs.check_arcs.Goals as goal

pub returns-in_err-line : goal.returns-in_err-line
returns-in_err-line c = let a = c.args in let s = lent a.sheet.now in
    let why = c.in_err-line.field-0.0 in
    let some : number_of why ≢ 0 = λ e. omega (arith, (numbered why).0) in
    rw (handed_on c.from_residual.result why c.from_residual.ensures.1)
    (refused (number_of why) refl (front_refused (refusal s) (timed a.time.top a.time.bottom) _ (number_of why) c.in_err-line.ensures.judged some) some)

pub returns-then-not-is_whole : goal.returns-then-not-is_whole
returns-then-not-is_whole c = let a = c.args in let g = front_granted _ _ c.in_ok-line.ensures.judged in
    refused 11 refl (refused_11 (lent a.sheet.now) a.time.top a.time.bottom a.arcs.now (sym g.0) g.1 (sym c.is_whole.ensures ∙ c.if-not-is_whole.true)) (λ e. omega arith)

pub returns : goal.returns
returns c = rw (c.in_ok-line.ensures.same_sheet, c.in_ok-line.ensures.same_time) at c.judge-2.ensures
