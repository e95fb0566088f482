-- The refusals in their order; what is not refused is decided.
use mathlib.Core.Path.{◌≡◌, refl, sym, ◌∙◌}
use mathlib.Core.Logic.{◌≢◌}
use native.Mathlib.Omega.{arith}
use Rattle.numbers.specs.Refusals.{number_of}
use Rattle.numbers.proofs.Reasons.{handed_on, numbered}
use Rattle.tables.specs.Sheets.{refusal, timed}
use Rattle.tables.specs.Lent.{lent}
use Rattle.tables.proofs.Refusing.{front_refused, front_granted}
use Rattle.tables.proofs.Laws.{accepted}
use Rattle.windows.proofs.Limits.{nodes_few}
use Rattle.calls.specs.Ask.{refused}
use Rattle.calls.proofs.Ask.Refusals.{refused_9, refused_none}
use Rattle.ask.proofs.Deciding.{outcome}
use Rattle.ask.proofs.ask.Goals as goal

pub returns-in_err-line : goal.returns-in_err-line
returns-in_err-line c = let a = c.args in let s = lent a.sheet.now in
    let why = c.in_err-line.field-0.0 in
    let some : number_of why ≢ 0 = λ e. omega (arith, (numbered why).0) in
    rw (handed_on c.from_residual.result why c.from_residual.ensures.1)
    (refused (number_of why) refl (front_refused (refusal s) (timed a.time.top a.time.bottom) _ (number_of why) c.in_err-line.ensures.judged some) some refl refl)

pub overflow_mul-nodes : goal.overflow_mul-nodes
overflow_mul-nodes c = let s = lent c.args.sheet.now in let g = front_granted _ _ c.in_ok-line.ensures.judged in omega (arith, nodes_few s (accepted s g.0))

pub overflow_mul-nodes-2 : goal.overflow_mul-nodes-2
overflow_mul-nodes-2 c = let s = lent c.args.sheet.now in let g = front_granted _ _ c.in_ok-line.ensures.judged in omega (arith, nodes_few s (accepted s g.0))

pub returns-then-not-is_roomy : goal.returns-then-not-is_roomy
returns-then-not-is_roomy c = let a = c.args in let g = front_granted _ _ c.in_ok-line.ensures.judged in
    refused 9 refl (refused_9 (lent a.sheet.now) a.time.top a.time.bottom a.plan.now a.circuit.now (sym g.0) g.1 (sym c.is_roomy.ensures ∙ c.if-not-is_roomy.true)) (λ e. omega arith) refl refl

pub decide-requires : goal.decide-requires
decide-requires c = rw c.in_ok-line.ensures.same_sheet (sym c.is_roomy.ensures ∙ c.if-not-is_roomy.false)

pub returns : goal.returns
returns c = let a = c.args in let g = front_granted _ _ c.in_ok-line.ensures.judged in
    let none = refused_none (lent a.sheet.now) a.time.top a.time.bottom a.plan.now a.circuit.now (sym g.0) g.1 (sym c.is_roomy.ensures ∙ c.if-not-is_roomy.false) in
    outcome (lent a.sheet.now) a.time.top a.time.bottom a.plan.now a.circuit.now none c.decide.result c.decide.new.plan c.decide.new.circuit (rw (c.in_ok-line.ensures.same_sheet, c.in_ok-line.ensures.same_time) at c.decide.ensures)
