-- `ends::ends` meets its contract: the refusals in their order; what is not refused is searched.
use mathlib.Core.Path.{refl, sym, ◌∙◌}
use mathlib.Core.Logic.{◌≢◌}
use native.Mathlib.Omega.{arith}
use Rattle.std.proofs.lemmas.Result.{err_from_is_err_and}
use Rattle.numbers.specs.Refusals.{number_of}
use Rattle.numbers.proofs.Reasons.{numbered}
use Rattle.tables.specs.Lent.{lent}
use Rattle.tables.proofs.Laws.{accepted}
use Rattle.windows.proofs.Limits.{nodes_few}
use Rattle.calls.specs.Ends.{refused}
use Rattle.calls.proofs.Ends.Refusals.{refused_sheet, refused_9}
use Rattle.ends.proofs.ends.Goals as goal

pub returns-in_err-admitted : goal.returns-in_err-admitted
returns-in_err-admitted c =
    let r = c.in_err-admitted.field-0.0 in
    let some : number_of r ≢ 0 = λ e. omega (arith, (numbered r).0) in
    let p = err_from_is_err_and c.from_residual.result c.from_residual.ensures.1 in
    rw (p.1, p.2) (refused (number_of r) refl (refused_sheet (lent c.args.sheet.now) c.args.first.now c.args.second.now (number_of r) c.in_err-admitted.ensures.judged some) some refl refl)

pub overflow_mul-numbers : goal.overflow_mul-numbers
overflow_mul-numbers c = let S = lent c.args.sheet.now in omega (arith, nodes_few S (accepted S (sym c.in_ok-admitted.ensures.judged)))

pub overflow_mul-numbers-2 : goal.overflow_mul-numbers-2
overflow_mul-numbers-2 c = let S = lent c.args.sheet.now in omega (arith, nodes_few S (accepted S (sym c.in_ok-admitted.ensures.judged)))

pub returns-then-not-is_roomy : goal.returns-then-not-is_roomy
returns-then-not-is_roomy c =
    refused 9 refl (refused_9 (lent c.args.sheet.now) c.args.first.now c.args.second.now c.in_ok-admitted.ensures.judged (sym c.is_roomy.ensures ∙ c.if-not-is_roomy.true)) (λ e. omega arith) refl refl

pub settle-requires : goal.settle-requires
settle-requires c = rw c.in_ok-admitted.ensures.same (sym c.is_roomy.ensures ∙ c.if-not-is_roomy.false)

pub returns : goal.returns
returns c = rw c.in_ok-admitted.ensures.same at c.settle.ensures
