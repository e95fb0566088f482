-- `records::read_kind` meets its contract: a number below 4 passes the test, and any other is refused.
use Rattle.sheet.proofs.Numbers.{tested_refused, tested_yes, tested_no}
use mathlib.Core.Path.{sym, ap, ◌∙◌}
use native.Mathlib.Omega.{arith}
use borrow.Author.Tests.{le-leb, lt-leb}
use lib.Dec.{leb}
use Rattle.numbers.specs.Groups.{number_at}
use Rattle.numbers.specs.Refusals.{read}
use Rattle.numbers.proofs.Reading.{value_began}
use Rattle.numbers.proofs.Reasons.{handed_on}
use Rattle.records.proofs.read_kind.Goals as goal

pub returns-in_err-kind-clause-reads : goal.returns-in_err-kind-clause-reads
returns-in_err-kind-clause-reads c = let a = c.args in
    rw (handed_on _ _ c.from_residual.ensures.1)
    (sym (tested_refused (λ kind. leb kind 3) 6 (number_at a.cursor.now.file.now a.cursor.now.at) _ (sym c.number_at.ensures ∙ ap read c.in_err-kind.was)))

pub returns-in-0-clause-reads : goal.returns-in-0-clause-reads
returns-in-0-clause-reads c = let a = c.args in
    sym (tested_yes (λ kind. leb kind 3) 6 (number_at a.cursor.now.file.now a.cursor.now.at) _ _ (value_began _ _ (sym c.number_at.ensures ∙ ap read c.in_ok-kind.was)) (le-leb c.in_ok-kind.kind.value 3 (omega arith)))

pub returns-in-4-to-max-clause-reads : goal.returns-in-4-to-max-clause-reads
returns-in-4-to-max-clause-reads c = let a = c.args in
    sym (tested_no (λ kind. leb kind 3) 6 (number_at a.cursor.now.file.now a.cursor.now.at) _ _ _ (sym c.number_at.ensures ∙ ap read c.in_ok-kind.was) (lt-leb c.in_ok-kind.kind.value 3 (omega arith)))
