-- `records::Cursor::within` meets its contract, for every number that may refuse: by the comparison; the number began at the place asked.
use Rattle.records.specs.Steps.{between}
use Rattle.sheet.proofs.Numbers.{tested_refused, tested_yes, tested_no}
use Rattle.std.proofs.Common.{rules}
use mathlib.Core.Path.{◌≡◌, refl, sym, ap, ◌∙◌}
use Rattle.numbers.specs.Groups.{number_at}
use Rattle.numbers.specs.Refusals.{read}
use Rattle.numbers.proofs.Reading.{value_began}
use Rattle.numbers.proofs.Reasons.{handed_on}
use Rattle.records.proofs.Cursor.within.Goals as goal

pub returns-in_err-number-clause-reads : goal.returns-in_err-number-clause-reads
returns-in_err-number-clause-reads c = λ k. let a = c.args in
    rw (handed_on _ _ c.from_residual.ensures.1)
    (sym (tested_refused (between a.least a.most) k (number_at a.self.now.file.now a.self.now.at) _ (sym c.number_at.ensures ∙ ap read c.in_err-number.was)))

pub returns-then-not-is_within-clause-reads : goal.returns-then-not-is_within-clause-reads
returns-then-not-is_within-clause-reads c = λ k. let a = c.args in
    let within : c.contains-is_within.result ≡ between a.least a.most c.in_ok-number.number.value = search rules in
    sym (tested_no (between a.least a.most) k (number_at a.self.now.file.now a.self.now.at) _ _ _ (value_began _ _ (sym c.number_at.ensures ∙ ap read c.in_ok-number.was)) (sym within ∙ c.if-not-is_within.true))

pub returns-clause-reads : goal.returns-clause-reads
returns-clause-reads c = λ k. let a = c.args in
    let within : c.contains-is_within.result ≡ between a.least a.most c.in_ok-number.number.value = search rules in
    sym (tested_yes (between a.least a.most) k (number_at a.self.now.file.now a.self.now.at) _ _ (value_began _ _ (sym c.number_at.ensures ∙ ap read c.in_ok-number.was)) (sym within ∙ c.if-not-is_within.false))

pub returns-in_err-number-clause-stays : goal.returns-in_err-number-clause-stays
returns-in_err-number-clause-stays c = rw (handed_on _ _ c.from_residual.ensures.1) refl
