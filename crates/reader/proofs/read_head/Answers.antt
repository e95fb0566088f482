-- `reader::read_head` meets its contract: each number is what its definition tests.
use mathlib.Core.Path.{◌≡◌, sym, ◌∙◌}
use lib.Dec.{eqb}
use Rattle.numbers.specs.Groups.{Number}
use Rattle.numbers.proofs.Reasons.{handed_on}
use Rattle.sheet.specs.File.{counts_at, tested}
use Rattle.records.specs.Steps.{between}
use Rattle.sheet.proofs.Numbers.{after_value, after_refused, tested_same}
use Rattle.records.proofs.Ranges.{just_one}
use Rattle.records.proofs.Taking.{took, took_no}
use Rattle.reader.proofs.read_head.Goals as goal

-- the format number as it was read
format_test : (x y : Number) → tested (between 1 1) 3 x ≡ y → tested (λ format. eqb format 1) 3 x ≡ y
format_test x y e = sym (tested_same (between 1 1) (λ format. eqb format 1) just_one 3 x) ∙ e

pub returns-in_err-number_within-clause-reads : goal.returns-in_err-number_within-clause-reads
unfolding counts_at
returns-in_err-number_within-clause-reads c = rw (handed_on _ _ c.from_residual.ensures.1)
    (sym (after_refused _ _ _ (format_test _ _ (took_no _ _ _ _ c.number_within.ensures.reads _ c.in_err-number_within.was))))

pub returns-in_err-n-clause-reads : goal.returns-in_err-n-clause-reads
unfolding counts_at
returns-in_err-n-clause-reads c = rw (handed_on _ _ c.from_residual-in_err-n.ensures.1)
    (sym (after_value _ _ _ _ (format_test _ _ (took _ _ _ _ c.number_within.ensures.reads _ c.in_ok-number_within.was))
    ∙ after_refused _ _ _ (took_no _ _ _ _ (rw c.number_within.ensures.kept at c.number_within-2.ensures.reads) _ c.in_err-n.was)))

pub returns-in_err-m-clause-reads : goal.returns-in_err-m-clause-reads
unfolding counts_at
returns-in_err-m-clause-reads c = rw (handed_on _ _ c.from_residual-in_err-m.ensures.1)
    (sym (after_value _ _ _ _ (format_test _ _ (took _ _ _ _ c.number_within.ensures.reads _ c.in_ok-number_within.was))
    ∙ after_value _ _ _ _ (took _ _ _ _ (rw c.number_within.ensures.kept at c.number_within-2.ensures.reads) _ c.in_ok-n.was)
    ∙ after_refused _ _ _ (took_no _ _ _ _ (rw (c.number_within-2.ensures.kept, c.number_within.ensures.kept) at c.number_within-3.ensures.reads) _ c.in_err-m.was)))

pub returns-in_err-positions-clause-reads : goal.returns-in_err-positions-clause-reads
unfolding counts_at
returns-in_err-positions-clause-reads c = rw (handed_on _ _ c.from_residual-in_err-positions.ensures.1)
    (sym (after_value _ _ _ _ (format_test _ _ (took _ _ _ _ c.number_within.ensures.reads _ c.in_ok-number_within.was))
    ∙ after_value _ _ _ _ (took _ _ _ _ (rw c.number_within.ensures.kept at c.number_within-2.ensures.reads) _ c.in_ok-n.was)
    ∙ after_value _ _ _ _ (took _ _ _ _ (rw (c.number_within-2.ensures.kept, c.number_within.ensures.kept) at c.number_within-3.ensures.reads) _ c.in_ok-m.was)
    ∙ after_refused _ _ _ (took_no _ _ _ _ (rw (c.number_within-3.ensures.kept, c.number_within-2.ensures.kept, c.number_within.ensures.kept) at c.number_within-4.ensures.reads) _ c.in_err-positions.was)))

pub returns-clause-reads : goal.returns-clause-reads
unfolding counts_at
returns-clause-reads c = sym (after_value _ _ _ _ (format_test _ _ (took _ _ _ _ c.number_within.ensures.reads _ c.in_ok-number_within.was))
    ∙ after_value _ _ _ _ (took _ _ _ _ (rw c.number_within.ensures.kept at c.number_within-2.ensures.reads) _ c.in_ok-n.was)
    ∙ after_value _ _ _ _ (took _ _ _ _ (rw (c.number_within-2.ensures.kept, c.number_within.ensures.kept) at c.number_within-3.ensures.reads) _ c.in_ok-m.was)
    ∙ after_value _ _ _ _ (took _ _ _ _ (rw (c.number_within-3.ensures.kept, c.number_within-2.ensures.kept, c.number_within.ensures.kept) at c.number_within-4.ensures.reads) _ c.in_ok-positions.was))
