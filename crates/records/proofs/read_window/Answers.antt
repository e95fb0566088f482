-- `records::read_window` meets its contract: each number is what its definition tests, and the three give a place in the part.
use mathlib.Core.Path.{◌≡◌, sym, ◌∙◌}
use Prim.Native.Nat.{ℕ, ◌≤◌}
use native.Mathlib.Omega.{arith}
use borrow.Author.Tests.{leb-true}
use lib.Dec.{leb}
use Rattle.numbers.specs.Groups.{Number, Value}
use Rattle.numbers.proofs.Reasons.{handed_on}
use Rattle.tables.specs.Sheets.{within}
use Rattle.tables.proofs.Laws.{within_is}
use Rattle.sheet.specs.File.{record_at, tested}
use Rattle.sheet.proofs.Numbers.{after_value, after_refused, tested_value}
use Rattle.sheet.proofs.Places.{Steps, steps_fit}
use Rattle.records.proofs.Taking.{took, took_no}
use Rattle.records.proofs.read_window.Goals as goal

-- three numbers that passed their tests give a place
steps : (x y z : Number) (n kind to from : ℕ) {a b d e f g : ℕ} → tested (λ kind. leb kind 3) 6 x ≡ Value kind a b → tested (within n) 6 y ≡ Value to d e
    → tested (within n) 6 z ≡ Value from f g → n ≤ 12 → Steps n kind to from
steps x y z n kind to from p q r h =
    let t = within_is n to (tested_value _ _ _ _ _ q).1 in
    let f = within_is n from (tested_value _ _ _ _ _ r).1 in
    steps_fit _ _ _ _ (record {
      kinds = leb-true _ _ (tested_value _ _ _ _ _ p).1;
      some_to = t.0;
      few_to = t.1;
      some_from = f.0;
      few_from = f.1;
    }) h

pub returns-in_err-kind-clause-reads : goal.returns-in_err-kind-clause-reads
unfolding record_at
returns-in_err-kind-clause-reads c = rw (handed_on _ _ c.from_residual.ensures.1) (sym (after_refused _ _ _ (took_no _ _ _ _ c.read_kind.ensures.reads _ c.in_err-kind.was)))

pub returns-in_err-to-clause-reads : goal.returns-in_err-to-clause-reads
unfolding record_at
returns-in_err-to-clause-reads c = rw (handed_on _ _ c.from_residual-in_err-to.ensures.1)
    (sym (after_value _ _ _ _ (took _ _ _ _ c.read_kind.ensures.reads _ c.in_ok-kind.was) ∙ after_refused _ _ _ (took_no _ _ _ _ (rw c.read_kind.ensures.kept at c.number_within.ensures.reads) _ c.in_err-to.was)))

pub returns-in_err-from-clause-reads : goal.returns-in_err-from-clause-reads
unfolding record_at
returns-in_err-from-clause-reads c = rw (handed_on _ _ c.from_residual-in_err-from.ensures.1)
    (sym (after_value _ _ _ _ (took _ _ _ _ c.read_kind.ensures.reads _ c.in_ok-kind.was)
    ∙ after_value _ _ _ _ (took _ _ _ _ (rw c.read_kind.ensures.kept at c.number_within.ensures.reads) _ c.in_ok-to.was)
    ∙ after_refused _ _ _ (took_no _ _ _ _ (rw (c.number_within.ensures.kept, c.read_kind.ensures.kept) at c.number_within-2.ensures.reads) _ c.in_err-from.was)))

pub overflow_mul-place : goal.overflow_mul-place
overflow_mul-place c = omega (arith, steps _ _ _ c.args.n _ _ _ (took _ _ _ _ c.read_kind.ensures.reads _ c.in_ok-kind.was) (took _ _ _ _ (rw c.read_kind.ensures.kept at c.number_within.ensures.reads) _ c.in_ok-to.was) (took _ _ _ _ (rw (c.number_within.ensures.kept, c.read_kind.ensures.kept) at c.number_within-2.ensures.reads) _ c.in_ok-from.was) c.requires)

pub overflow_sub-place : goal.overflow_sub-place
overflow_sub-place c = omega (arith, steps _ _ _ c.args.n _ _ _ (took _ _ _ _ c.read_kind.ensures.reads _ c.in_ok-kind.was) (took _ _ _ _ (rw c.read_kind.ensures.kept at c.number_within.ensures.reads) _ c.in_ok-to.was) (took _ _ _ _ (rw (c.number_within.ensures.kept, c.read_kind.ensures.kept) at c.number_within-2.ensures.reads) _ c.in_ok-from.was) c.requires)

pub overflow_add-place : goal.overflow_add-place
overflow_add-place c = omega (arith, steps _ _ _ c.args.n _ _ _ (took _ _ _ _ c.read_kind.ensures.reads _ c.in_ok-kind.was) (took _ _ _ _ (rw c.read_kind.ensures.kept at c.number_within.ensures.reads) _ c.in_ok-to.was) (took _ _ _ _ (rw (c.number_within.ensures.kept, c.read_kind.ensures.kept) at c.number_within-2.ensures.reads) _ c.in_ok-from.was) c.requires)

pub overflow_mul-place-2 : goal.overflow_mul-place-2
overflow_mul-place-2 c = omega (arith, steps _ _ _ c.args.n _ _ _ (took _ _ _ _ c.read_kind.ensures.reads _ c.in_ok-kind.was) (took _ _ _ _ (rw c.read_kind.ensures.kept at c.number_within.ensures.reads) _ c.in_ok-to.was) (took _ _ _ _ (rw (c.number_within.ensures.kept, c.read_kind.ensures.kept) at c.number_within-2.ensures.reads) _ c.in_ok-from.was) c.requires)

pub overflow_sub-place-2 : goal.overflow_sub-place-2
overflow_sub-place-2 c = omega (arith, steps _ _ _ c.args.n _ _ _ (took _ _ _ _ c.read_kind.ensures.reads _ c.in_ok-kind.was) (took _ _ _ _ (rw c.read_kind.ensures.kept at c.number_within.ensures.reads) _ c.in_ok-to.was) (took _ _ _ _ (rw (c.number_within.ensures.kept, c.read_kind.ensures.kept) at c.number_within-2.ensures.reads) _ c.in_ok-from.was) c.requires)

pub overflow_add-place-2 : goal.overflow_add-place-2
overflow_add-place-2 c = omega (arith, steps _ _ _ c.args.n _ _ _ (took _ _ _ _ c.read_kind.ensures.reads _ c.in_ok-kind.was) (took _ _ _ _ (rw c.read_kind.ensures.kept at c.number_within.ensures.reads) _ c.in_ok-to.was) (took _ _ _ _ (rw (c.number_within.ensures.kept, c.read_kind.ensures.kept) at c.number_within-2.ensures.reads) _ c.in_ok-from.was) c.requires)

pub returns-clause-reads : goal.returns-clause-reads
unfolding record_at
returns-clause-reads c =
    rw (c.number_within-2.ensures.kept, c.number_within.ensures.kept, c.read_kind.ensures.kept) at c.read_value.ensures.reads
    ∙ sym (after_value _ _ _ _ (took _ _ _ _ c.read_kind.ensures.reads _ c.in_ok-kind.was)
    ∙ after_value _ _ _ _ (took _ _ _ _ (rw c.read_kind.ensures.kept at c.number_within.ensures.reads) _ c.in_ok-to.was)
    ∙ after_value _ _ _ _ (took _ _ _ _ (rw (c.number_within.ensures.kept, c.read_kind.ensures.kept) at c.number_within-2.ensures.reads) _ c.in_ok-from.was))
