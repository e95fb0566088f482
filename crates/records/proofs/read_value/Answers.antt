-- `records::read_value` meets its contract. The value's limit is tested by its code, 2,000,000 for 1,000,000; then the place.
use mathlib.Core.Path.{◌≡◌, sym, ap, ◌∙◌}
use mathlib.Core.Bool.{true, false}
use Prim.Native.Nat.{ℕ, ◌≤◌, ◌<◌}
use borrow.Author.Tests.{le-leb, lt-leb}
use lib.IntN.{ℤ}
use Rattle.numbers.specs.Groups.{bad}
use Rattle.numbers.specs.Refusals.{read}
use Rattle.numbers.proofs.Reasons.{handed_on}
use Rattle.numbers.specs.Signs.{decoded}
use Rattle.tables.specs.Sheets.{in_limit}
use Rattle.sheet.specs.File.{got, refused, placed, value_at, rising}
use Rattle.sheet.proofs.Numbers.{after_value, after_refused, tested_refused, tested_yes, tested_no}
use Rattle.records.proofs.Ranges.{limits, up_to}
use Rattle.records.proofs.read_value.Goals as goal

-- the limits as the file has them
within_limit : (u : ℕ) → u ≤ 2000000 → in_limit (decoded u) ≡ true
within_limit u h = sym (limits u) ∙ up_to u 2000000 ∙ le-leb u 2000000 h

past_limit : (u : ℕ) → 2000000 < u → in_limit (decoded u) ≡ false
past_limit u h = sym (limits u) ∙ up_to u 2000000 ∙ lt-leb u 2000000 h

-- the two ways of a record whose numbers are right
module _ (start low p : ℕ) (v : ℤ) (next : ℕ) where
  rising-yes : low ≤ p → rising start low p v next ≡ got (placed p v) next
  unfolding rising
  rising-yes h = rw (le-leb low p h)

  rising-no : p < low → rising start low p v next ≡ refused (bad 7 start)
  unfolding rising
  rising-no h = rw (lt-leb low p h)

pub returns-in_err-limit-clause-reads : goal.returns-in_err-limit-clause-reads
unfolding value_at
returns-in_err-limit-clause-reads c =
    rw (handed_on _ _ c.from_residual.ensures.1)
    (sym (after_refused _ _ _ (tested_refused (λ u. in_limit (decoded u)) 6 _ _ (sym c.number_at.ensures ∙ ap read c.in_err-limit.was))))

pub returns-then-is_past-clause-reads : goal.returns-then-is_past-clause-reads
unfolding value_at
returns-then-is_past-clause-reads c =
    sym (after_refused _ _ _ (tested_no (λ u. in_limit (decoded u)) 6 _ _ _ _ (sym c.number_at.ensures ∙ ap read c.in_ok-limit.was) (past_limit c.in_ok-limit.limit.value c.if-is_past.true)))

pub returns-then-is_behind-clause-reads : goal.returns-then-is_behind-clause-reads
unfolding value_at
returns-then-is_behind-clause-reads c =
    sym (after_value _ _ _ _ (tested_yes (λ u. in_limit (decoded u)) 6 _ _ _ (sym c.number_at.ensures ∙ ap read c.in_ok-limit.was) (within_limit c.in_ok-limit.limit.value c.if-is_past.false))
    ∙ rising-no _ _ _ _ _ c.if-is_behind.true)

pub returns-clause-reads : goal.returns-clause-reads
unfolding value_at
returns-clause-reads c =
    sym (after_value _ _ _ _ (tested_yes (λ u. in_limit (decoded u)) 6 _ _ _ (sym c.number_at.ensures ∙ ap read c.in_ok-limit.was) (within_limit c.in_ok-limit.limit.value c.if-is_past.false))
    ∙ rising-yes _ _ _ _ _ c.if-is_behind.false)
