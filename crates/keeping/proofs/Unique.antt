-- The code's own answer is one: each answer in numbers is that of one case, since a refusal's number is 1 to 11.
use mathlib.Core.Path.{◌≡◌, refl, sym, ap, ◌∙◌}
use mathlib.Core.Bool.{cond}
use mathlib.Core.List.{List, []}
use Prim.Native.Nat.{ℕ}
use native.Mathlib.Omega.{arith}
use lib.Dec.{eqb}
use lib.IntN.{ℤ}
use lib.ListN.{get_or}
use Rattle.std.specs.Prelude.{Result, Ok, Err}
use Rattle.numbers.specs.declared.refusals.Reason.{Reason}
use Rattle.numbers.specs.Refusals.{number_of}
use Rattle.numbers.proofs.Reasons.{one_reason, numbered}
use Rattle.tables.specs.Sheets.{Sheet}
use Rattle.tables.specs.Answers.{Answer, answer}
use Rattle.calls.proofs.ProposedTimes.Unique.{outcome_same}
use Rattle.keeping.specs.Answers.{answer_held, answer_times, Held}
use Rattle.keeping.specs.declared.TimesHeld.{TimesHeld}
use Rattle.keeping.specs.declared.TimesHeld.TheVariants.{Accepted, Broken}

-- the case of an answer in numbers that is no refusal's
abbrev case_of : Answer → TimesHeld
case_of a = cond (eqb a.number 0) Accepted (Broken (get_or a.values 0 0) (get_or a.values 1 0) (get_or a.values 2 0) (get_or a.values 3 0))

case_is : (h : TimesHeld) → case_of (answer_held h) ≡ h
case_is Accepted = refl
case_is (Broken h k i j) = refl

-- no other answer is told as a refusal
apart : (h : TimesHeld) (e : Reason) → answer_held h ≡ answer (number_of e) [] → ⊥
apart Accepted e same = omega (arith, ap (λ (a : Answer). a.number) same, (numbered e).0)
apart (Broken h k i j) e same = omega (arith, ap (λ (a : Answer). a.number) same, (numbered e).1)

-- answers that are one in numbers are one
one : (r t : Result TimesHeld Reason) → answer_times r ≡ answer_times t → r ≡ t
one (Ok h) (Ok k) e = ap Ok (sym (case_is h) ∙ ap case_of e ∙ case_is k)
one (Ok h) (Err k) e = absurd (apart h k e)
one (Err h) (Ok k) e = absurd (apart k h (sym e))
one (Err h) (Err k) e = ap Err (one_reason h k (ap (λ (a : Answer). a.number) e))

-- THEOREM: two answers that meet the call's statement are equal, as the code gives them
pub held_same : (s : Sheet) (p q : ℕ) (times : List ℤ) (r t : Result TimesHeld Reason) → Held s p q times r → Held s p q times t → r ≡ t
held_same s p q times r t x y = one r t (outcome_same s p q times (answer_times r) (answer_times t) x y)
