-- The code's own answer is one: each answer in numbers is that of one case, since a refusal's number is 1 to 11.
use mathlib.Core.Path.{◌≡◌, refl, sym, ap, ◌∙◌}
use mathlib.Core.Bool.{cond}
use mathlib.Core.List.{List, []}
use Prim.Native.Nat.{ℕ}
use native.Mathlib.Omega.{arith}
use lib.Dec.{eqb}
use lib.ListN.{get_or}
use Rattle.std.specs.Prelude.{Result, Ok, Err}
use Rattle.numbers.specs.declared.refusals.Reason.{Reason}
use Rattle.numbers.specs.Refusals.{number_of}
use Rattle.numbers.proofs.Reasons.{one_reason, numbered}
use Rattle.tables.specs.Sheets.{Sheet}
use Rattle.tables.specs.Answers.{Answer, answer}
use Rattle.calls.proofs.ProposedArcs.Unique.{outcome_same}
use Rattle.refuting.specs.Answers.{answer_held, answer_arcs, Held}
use Rattle.refuting.specs.declared.ArcsHeld.{ArcsHeld}
use Rattle.refuting.specs.declared.ArcsHeld.TheVariants as held

-- the case of an answer in numbers that is no refusal's
abbrev case_of : Answer → ArcsHeld
case_of a =
    cond (eqb a.number 0) held.Accepted
    (cond (eqb a.number 104) held.NotClosed
    (cond (eqb a.number 105) held.LeftTwice (cond (eqb a.number 106) held.NotSmallest (cond (eqb a.number 107) held.NotAbove (held.Bad (get_or a.values 0 0))))))

case_is : (h : ArcsHeld) → case_of (answer_held h) ≡ h
case_is held.Accepted = refl
case_is (held.Bad k) = refl
case_is held.NotClosed = refl
case_is held.LeftTwice = refl
case_is held.NotSmallest = refl
case_is held.NotAbove = refl

-- no other answer is told as a refusal
apart : (h : ArcsHeld) (e : Reason) → answer_held h ≡ answer (number_of e) [] → ⊥
apart held.Accepted e same = omega (arith, ap (λ (a : Answer). a.number) same, (numbered e).0)
apart (held.Bad k) e same = omega (arith, ap (λ (a : Answer). a.number) same, (numbered e).1)
apart held.NotClosed e same = omega (arith, ap (λ (a : Answer). a.number) same, (numbered e).1)
apart held.LeftTwice e same = omega (arith, ap (λ (a : Answer). a.number) same, (numbered e).1)
apart held.NotSmallest e same = omega (arith, ap (λ (a : Answer). a.number) same, (numbered e).1)
apart held.NotAbove e same = omega (arith, ap (λ (a : Answer). a.number) same, (numbered e).1)

-- answers that are one in numbers are one
one : (r t : Result ArcsHeld Reason) → answer_arcs r ≡ answer_arcs t → r ≡ t
one (Ok h) (Ok k) e = ap Ok (sym (case_is h) ∙ ap case_of e ∙ case_is k)
one (Ok h) (Err k) e = absurd (apart h k e)
one (Err h) (Ok k) e = absurd (apart k h (sym e))
one (Err h) (Err k) e = ap Err (one_reason h k (ap (λ (a : Answer). a.number) e))

-- THEOREM: two answers that meet the call's statement are equal, as the code gives them
pub held_same : (s : Sheet) (p q : ℕ) (list : List ℕ) (r t : Result ArcsHeld Reason) → Held s p q list r → Held s p q list t → r ≡ t
held_same s p q list r t x y = one r t (outcome_same s p q list (answer_arcs r) (answer_arcs t) x y)
