-- The number of a reason says which it is: each is from 1 to 11, no two reasons have one number, and no two refusals the same number and place.
use mathlib.Core.Path.{◌≡◌, refl, sym, ap, ap₂, ◌∙◌}
use mathlib.Core.List.{List, [], ◌∷◌}
use Prim.Native.Nat.{ℕ, ◌-◌, ◌≤◌}
use native.Mathlib.Omega.{arith}
use lib.ListN.{get_or}
use Rattle.std.specs.Prelude.{Result, Ok, Err, IsErrAnd}
use Rattle.numbers.specs.Groups.{Refusal}
use Rattle.numbers.specs.Refusals.{number_of, said}
use Rattle.numbers.specs.declared.refusals.Reason.{Reason}
use Rattle.numbers.specs.declared.refusals.Reason.TheVariants as reason
use Rattle.numbers.specs.declared.refusals.Refusal as code

-- the reasons in the order of their numbers from 1
abbrev reasons : List Reason
reasons =
    reason.CutShort ∷ reason.NotShortest ∷ reason.Format ∷ reason.Size ∷ reason.Schedule ∷ reason.Value ∷ reason.Order ∷ reason.Surplus
    ∷ reason.Room ∷ reason.CycleTime ∷ reason.Times ∷ []

-- the reason of a number; of any that is none, which is never asked, the last
abbrev reason_of : ℕ → Reason
reason_of k = get_or reasons (k - 1) reason.Times

back : (r : Reason) → reason_of (number_of r) ≡ r
back reason.CutShort = refl
back reason.NotShortest = refl
back reason.Format = refl
back reason.Size = refl
back reason.Schedule = refl
back reason.Value = refl
back reason.Order = refl
back reason.Surplus = refl
back reason.Room = refl
back reason.CycleTime = refl
back reason.Times = refl

-- reasons of one number are one reason
pub one_reason : (r s : Reason) → number_of r ≡ number_of s → r ≡ s
one_reason r s e = sym (back r) ∙ ap reason_of e ∙ back s

-- refusals of one number and place are one refusal
pub one_refusal : (r s : code.Refusal) → said r ≡ said s → r ≡ s
one_refusal r s e = ap₂ (λ (x : Reason) (y : ℕ). record { reason = x; at = y }) (one_reason r.reason s.reason (ap (λ (x : Refusal). x.number) e)) (ap (λ (x : Refusal). x.at) e)

-- what `?` hands on is the error that it met
pub handed_on : {A E : Type 0} (r : Result A E) (why : E) → IsErrAnd r (λ e. e ≡ why) → r ≡ Err why
handed_on (Ok a) why h = absurd h
handed_on (Err e) why h = ap Err h

-- THEOREM: a refusal has the number of one, 1 to 11, so that no other answer is told as a refusal
pub numbered : (r : Reason) → (1 ≤ number_of r) × (number_of r ≤ 11)
numbered reason.CutShort = (omega arith, omega arith)
numbered reason.NotShortest = (omega arith, omega arith)
numbered reason.Format = (omega arith, omega arith)
numbered reason.Size = (omega arith, omega arith)
numbered reason.Schedule = (omega arith, omega arith)
numbered reason.Value = (omega arith, omega arith)
numbered reason.Order = (omega arith, omega arith)
numbered reason.Surplus = (omega arith, omega arith)
numbered reason.Room = (omega arith, omega arith)
numbered reason.CycleTime = (omega arith, omega arith)
numbered reason.Times = (omega arith, omega arith)
