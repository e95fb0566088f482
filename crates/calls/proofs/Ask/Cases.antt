-- What an outcome of Ask says where its answer is known: each number with its values belongs to one of the three cases.
use mathlib.Core.Path.{◌≡◌, sym, ◌∙◌, subst}
use mathlib.Core.Logic.{◌≢◌}
use mathlib.Core.List.{List, [], ◌∷◌}
use Prim.Native.Nat.{ℕ}
use native.Mathlib.Omega.{arith}
use lib.ListN.{length}
use Rattle.tables.specs.Sheets.{Sheet}
use Rattle.tables.specs.Answers.{answer}
use Rattle.tables.proofs.Answers.{number_same, value_same, many_same}
use Rattle.windows.specs.Circuits.{Step}
use Rattle.calls.specs.Ask.{ask_refusal, Accepts, Shows, Outcome, accepted, refuted, refused}

module _ {s : Sheet} {p q : ℕ} {plan₀ circuit₀ plan circuit : List ℕ} where
  pub accepted_is : (r : ℕ) → Outcome s p q plan₀ circuit₀ (answer 0 (r ∷ [])) plan circuit → (ask_refusal s p q plan₀ circuit₀ ≡ 0) × Accepts s p q plan₀ circuit₀ r plan circuit
  accepted_is r (accepted k e none is) = (none, subst (λ (n : ℕ). Accepts s p q plan₀ circuit₀ n plan circuit) (sym (value_same 0 e)) is)
  accepted_is r (refuted steps e none is) = absurd (omega (arith, number_same e))
  accepted_is r (refused k e is some same same') = absurd (some (sym (number_same e)))

  pub refuted_is : (count : ℕ) → Outcome s p q plan₀ circuit₀ (answer 100 (count ∷ [])) plan circuit
      → (ask_refusal s p q plan₀ circuit₀ ≡ 0) × (steps : List Step) × (length steps ≡ count) × Shows s p q plan₀ circuit₀ steps plan circuit
  refuted_is count (accepted k e none is) = absurd (omega (arith, number_same e))
  refuted_is count (refuted steps e none is) = (none, steps, sym (value_same 0 e), is)
  refuted_is count (refused k e is some same same') = absurd (omega (arith, many_same e))

  pub refused_is : (k : ℕ) → Outcome s p q plan₀ circuit₀ (answer k []) plan circuit → (ask_refusal s p q plan₀ circuit₀ ≡ k) × (k ≢ 0) × (plan ≡ plan₀) × (circuit ≡ circuit₀)
  refused_is k (accepted r e none is) = absurd (omega (arith, many_same e))
  refused_is k (refuted steps e none is) = absurd (omega (arith, many_same e))
  refused_is k (refused j e is some same same') = (is ∙ sym (number_same e), (λ zero. some (sym (number_same e) ∙ zero)), same, same')
