-- A call's answer, given, is handed over.
use mathlib.Core.Path.{◌≡◌, sym, ap, ◌∙◌}
use mathlib.Core.List.{List, [], ◌∷◌}
use Prim.Native.Nat.{ℕ}
use lib.Seq.{sets}
use Rattle.std.specs.Prelude.{Result, Ok, Err}
use Rattle.numbers.specs.Refusals.{number_of}
use Rattle.numbers.specs.declared.refusals.Reason.{Reason}
use Rattle.numbers.specs.declared.refusals.Refusal as code
use Rattle.tables.specs.Answers.{Answer, answer}
use Rattle.values.specs.declared.Answered.{Answered}
use Rattle.values.specs.Handed.{Given, Refused, RefusedAt, GivenOr, Handed}

pub handed : {Outcome : Answer → Type 0} {values₀ values : List ℕ} {given : Answered} {answer : Answer} → Outcome answer → Given answer values₀ given values → Handed Outcome values₀ given.number values
handed {answer} outcome given = record { answer = answer; outcome = outcome; numbered = given.numbered; valued = given.valued }

-- a call's own reason is converted to its number
pub by_reason : {A : Type 0} (whole : Result A Reason → Answer) → ((r : Reason) → whole (Err r) ≡ answer (number_of r) []) → (x : Result A Reason) {values₀ values : List ℕ} {given : Answered}
    → GivenOr (λ a. whole (Ok a)) (Refused (λ r k. k ≡ number_of r)) x values₀ given values → Given (whole x) values₀ given values
by_reason whole e (Ok a) g = g
by_reason whole e (Err r) {values₀} {values} {given} (k, is, g) = let h : Given (answer (number_of r) []) values₀ given values = rw is at g in rw (e r) h

-- a file's refusal to its number and place
pub by_place : (r : code.Refusal) {values₀ values : List ℕ} {given : Answered} → RefusedAt (λ (r : code.Refusal) k. k ≡ (number_of r.reason, r.at)) r values₀ given values
    → Given (answer (number_of r.reason) (r.at ∷ [])) values₀ given values
by_place r (k, is, g) = rw is at g

-- so is the reader's
pub by_refusal : {A : Type 0} (whole : Result A code.Refusal → Answer) → ((r : code.Refusal) → whole (Err r) ≡ answer (number_of r.reason) (r.at ∷ [])) → (x : Result A code.Refusal) {values₀ values : List ℕ} {given : Answered}
    → GivenOr (λ a. whole (Ok a)) (RefusedAt (λ r k. k ≡ (number_of r.reason, r.at))) x values₀ given values → Given (whole x) values₀ given values
by_refusal whole e (Ok a) g = g
by_refusal whole e (Err r) g = rw (e r) (by_place r g)

-- THEOREM: where the answer is determined, so are the number returned and every place of the list
pub handed_same : {Outcome : Answer → Type 0} → ((a b : Answer) → Outcome a → Outcome b → a ≡ b) → {values₀ values values' : List ℕ} {number number' : ℕ}
    → Handed Outcome values₀ number values → Handed Outcome values₀ number' values' → (number ≡ number') × (values ≡ values')
handed_same one {values₀} x y =
    let e = one x.answer y.answer x.outcome y.outcome in
    (x.numbered ∙ ap (λ (a : Answer). a.number) e ∙ sym y.numbered, x.valued ∙ ap (λ (a : Answer). sets values₀ 0 a.values) e ∙ sym y.valued)
