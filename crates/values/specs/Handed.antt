-- An answer handed over: a call's number returned, and the values that come with it put one after the other into a list as far as it reaches.
use Rattle.std.specs.Prelude.{◌≡◌, List, [], ◌∷◌, ℕ, length, Result, Ok, Err}
use Rattle.std.proofs.lemmas.List.Edits.{sets}
use Rattle.tables.specs.Answers.{Answer, answer}
use Rattle.values.specs.declared.Answered.{Answered}

-- this answer, handed over: its number and the count of its values are given back
pub record Given (answer : Answer) (values₀ : List ℕ) (given : Answered) (values : List ℕ) : Type 0 where
  pub numbered : given.number ≡ answer.number
  pub counted : given.count ≡ length answer.values
  pub valued : values ≡ sets values₀ 0 answer.values

-- a refusal handed over, by the number that its reason is converted to
abbrev pub Refused : {R : Type 0} → (R → ℕ → Type 0) → R → List ℕ → Answered → List ℕ → Type 0
Refused converts reason values₀ given values = (k : ℕ) × converts reason k × Given (answer k []) values₀ given values

-- the refusal of a file, by the number and the place that it is converted to
abbrev pub RefusedAt : {R : Type 0} → (R → ℕ × ℕ → Type 0) → R → List ℕ → Answered → List ℕ → Type 0
RefusedAt converts refusal values₀ given values = (k : ℕ × ℕ) × converts refusal k × Given (answer k.0 (k.1 ∷ [])) values₀ given values

-- what is not refused, by its answer; or what `refuses` says of the refusal
abbrev pub GivenOr : {A R : Type 0} → (A → Answer) → (R → List ℕ → Answered → List ℕ → Type 0) → Result A R → List ℕ → Answered → List ℕ → Type 0
GivenOr answers refuses (Ok a) values₀ given values = Given (answers a) values₀ given values
GivenOr answers refuses (Err r) values₀ given values = refuses r values₀ given values

-- the call's outcome, for one answer, and that answer in numbers
pub record Handed (Outcome : Answer → Type 0) (values₀ : List ℕ) (number : ℕ) (values : List ℕ) : Type 0 where
  pub answer : Answer
  pub outcome : Outcome answer
  pub numbered : number ≡ answer.number
  pub valued : values ≡ sets values₀ 0 answer.values
