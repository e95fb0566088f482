-- What a call answers (document 01, "Numbers a call can answer"): one form for all calls.
use Rattle.std.specs.Prelude.{ℕ, List}

-- a number, and the values that are returned with it
pub record Answer : Type 0 where
  pub number : ℕ
  pub values : List ℕ

abbrev pub answer : ℕ → List ℕ → Answer
answer k values = record { number = k; values = values }
