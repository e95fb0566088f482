-- What a step of the cursor took, by what it answered.
use mathlib.Core.Path.{◌≡◌, sym, ap, ◌∙◌}
use Prim.Native.Nat.{ℕ}
use Rattle.std.specs.Prelude.{Result, Ok, Err}
use Rattle.numbers.specs.Groups.{Number, Value, Refused}
use Rattle.numbers.specs.Refusals.{said}
use Rattle.numbers.specs.Signs.{decoded}
use Rattle.numbers.specs.declared.refusals.Refusal as code
use Rattle.sheet.specs.File.{Part, got, refused, Placed, placed}
use Rattle.records.specs.Steps.{taken, found_part, left}
use Rattle.records.specs.declared.Found.{Found}

module _ (x : Number) (r : Result ℕ code.Refusal) (began next : ℕ) (e : taken r began next ≡ x) where
  pub took : (v : ℕ) → r ≡ Ok v → x ≡ Value v began next
  took v w = sym e ∙ ap (λ (z : Result ℕ code.Refusal). taken z began next) w

  pub took_no : (why : code.Refusal) → r ≡ Err why → x ≡ Refused (said why)
  took_no why w = sym e ∙ ap (λ (z : Result ℕ code.Refusal). taken z began next) w

module _ (x : Part Placed) (r : Result Found code.Refusal) (next : ℕ) (e : found_part r next ≡ x) where
  pub found : (f : Found) → r ≡ Ok f → x ≡ got (placed f.place (decoded f.code)) next
  found f w = sym e ∙ ap (λ (z : Result Found code.Refusal). found_part z next) w

  pub found_no : (why : code.Refusal) → r ≡ Err why → x ≡ refused (said why)
  found_no why w = sym e ∙ ap (λ (z : Result Found code.Refusal). found_part z next) w

module _ {A : Type 0} (r : Result A code.Refusal) (next : ℕ) where
  pub left_at : (a : A) → r ≡ Ok a → left r next ≡ Ok next
  left_at a w = ap (λ (z : Result A code.Refusal). left z next) w

  pub left_no : (why : code.Refusal) → r ≡ Err why → left r next ≡ Err why
  left_no why w = ap (λ (z : Result A code.Refusal). left z next) w
