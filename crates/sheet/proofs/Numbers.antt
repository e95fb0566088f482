-- How reading goes on from one number to the next: the laws of `tested` and `after`.
use mathlib.Core.Path.{◌≡◌, refl, ap, ◌∙◌}
use mathlib.Core.Bool.{Bool, true, false}
use Prim.Native.Nat.{ℕ}
use Rattle.numbers.specs.Groups.{bad}
use Rattle.numbers.specs.Groups.{Refusal}
use Rattle.numbers.specs.Groups.{Number}
use Rattle.numbers.specs.Groups.{Value, Refused}
use Rattle.numbers.proofs.Tests.{split}
use Rattle.numbers.proofs.Reading.{clash}
use Rattle.sheet.specs.File.{Part, got, refused, tested, after}
use Rattle.sheet.proofs.Following.{never}

module _ {A : Type 0} (x : Number) (go : ℕ → ℕ → Part A) where
  pub after_value : (v : ℕ) {began : ℕ} (next : ℕ) → x ≡ Value v began next → after x go ≡ go v next
  unfolding after
  after_value v next e = rw e

  pub after_refused : (r : Refusal) → x ≡ Refused r → after x go ≡ refused r
  unfolding after
  after_refused r e = rw e

-- a part that was read after a number, which began at one place and has another after it
pub record Valued {A : Type 0} (x : Number) (go : ℕ → ℕ → Part A) (a : A) (next : ℕ) : Type 0 where
  pub value : ℕ
  pub began : ℕ
  pub place : ℕ
  pub is : x ≡ Value value began place
  pub rest : go value place ≡ got a next

pub after_got : {A : Type 0} (x : Number) (go : ℕ → ℕ → Part A) (a : A) (next : ℕ) → after x go ≡ got a next → Valued x go a next
unfolding after
after_got (Value v p e) go a next h = record { value = v; began = p; place = e; is = refl; rest = h }
after_got (Refused r) go a next h = absurd (never h)

module _ (ok : ℕ → Bool) (k : ℕ) (x : Number) where
  pub tested_refused : (r : Refusal) → x ≡ Refused r → tested ok k x ≡ Refused r
  unfolding tested
  tested_refused r e = rw e

  pub tested_yes : (v : ℕ) {began : ℕ} (next : ℕ) → x ≡ Value v began next → ok v ≡ true → tested ok k x ≡ Value v began next
  unfolding tested
  tested_yes v next e h = rw (e, h)

  pub tested_no : (v began next : ℕ) → x ≡ Value v began next → ok v ≡ false → tested ok k x ≡ Refused (bad k began)
  unfolding tested
  tested_no v began next e h = rw (e, h)

-- a value that passed its test
pub tested_value : (ok : ℕ → Bool) (k : ℕ) (x : Number) (v : ℕ) {began : ℕ} (next : ℕ) → tested ok k x ≡ Value v began next → (x ≡ Value v began next) × (ok v ≡ true)
unfolding tested
tested_value ok k (Value u p e) v {began} next h =
    split (λ x. x ≡ Value v began next → (Value u p e ≡ Value v began next) × (ok v ≡ true)) (ok u) (λ q h. let z : v ≡ u = cc in (h, ap ok z ∙ q)) (λ q h. absurd (clash h)) h
tested_value ok k (Refused r) v next h = absurd (clash h)

-- two tests that agree
pub tested_same : (f g : ℕ → Bool) → ((v : ℕ) → f v ≡ g v) → (k : ℕ) (x : Number) → tested f k x ≡ tested g k x
unfolding tested
tested_same f g h k (Value v began next) = rw (h v)
tested_same f g h k (Refused r) = refl
