-- What follows a part that was read: the laws of `and_then`, and of a test that a part passed.
use mathlib.Core.Path.{◌≡◌, refl}
use mathlib.Core.Bool.{Bool, true, false, cond}
use Prim.Native.Nat.{ℕ}
use native.Mathlib.Omega.{arith}
use Rattle.numbers.specs.Groups.{Refusal}
use Rattle.sheet.specs.File.{Part, got, refused, and_then}

-- a part that was read is not refused
pub never : {A : Type 0} {r : Refusal} {a : A} {next : ℕ} → refused r ≡ got a next → ⊥
never e = let z : ◌≡◌ {A = ℕ} 0 1 = cc in omega arith

-- a part that was read passed its test
pub passed : {A : Type 0} (b : Bool) (x : Part A) (r : Refusal) (a : A) (next : ℕ) → cond b x (refused r) ≡ got a next → (b ≡ true) × (x ≡ got a next)
passed true x r a next h = (refl, h)
passed false x r a next h = absurd (never h)

-- a part that was read after a part
pub record Parted {A B : Type 0} (x : Part A) (go : A → ℕ → Part B) (b : B) (next : ℕ) : Type 0 where
  pub thing : A
  pub place : ℕ
  pub is : x ≡ got thing place
  pub rest : go thing place ≡ got b next

pub then_got : {A B : Type 0} (x : Part A) (go : A → ℕ → Part B) (b : B) (next : ℕ) → and_then x go ≡ got b next → Parted x go b next
unfolding and_then
then_got (got a p) go b next h = record { thing = a; place = p; is = refl; rest = h }
then_got (refused r) go b next h = absurd (never h)

module _ {A B : Type 0} (x : Part A) (go : A → ℕ → Part B) where
  pub then_value : (a : A) (next : ℕ) → x ≡ got a next → and_then x go ≡ go a next
  unfolding and_then
  then_value a next e = rw e

  pub then_refused : (r : Refusal) → x ≡ refused r → and_then x go ≡ refused r
  unfolding and_then
  then_refused r e = rw e
