-- What the machine's bits of an i32 say of the integer: `!v` of a negative v is its size, a cast of any other v is the number.
-- And the two ways between limits and numbers undo each other.
use mathlib.Core.Path.{◌≡◌, refl, ap, ◌∙◌}
use mathlib.Core.Bool.{Bool, true, false}
use Prim.Native.Nat.{ℕ, suc, ◌+◌, ◌-◌, ◌*◌, ◌/◌, ◌%◌, ◌<◌}
use native.Mathlib.Omega.{arith}
use borrow.Author.Tests.{ltb-true, eqb-true, eqb-false, eq-eqb, ne_eqb}
use lib.Dec.{ltb, eqb}
use lib.IntN.{ℤ, pos, negsuc}
use lib.Signed.{mag, lt_z}
use mir.Syntax.{w32}
use mir.Val.{SFits, to_z, of_z}
use mir.ValLaws.{to_z-of_z, to_z_pos, to_z-neg}
use Rattle.numbers.specs.Signs.{encoded, signed, decoded}

not_below_zero : (n : ℕ) → ltb n 0 ≡ true → ⊥
not_below_zero n t = let h = ltb-true n 0 t in omega arith

not_true_false : true ≡ false → ⊥
not_true_false e = let z : ◌≡◌ {A = ℕ} 0 1 = cc in omega arith

complement : (n : ℕ) → n < 2147483648 → 4294967295 - (4294967296 - suc n) ≡ n
complement n h = omega arith

module _ (z : ℤ) (f : SFits w32 z) where
  -- the test as it is of the integer itself
  test : (b : Bool) → lt_z (to_z w32 (of_z w32 z)) (pos 0) ≡ b → lt_z z (pos 0) ≡ b
  test b t = rw (to_z-of_z w32 z f) at t

-- a negative v: `!v` has the bits of its size
pub flip : (z : ℤ) → SFits w32 z → lt_z (to_z w32 (of_z w32 z)) (pos 0) ≡ true → to_z w32 (4294967295 - of_z w32 z) ≡ pos (mag z)
flip (pos n) f t = absurd (not_below_zero n (test (pos n) f true t))
flip (negsuc n) f t = ap (to_z w32) (complement n f.sfits) ∙ to_z_pos w32 n f.sfits

-- any other v
pub keep : (z : ℤ) → SFits w32 z → lt_z (to_z w32 (of_z w32 z)) (pos 0) ≡ false → to_z w32 (of_z w32 z) ≡ pos (mag z)
keep (pos n) f t = to_z_pos w32 n f.sfits
keep (negsuc n) f t = absurd (not_true_false (test (negsuc n) f false t))

-- the bits of a size, complemented, are those of the negative number
pub unflip : (n : ℕ) → n < 2147483648 → to_z w32 (4294967295 - n) ≡ negsuc n
unflip n h = rw (same n h) (to_z-neg w32 n h)
  where
    same : (n : ℕ) → n < 2147483648 → 4294967295 - n ≡ 4294967296 - suc n
    same n h = omega arith

-- which of the two a number is, by the test `v < 0`
pub is_neg : (z : ℤ) → SFits w32 z → lt_z (to_z w32 (of_z w32 z)) (pos 0) ≡ true → negsuc (mag z) ≡ z
is_neg (pos n) f t = absurd (not_below_zero n (test (pos n) f true t))
is_neg (negsuc n) f t = refl

pub is_pos : (z : ℤ) → SFits w32 z → lt_z (to_z w32 (of_z w32 z)) (pos 0) ≡ false → pos (mag z) ≡ z
is_pos (pos n) f t = refl
is_pos (negsuc n) f t = absurd (not_true_false (test (negsuc n) f false t))

-- a number that was passed is read back from its bits: by the bound alone, as an element's rule gives it
pub passed : (z : ℤ) → mag z < 2147483648 → to_z w32 (of_z w32 z) ≡ z
passed z h = to_z-of_z w32 z (record { sfits = h })

-- THEOREM: what a number of the file decodes to is written as that number
pub encoded_decoded : (u : ℕ) → encoded (decoded u) ≡ u
encoded_decoded u = go (eqb (u % 2) 1) refl
  where
    go : (b : Bool) → eqb (u % 2) 1 ≡ b → encoded (signed b (u / 2)) ≡ u
    go true e = let h = eqb-true (u % 2) 1 e in omega arith
    go false e = let h = eqb-false (u % 2) 1 e in omega arith

even_half : (n : ℕ) → n * 2 / 2 ≡ n
even_half n = omega arith

odd_half : (n : ℕ) → (n * 2 + 1) / 2 ≡ n
odd_half n = omega arith

even_test : (n : ℕ) → eqb (n * 2 % 2) 1 ≡ false
even_test n = ne_eqb (n * 2 % 2) 1 (omega arith)

odd_test : (n : ℕ) → eqb ((n * 2 + 1) % 2) 1 ≡ true
odd_test n = eq-eqb ((n * 2 + 1) % 2) 1 (omega arith)

-- THEOREM: what a value is written as decodes to that value
pub decoded_encoded : (v : ℤ) → decoded (encoded v) ≡ v
decoded_encoded (pos n) = rw (even_test n, even_half n)
decoded_encoded (negsuc n) = rw (odd_test n, odd_half n)

-- THEOREM: -1,000,000 is written as 1,999,999
pub low_end : encoded (negsuc 999999) ≡ 1999999
low_end = refl

-- THEOREM: 1,000,000 is written as 2,000,000
pub high_end : encoded (pos 1000000) ≡ 2000000
high_end = refl
