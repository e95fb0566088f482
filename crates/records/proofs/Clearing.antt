-- The first places of a list say one value, as far as the list reaches.
use mathlib.Core.Path.{◌≡◌, refl, sym, ap, ◌∙◌}
use mathlib.Core.List.{List, [], ◌∷◌, ◌++◌}
use Prim.Native.Nat.{ℕ, zero, suc, min}
use native.Mathlib.Omega.{arith}
use lib.ListN.{length, drop, set, replicate}
use lib.Seq.{sets}
use Rattle.numbers.proofs.Writing.{sets_out}

module _ {A : Type 0} (v : A) where
  -- a list behind a first value
  behind : (xs l : List A) (x : A) (k : ℕ) → sets (x ∷ l) (suc k) xs ≡ x ∷ sets l k xs
  behind [] l x k = refl
  behind (y ∷ xs) l x k = behind xs (set l k y) x (suc k)

  pub cleared : (size : ℕ) (l : List A) (end : ℕ) → end ≡ min size (length l) → replicate end v ++ drop end l ≡ sets l 0 (replicate size v)
  cleared zero l end e = let z : end ≡ 0 = omega (arith, e) in rw z
  cleared (suc size) [] end e = let z : end ≡ 0 = omega (arith, e) in rw z (sym (sets_out [] 0 (replicate (suc size) v) (omega arith)))
  cleared (suc size) (x ∷ l) end e =
      let z : end ≡ suc (min size (length l)) = omega (arith, e) in
      rw z (ap (λ (t : List A). v ∷ t) (cleared size l (min size (length l)) refl) ∙ sym (behind (replicate size v) l v 0))
