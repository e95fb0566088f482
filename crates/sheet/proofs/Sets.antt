-- Lists that are written from a place on, as far as there is room: the laws of `sets`.
use mathlib.Core.Path.{◌≡◌, refl, sym, ap, ◌∙◌}
use mathlib.Core.List.{List, [], ◌∷◌, ◌++◌}
use Prim.Native.Nat.{ℕ, zero, suc, ◌+◌, ◌≤◌, ◌<◌}
use native.Mathlib.Omega.{arith}
use native.Mathlib.Nat.{add-zero}
use lib.ListN.{length, set, drop}
use lib.Seq.{sets, sets-eq, set_comm, set-set}

module _ {A : Type 0} where
  -- one list after the other
  pub sets_append : (a b l : List A) (i : ℕ) → sets l i (a ++ b) ≡ sets (sets l i a) (i + length a) b
  sets_append [] b l i = ap (λ (k : ℕ). sets l k b) (sym (add-zero i))
  sets_append (x ∷ a) b l i = sets_append a b (set l i x) (suc i) ∙ ap (λ (k : ℕ). sets (sets (set l i x) (suc i) a) k b) (same i (length a))
    where
      same : (i k : ℕ) → suc i + k ≡ i + suc k
      same i k = omega arith

  -- an earlier place
  set_before : (xs l : List A) (i j : ℕ) (v : A) → i < j → set (sets l j xs) i v ≡ sets (set l i v) j xs
  set_before [] l i j v h = refl
  set_before (x ∷ xs) l i j v h =
      set_before xs (set l j x) i (suc j) v (omega arith)
      ∙ ap (λ (z : List A). sets z (suc j) xs) (set_comm l j i x v (λ e. omega arith))

  -- a place among those written
  pub set_sets : (xs l : List A) (i k : ℕ) (v : A) → k < length xs → set (sets l i xs) (i + k) v ≡ sets l i (set xs k v)
  set_sets [] l i k v h = absurd (omega arith)
  set_sets (x ∷ xs) l i zero v h =
      ap (λ (j : ℕ). set (sets (set l i x) (suc i) xs) j v) (add-zero i)
      ∙ set_before xs (set l i x) i (suc i) v (omega arith)
      ∙ ap (λ (z : List A). sets z (suc i) xs) (set-set l i x v)
  set_sets (x ∷ xs) l i (suc k) v h =
      ap (λ (j : ℕ). set (sets (set l i x) (suc i) xs) j v) (same i k) ∙ set_sets xs (set l i x) (suc i) k v (omega arith)
    where
      same : (i k : ℕ) → i + suc k ≡ suc i + k
      same i k = omega arith

  -- a list that is long enough, with another written over its front
  pub front : (l vs : List A) (k : ℕ) → length vs ≡ k → k ≤ length l → sets l 0 vs ≡ vs ++ drop k l
  front l vs k e h = sets-eq vs l 0 (omega arith) ∙ ap (λ (j : ℕ). vs ++ drop j l) (sum (length vs) k e)
    where
      sum : (a k : ℕ) → a ≡ k → 0 + a ≡ k
      sum a k e = omega arith
