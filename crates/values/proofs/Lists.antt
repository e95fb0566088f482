-- Values stored one after the other, as far as a list reaches.
use mathlib.Core.Path.{◌≡◌, sym, ap, ◌∙◌}
use mathlib.Core.List.{List, [], ◌∷◌}
use Prim.Native.Nat.{ℕ, zero, suc, ◌+◌, ◌≤◌, ◌<◌}
use native.Mathlib.Omega.{arith}
use native.Mathlib.Numerals.{add-one}
use lib.ListN.{get_or, length, set, take}
use lib.Seq.{sets}
use Rattle.std.proofs.lemmas.List.{take_all}

stores : (l : List ℕ) (i : ℕ) (vs : List ℕ) (k : ℕ) → k < length vs → set (sets l i (take k vs)) (i + k) (get_or vs k 0) ≡ sets l i (take (suc k) vs)
stores l i [] k h = absurd (omega arith)
stores l i (v ∷ vs) zero h = ap (λ (j : ℕ). set l j v) (plain i)
  where
    plain : (i : ℕ) → i + 0 ≡ i
    plain i = omega arith
stores l i (v ∷ vs) (suc k) h = ap (λ (j : ℕ). set (sets (set l i v) (suc i) (take k vs)) j (get_or vs k 0)) (further i k) ∙ stores (set l i v) (suc i) vs k (omega arith)
  where
    further : (i k : ℕ) → i + suc k ≡ suc i + k
    further i k = omega arith

-- one value more, in the code's own form
pub stores_more : (l vs now after : List ℕ) (k : ℕ) → k < length vs → now ≡ sets l 0 (take k vs) → after ≡ set now k (get_or vs k 0) → after ≡ sets l 0 (take (k + 1) vs)
stores_more l vs now after k h e f =
    f ∙ ap (λ (x : List ℕ). set x k (get_or vs k 0)) e ∙ ap (λ (j : ℕ). set (sets l 0 (take k vs)) j (get_or vs k 0)) (sym (front k)) ∙ stores l 0 vs k h
    ∙ ap (λ (j : ℕ). sets l 0 (take j vs)) (sym (add-one k))
  where
    front : (k : ℕ) → 0 + k ≡ k
    front k = omega arith

-- all of them
pub stores_all : (l vs now : List ℕ) (k : ℕ) → now ≡ sets l 0 (take k vs) → length vs ≤ k → now ≡ sets l 0 vs
stores_all l vs now k e past = e ∙ ap (λ (x : List ℕ). sets l 0 x) (take_all k vs past)
