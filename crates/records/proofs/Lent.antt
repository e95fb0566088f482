-- A part of a list that goes to its end: lent, written from its start on, and given back.
use mathlib.Core.Path.{◌≡◌, sym, ap, ◌∙◌}
use mathlib.Core.List.{List, [], ◌∷◌, ◌++◌, append-nil}
use Prim.Native.Nat.{ℕ, suc, ◌+◌, ◌-◌, ◌≤◌, min}
use native.Mathlib.Omega.{arith}
use native.Mathlib.Nat.{add-suc, add-zero}
use native.Mathlib.Decide.{dec_lt}
use lib.ListN.{length, set, take, drop, length-drop, take-append-drop}
use lib.Seq.{sets, take_all, take-set-le, drop-set-add, drop-drop, drop-length}
use borrow.Rule.Slice.PartMut.{mid_of, put_mid}
use Rattle.numbers.proofs.Writing.{sets_out}

module _ {A : Type 0} where
  -- written in the part that starts at a
  sets_part : (xs l : List A) (a j : ℕ) → sets l (a + j) xs ≡ take a l ++ sets (drop a l) j xs
  sets_part [] l a j = sym (take-append-drop a l)
  sets_part (x ∷ xs) l a j =
      ap (λ (k : ℕ). sets (set l (a + j) x) k xs) (sym (add-suc a j))
      ∙ sets_part xs (set l (a + j) x) a (suc j)
      ∙ ap (λ (z : List A). z ++ sets (drop a (set l (a + j) x)) (suc j) xs) (take-set-le a l (a + j) x (omega arith))
      ∙ ap (λ (z : List A). take a l ++ sets z (suc j) xs) (drop-set-add a l j x)

  -- a part that goes to the end, lent and given back
  pub lent : (l : List A) (a : ℕ) → mid_of a (length l - a) l ≡ drop a l
  lent l a = take_all (length l - a) (drop a l) (omega (arith, length-drop a l))

  back : (l ys : List A) (a : ℕ) → a ≤ length l → put_mid a (length l - a) l ys ≡ take a l ++ ys
  back l ys a h =
      ap (λ (z : List A). take a l ++ (ys ++ z)) (drop-drop (length l - a) a l ∙ ap (λ (k : ℕ). drop k l) (same (length l) a h) ∙ drop-length l)
      ∙ ap (λ (z : List A). take a l ++ z) (append-nil ys)
    where
      same : (n a : ℕ) → a ≤ n → a + (n - a) ≡ n
      same n a h = omega arith

  -- what was written in the part is written from `base` on, also where the list does not reach that far
  pub part_back : (l xs ys : List A) (base a : ℕ) → a ≡ min base (length l)
      → ys ≡ sets (mid_of a (length l - a) l) 0 xs → put_mid a (length l - a) l ys ≡ sets l base xs
  part_back l xs ys base a f e = elim (dec_lt base (length l)) [
    | yes h ↦
        let q : a ≡ base = omega (arith, f) in
        back l ys a (omega arith) ∙ ap (λ (z : List A). take a l ++ z) (e ∙ ap (λ (z : List A). sets z 0 xs) (lent l a))
        ∙ sym (sets_part xs l a 0) ∙ ap (λ (k : ℕ). sets l k xs) (add-zero a ∙ q)
    | no h ↦
        let g : length l ≤ base = omega arith in
        let q : a ≡ length l = omega (arith, f) in
        back l ys a (omega arith) ∙ ap (λ (z : List A). take a l ++ z) (e ∙ ap (λ (z : List A). sets z 0 xs) (lent l a))
        ∙ sym (sets_part xs l a 0) ∙ sets_out l (a + 0) xs (omega arith) ∙ sym (sets_out l base xs g)
  ]
