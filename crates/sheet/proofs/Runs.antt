-- Numbers that stand in a file one after the other, from a place up to an end: so many have one end, and up to an end there are so many.
-- They are the same in any file that is the same up to there.
use mathlib.Core.Path.{◌≡◌, refl, sym, ap, subst, ◌∙◌}
use mathlib.Core.Bool.{true}
use mathlib.Core.List.{List}
use Prim.Native.Nat.{ℕ, zero, suc, ◌+◌, ◌%◌, ◌≤◌, ◌<◌}
use native.Mathlib.Omega.{arith}
use native.Mathlib.Decide.{dec_lt}
use borrow.Author.Tests.{ltb-true, ltb-false, eqb-false}
use lib.Dec.{ltb, eqb}
use lib.ListN.{length, get_or, take}
use lib.Seq.{get_or-take, length-take-le}
use Rattle.numbers.specs.Groups.{followed, group, number_in, number_at}
use Rattle.numbers.specs.Groups.{Refusal}
use Rattle.numbers.specs.Groups.{Number}
use Rattle.numbers.specs.Groups.{Value, Refused}
use Rattle.numbers.proofs.Tests.{split}
use Rattle.numbers.proofs.Reading.{clash, group_one, group_more, followed_more, EndsWithin, ends, value}

-- so many numbers stand in the file one after the other, from a place up to an end
pub data Run (file : List ℕ) (from : ℕ) : ℕ → ℕ → Type 0 where
  none : Run file from 0 from
  more : {k at v next : ℕ} → Run file from k at → number_at file at ≡ Value v at next → Run file from (suc k) next

-- whole numbers lie before this place
pub record Whole (file : List ℕ) (at : ℕ) : Type 0 where
  pub count : ℕ
  pub run : Run file 0 count at

pub run_rises : {file : List ℕ} {from k end : ℕ} → Run file from k end → from ≤ end
run_rises none = omega arith
run_rises {file} (more {at = at} {v = v} {next = next} p e) = let l = run_rises p in omega (arith, (value file at v next (sym e)).1)

pub run_inside : {file : List ℕ} {from k end : ℕ} → from ≤ length file → Run file from k end → end ≤ length file
run_inside h none = h
run_inside {file} h (more {at = at} {v = v} {next = next} p e) = (value file at v next (sym e)).2

pub inside : {file : List ℕ} {at : ℕ} → Whole file at → at ≤ length file
inside w = run_inside (omega arith) w.run

-- so many numbers have one end
pub one_end : {file : List ℕ} {from k a b : ℕ} → Run file from k a → Run file from k b → a ≡ b
one_end none none = refl
one_end (more {next = a} p d) (more {next = b} q e) = let z = one_end p q in cc

-- where fewer numbers end, one more stands
apart : {file : List ℕ} {from j k a b : ℕ} → j < k → Run file from j a → Run file from k b → (v : ℕ) × (next : ℕ) × (number_at file a ≡ Value v a next) × (a < b)
apart h p none = absurd (omega arith)
apart {file} {from} {j} h p (more {k = k} {at = at} {v = v} {next = next} q e) = elim (dec_lt j k) [
  | yes i ↦ let r = apart i p q in (r.0, r.1, r.2, omega (arith, r.3, (value file at v next (sym e)).1))
  | no i ↦
      let z : k ≡ j = omega (arith, i, h) in
      let w = one_end (subst (λ (n : ℕ). Run file from n at) z q) p in
      (v, next, ap (number_at file) (sym w) ∙ e ∙ ap (λ (x : ℕ). Value v x next) w, omega (arith, w, (value file at v next (sym e)).1))
]

-- where the next number is refused, no more numbers follow
most_numbers : {file : List ℕ} {from j k a b : ℕ} {r : Refusal} → number_at file a ≡ Refused r → Run file from j a → Run file from k b → k ≤ j
most_numbers {j = j} {k = k} e p q = elim (dec_lt j k) [
  | yes i ↦ let n = apart i p q in absurd (clash (sym e ∙ n.2))
  | no i ↦ omega (arith, i)
]

-- up to an end there are so many numbers, and no more
no_more : {file : List ℕ} {from j k a : ℕ} → Run file from j a → Run file from k a → k ≤ j
no_more {j = j} {k = k} p q = elim (dec_lt j k) [
  | yes i ↦ let n = apart i p q in absurd (omega (arith, n.3))
  | no i ↦ omega (arith, i)
]

-- numbers after numbers
joined : {file : List ℕ} {from j a k b : ℕ} → Run file from j a → Run file a k b → (n : ℕ) × (n ≡ j + k) × Run file from n b
joined {j = j} p none = (j, omega arith, p)
joined p (more q e) = let r = joined p q in (suc r.0, omega (arith, r.1), more r.2 e)

one_run : {file : List ℕ} {from j k a b : ℕ} → k ≡ j → Run file from j a → Run file from k b → a ≡ b
one_run {file} {from} {b = b} z p q = one_end p (subst (λ (n : ℕ). Run file from n b) z q)

-- whole numbers end at one place where the next is refused,
pub one_refused : {file : List ℕ} {a b : ℕ} {r s : Refusal} → Whole file a → Whole file b → number_at file a ≡ Refused r → number_at file b ≡ Refused s → a ≡ b
one_refused v w d e = let l = most_numbers d v.run w.run in let h = most_numbers e w.run v.run in one_run (omega arith) v.run w.run

-- and at one place from which so many more numbers go on to an end
pub one_start : {file : List ℕ} {k a b end : ℕ} → Whole file a → Whole file b → Run file a k end → Run file b k end → a ≡ b
one_start v w p q =
    let m = joined v.run p in
    let n = joined w.run q in
    let l = no_more m.2 n.2 in
    let h = no_more n.2 m.2 in
    one_run (omega (arith, m.1, n.1)) v.run w.run

-- a number of one file, and y, the number at its place in another that is the same up to `most`
abbrev pub Same : ℕ → Number → Number → Type 0
Same most y (Value v began next) = next ≤ most → y ≡ Value v began next
Same most y (Refused r) = (1 ≤ r.number) × (r.number ≤ 2)

-- ---- a number
module _ (most : ℕ) (other file : List ℕ) (fits : most ≤ length other) (same : (i : ℕ) → i < most → get_or file i 0 ≡ get_or other i 0) where
  group_same : (at : ℕ) (y x : Number) → EndsWithin (at + 1) (length file) x → Same most y x → Same most (group other at y) (group file at x)
  unfolding group followed
  group_same at y x w s =
      split (Same most (group other at y)) (ltb at (length file)) (λ h. split (Same most (group other at y)) (ltb (get_or file at 0) 128) one (λ e. many (ltb-false _ _ e) x w s)) (λ h. (omega arith, omega arith))
    where
      one : ltb (get_or file at 0) 128 ≡ true → at + 1 ≤ most → group other at y ≡ Value (get_or file at 0) at (at + 1)
      one e i = sym (group_one other at (get_or file at 0) y (omega arith) (same at (omega arith)) (ltb-true _ _ e))

      many : 128 ≤ get_or file at 0 → (x : Number) → EndsWithin (at + 1) (length file) x → Same most y x → Same most (group other at y) (followed at (get_or file at 0 % 128) x)
      many h (Refused r) w s = s
      many h (Value v began next) w s =
          split (Same most (group other at y)) (eqb v 0) (λ e. (omega arith, omega arith)) λ e i.
          sym (group_more other at (get_or file at 0) y (omega arith) (same at (omega arith)) h) ∙ ap (followed at (get_or file at 0 % 128)) (s i) ∙ sym (followed_more at (get_or file at 0 % 128) v began next (eqb-false v 0 e))

  pub number_same : (g at : ℕ) → Same most (number_in g other at) (number_in g file at)
  unfolding number_in
  number_same zero at = (omega arith, omega arith)
  number_same (suc g) at = group_same at (number_in g other (at + 1)) (number_in g file (at + 1)) (ends g file (at + 1)) (number_same g (at + 1))

-- numbers of a front are numbers of the file
pub run_back : {file : List ℕ} {j from k end : ℕ} → j ≤ length file → Run (take j file) from k end → Run file from k end
run_back h none = none
run_back {file} {j} h (more {at = at} {v = v} {next = next} p e) =
    more (run_back h p) (subst (Same j (number_at file at)) e (number_same j file (take j file) h (λ i l. get_or-take j file i 0 l) 4 at) (omega (arith, (value (take j file) at v next (sym e)).2, length-take-le j file h)))
