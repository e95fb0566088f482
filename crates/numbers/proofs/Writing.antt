-- The groups of a number, written one after the other.
use mathlib.Core.Path.{◌≡◌, refl, ap, ◌∙◌}
use mathlib.Core.Bool.{Bool, true, false, cond}
use mathlib.Core.List.{List, [], ◌∷◌}
use Prim.Native.Nat.{ℕ, zero, suc, ◌+◌, ◌-◌, ◌/◌, ◌%◌, ◌≤◌, ◌<◌}
use native.Mathlib.Omega.{arith}
use native.Mathlib.Numerals.{add-one}
use native.Mathlib.Decide.{dec_lt}
use borrow.Author.Tests.{lt-ltb, le-ltb}
use lib.Dec.{ltb}
use lib.ListN.{length, set, length-set}
use lib.Seq.{sets, set_out}
use Rattle.numbers.specs.Groups.{grouped, groups}

-- what stands past the end is not written
pub sets_out : {A : Type 0} (l : List A) (i : ℕ) (vs : List A) → length l ≤ i → sets l i vs ≡ l
sets_out l i [] h = refl
sets_out l i (v ∷ vs) h = sets_out (set l i v) (suc i) vs (omega (arith, length-set l i v)) ∙ set_out l i v h

-- grouped at a count that is not 0, as the code counts
unroll : (g v : ℕ) → (g ≡ 0 → ⊥) → grouped g v ≡ cond (ltb v 128) (v ∷ []) ((v % 128 + 128) ∷ grouped (g - 1) (v / 128))
unfolding grouped
unroll zero v h = absurd (h refl)
unroll (suc g) v h = ap (λ (k : ℕ). cond (ltb v 128) (v ∷ []) ((v % 128 + 128) ∷ grouped k (v / 128))) (less g)
  where
    less : (g : ℕ) → g ≡ suc g - 1
    less g = omega arith

-- the last group
pub grouped_one : (g v : ℕ) → (g ≡ 0 → ⊥) → v < 128 → grouped g v ≡ v ∷ []
grouped_one g v h l = unroll g v h ∙ rw (lt-ltb _ _ l)

-- a group with others after it
pub grouped_more : (g v : ℕ) → (g ≡ 0 → ⊥) → 128 ≤ v → grouped g v ≡ (v % 128 + 128) ∷ grouped (g - 1) (v / 128)
grouped_more g v h l = unroll g v h ∙ rw (le-ltb _ _ l)

module _ (out : List ℕ) (at g v : ℕ) (h : g ≡ 0 → ⊥) where
  pub put_one : v < 128 → set out at v ≡ sets out at (grouped g v)
  put_one l = rw (grouped_one g v h l)

  pub put_more : 128 ≤ v → sets (set out at (v % 128 + 128)) (at + 1) (grouped (g - 1) (v / 128)) ≡ sets out at (grouped g v)
  put_more l = rw (grouped_more g v h l, add-one at)

-- one group is one byte
single : (w : ℕ) → 1 ≡ length (grouped 1 w)
unfolding grouped
single w = go (ltb w 128)
  where
    go : (b : Bool) → 1 ≡ length (cond b (w ∷ []) ((w % 128 + 128) ∷ []))
    go true = refl
    go false = refl

-- how many groups there are
module _ (v : ℕ) where
  pub size_one : v < 128 → 1 ≡ length (groups v)
  size_one l = rw (grouped_one 4 v (λ e. omega arith) l)

  pub size_two : 128 ≤ v → v < 16384 → 2 ≡ length (groups v)
  size_two l h = rw (grouped_more 4 v (λ e. omega arith) l, grouped_one 3 (v / 128) (λ e. omega arith) (omega arith))

  pub size_three : 16384 ≤ v → v < 2097152 → 3 ≡ length (groups v)
  size_three l h =
      rw (
        grouped_more 4 v (λ e. omega arith) (omega arith),
        grouped_more 3 (v / 128) (λ e. omega arith) (omega arith),
        grouped_one 2 (v / 128 / 128) (λ e. omega arith) (omega arith),
      )

  pub size_four : 2097152 ≤ v → 4 ≡ length (groups v)
  size_four l =
      rw (
        grouped_more 4 v (λ e. omega arith) (omega arith),
        grouped_more 3 (v / 128) (λ e. omega arith) (omega arith),
        grouped_more 2 (v / 128 / 128) (λ e. omega arith) (omega arith),
      ) (ap (λ (n : ℕ). suc (suc (suc n))) (single (v / 128 / 128 / 128)))

-- one to four groups
pub few_groups : (v : ℕ) → (1 ≤ length (groups v)) × (length (groups v) ≤ 4)
few_groups v = elim (dec_lt v 128) [
  | yes a ↦ let e = size_one v a in (omega arith, omega arith)
  | no a ↦ elim (dec_lt v 16384) [
    | yes b ↦ let e = size_two v (omega arith) b in (omega arith, omega arith)
    | no b ↦ elim (dec_lt v 2097152) [
      | yes c ↦ let e = size_three v (omega arith) c in (omega arith, omega arith)
      | no c ↦ let e = size_four v (omega arith) in (omega arith, omega arith)
    ]
  ]
]
