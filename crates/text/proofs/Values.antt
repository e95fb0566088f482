-- A spelled number has its value: the digits, read back, are the number.
use mathlib.Core.Path.{◌≡◌, refl, ap, ◌∙◌}
use mathlib.Core.List.{List, [], ◌∷◌, ◌++◌}
use Prim.Native.Nat.{ℕ, zero, suc, ◌+◌, ◌-◌, ◌*◌, ◌/◌, ◌%◌, ◌^◌, ◌≤◌, ◌<◌}
use native.Mathlib.Omega.{arith}
use native.Mathlib.Decide.{dec_lt}
use native.Mathlib.Nat.{div-add-mod', div-lt_iff_lt-mul}
use Rattle.text.specs.Text.{spelled, decimal, valued}
use lib.ListN.{length}
use Rattle.text.proofs.Spelling.{spelled_one, spelled_more, length_more}

valued_append : (v : ℕ) (xs ys : List ℕ) → valued v (xs ++ ys) ≡ valued (valued v xs) ys
unfolding valued
valued_append v [] ys = refl
valued_append v (x ∷ xs) ys = valued_append (v * 10 + (x - 48)) xs ys

-- 10 to the power n, as the digits count
unfoldable pub tens : ℕ → ℕ
tens zero = 1
tens (suc n) = tens n * 10

-- the last digit stands after those of the tenth part
spelled_last : (left v : ℕ) → 10 ≤ v → spelled (suc left) v ≡ spelled left (v / 10) ++ (48 + v % 10) ∷ []
spelled_last left v large = spelled_more (suc left) v (omega arith) large ∙ ap (λ (k : ℕ). spelled k (v / 10) ++ (48 + v % 10) ∷ []) (less left)
  where
    less : (k : ℕ) → suc k - 1 ≡ k
    less k = omega arith

spelled_valued : (left v : ℕ) → v < tens left → valued 0 (spelled left v) ≡ v
unfolding valued tens spelled
spelled_valued zero v h = omega arith
spelled_valued (suc left) v h =
    elim (dec_lt v 10) [
      | yes small ↦ ap (valued 0) (spelled_one (suc left) v (omega arith) small) ∙ one v
      | no large ↦
          ap (valued 0) (spelled_last left v (omega arith))
          ∙ valued_append 0 (spelled left (v / 10)) ((48 + v % 10) ∷ [])
          ∙ ap (λ (w : ℕ). w * 10 + ((48 + v % 10) - 48)) (spelled_valued left (v / 10) ((div-lt_iff_lt-mul (omega arith)).1 h))
          ∙ back v
    ]
  where
    one : (v : ℕ) → 0 * 10 + ((48 + v) - 48) ≡ v
    one v = omega arith

    back : (v : ℕ) → v / 10 * 10 + ((48 + v % 10) - 48) ≡ v
    back v = omega (arith, div-add-mod' v 10)

-- THEOREM: a number of 64 bits, in decimal digits, is read back as itself
pub decimal_valued : (v : ℕ) → v < 2 ^ 64 → valued 0 (decimal v) ≡ v
unfolding tens
decimal_valued v h = spelled_valued 20 v (omega arith)

-- ---- how many digits there are

-- one more than the tenth part has
spelled_longer : (left v : ℕ) → 10 ≤ v → length (spelled (suc left) v) ≡ length (spelled left (v / 10)) + 1
spelled_longer left v large = ap length (spelled_last left v large) ∙ length_more (spelled left (v / 10)) (48 + v % 10)

-- no more than were given
spelled_most : (left v : ℕ) → length (spelled left v) ≤ left
unfolding spelled
spelled_most zero v = omega arith
spelled_most (suc left) v =
    elim (dec_lt v 10) [
      | yes small ↦ omega (arith, ap length (spelled_one (suc left) v (omega arith) small))
      | no large ↦ omega (arith, spelled_longer left v (omega arith), spelled_most left (v / 10))
    ]

pub decimal_most : (v : ℕ) → length (decimal v) ≤ 20
decimal_most v = spelled_most 20 v

-- a number below ten to the power k has at most k of them
spelled_few : (k left v : ℕ) → v < tens (suc k) → length (spelled left v) ≤ suc k
unfolding spelled tens
spelled_few k zero v h = omega arith
spelled_few zero (suc left) v h = omega (arith, ap length (spelled_one (suc left) v (omega arith) (omega arith)))
spelled_few (suc k) (suc left) v h =
    elim (dec_lt v 10) [
      | yes small ↦ omega (arith, ap length (spelled_one (suc left) v (omega arith) small))
      | no large ↦ omega (arith, spelled_longer left v (omega arith), spelled_few k left (v / 10) ((div-lt_iff_lt-mul (omega arith)).1 h))
    ]

pub decimal_few : (k v : ℕ) → v < tens (suc k) → length (decimal v) ≤ suc k
decimal_few k v h = spelled_few k 20 v h
