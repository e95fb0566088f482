-- How a number is spelled, digit by digit, and that `spell` puts it so.
use mathlib.Core.Path.{◌≡◌, refl}
use mathlib.Core.List.{List, [], ◌∷◌, ◌++◌}
use Prim.Native.Nat.{ℕ, zero, suc, ◌+◌, ◌-◌, ◌/◌, ◌%◌, ◌≤◌, ◌<◌}
use native.Mathlib.Omega.{arith}
use native.Mathlib.Nat.{mod-eq_of_lt}
use borrow.Author.Tests.{lt-ltb, le-ltb}
use lib.ListN.{length, length-append}
use Rattle.text.specs.Text.{spelled, Adds}
use Rattle.text.specs.declared.Text.{Text}
use Rattle.text.proofs.Puts.{nothing_adds, adds_then}

pub length_more : (xs : List ℕ) (b : ℕ) → length (xs ++ b ∷ []) ≡ length xs + 1
length_more xs b = length-append xs (b ∷ [])

module _ (left v : ℕ) (some : 0 < left) where
  first : (k : ℕ) → left ≡ suc k → left - 1 ≡ k
  first k e = omega arith

  pub spelled_one : v < 10 → spelled left v ≡ (48 + v) ∷ []
  unfolding spelled
  spelled_one h = go left refl
    where
      go : (k : ℕ) → left ≡ k → spelled k v ≡ (48 + v) ∷ []
      go zero e = absurd (omega arith)
      go (suc k) e = rw (lt-ltb v 10 h)

  pub spelled_more : 10 ≤ v → spelled left v ≡ spelled (left - 1) (v / 10) ++ (48 + v % 10) ∷ []
  unfolding spelled
  spelled_more h = go left refl
    where
      go : (k : ℕ) → left ≡ k → spelled k v ≡ spelled (left - 1) (v / 10) ++ (48 + v % 10) ∷ []
      go zero e = absurd (omega arith)
      go (suc k) e = rw (le-ltb v 10 h, first k e)

pub spells_none : (t : Text) (left v : ℕ) → left ≡ 0 → Adds t (spelled left v) t
unfolding spelled
spells_none t left v e = rw e (nothing_adds t)

module _ {s u : Text} (left v d : ℕ) (some : left ≡ 0 → ⊥) (digit : d ≡ 48 + v % 10) where
  pub spells_last : v < 10 → Adds s (d ∷ []) u → Adds s (spelled left v) u
  spells_last h last = rw (spelled_one left v (omega arith) h, ← mod-eq_of_lt h, ← digit) last

  pub spells_rest : {t : Text} → 10 ≤ v → Adds s (spelled (left - 1) (v / 10)) t → Adds t (d ∷ []) u → Adds s (spelled left v) u
  spells_rest h before last = rw (spelled_more left v (omega arith) h, ← digit) (adds_then before last)
