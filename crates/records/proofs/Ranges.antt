-- The reader's tests of a number as ranges.
use mathlib.Core.Path.{◌≡◌, refl, sym, ◌∙◌}
use mathlib.Core.Bool.{Bool, true, false}
use Prim.Native.Nat.{ℕ, ◌-◌, ◌/◌, ◌%◌, ◌≤◌}
use native.Mathlib.Omega.{arith}
use borrow.Author.Tests.{ltb-true, leb-true, eqb-true, eqb-false, lt-ltb, le-leb, eq-eqb}
use lib.Dec.{leb, ltb, eqb}
use Rattle.numbers.specs.Signs.{decoded, signed}
use Rattle.tables.specs.Sheets.{in_limit}
use Rattle.tables.proofs.Laws.{both, yes}
use Rattle.records.specs.Steps.{between}

-- two tests that follow from each other
pub agree : (a b : Bool) → (a ≡ true → b ≡ true) → (b ≡ true → a ≡ true) → a ≡ b
agree true b f g = sym (f refl)
agree false true f g = g refl
agree false false f g = refl

module _ (v : ℕ) where
  pub up_to : (most : ℕ) → between 0 most v ≡ leb v most
  up_to most = rw (le-leb 0 v (omega arith))

  pub just_one : between 1 1 v ≡ eqb v 1
  just_one = agree (between 1 1 v) (eqb v 1)
      (λ e. let b = both (leb 1 v) (leb v 1) e in eq-eqb v 1 (omega (arith, leb-true 1 v b.0, leb-true v 1 b.1)))
      (λ e. let q = eqb-true v 1 e in yes (leb 1 v) (leb v 1) (le-leb 1 v (omega arith)) (le-leb v 1 (omega arith)))

  pub below : (m : ℕ) → 1 ≤ m → between 0 (m - 1) v ≡ ltb v m
  below m h = up_to (m - 1) ∙ agree (leb v (m - 1)) (ltb v m) (λ e. lt-ltb v m (omega (arith, leb-true v (m - 1) e))) (λ e. le-leb v (m - 1) (omega (arith, ltb-true v m e)))

  -- 1,000,000 is written as 2,000,000 and -1,000,000 as 1,999,999
  pub limits : between 0 2000000 v ≡ in_limit (decoded v)
  limits = up_to 2000000 ∙ cases (eqb (v % 2) 1) refl
    where
      cases : (b : Bool) → eqb (v % 2) 1 ≡ b → leb v 2000000 ≡ in_limit (signed b (v / 2))
      cases true e =
          let q = eqb-true (v % 2) 1 e in
          agree (leb v 2000000) (ltb (v / 2) 1000000) (λ h. lt-ltb (v / 2) 1000000 (omega (arith, leb-true v 2000000 h))) (λ h. le-leb v 2000000 (omega (arith, ltb-true (v / 2) 1000000 h)))
      cases false e =
          let q = eqb-false (v % 2) 1 e in
          agree (leb v 2000000) (leb (v / 2) 1000000) (λ h. le-leb (v / 2) 1000000 (omega (arith, leb-true v 2000000 h))) (λ h. le-leb v 2000000 (omega (arith, leb-true (v / 2) 1000000 h)))
