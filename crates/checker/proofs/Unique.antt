-- Two outcomes of a C call of the checker are equal: the number returned, and every place of the list lent for values.
use mathlib.Core.Path.{◌≡◌}
use mathlib.Core.List.{List}
use Prim.Native.Nat.{ℕ}
use lib.IntN.{ℤ}
use Rattle.calls.specs.Checker.{HeldTimes, HeldArcs}
use Rattle.calls.proofs.Checker.Unique.{times_same, arcs_same}
use Rattle.values.specs.Handed.{Handed}
use Rattle.values.proofs.Handing.{handed_same}

module _ (file : List ℕ) (p q : ℕ) (values₀ values values' : List ℕ) (number number' : ℕ) where
  -- THEOREM: of tamulehk_check_times
  pub times_handed_same : (times : List ℤ) → Handed (HeldTimes file p q times) values₀ number values → Handed (HeldTimes file p q times) values₀ number' values' → (number ≡ number') × (values ≡ values')
  times_handed_same times x y = handed_same (times_same file p q times) x y

  -- THEOREM: of tamulehk_check_arcs
  pub arcs_handed_same : (arcs : List ℕ) → Handed (HeldArcs file p q arcs) values₀ number values → Handed (HeldArcs file p q arcs) values₀ number' values' → (number ≡ number') × (values ≡ values')
  arcs_handed_same arcs x y = handed_same (arcs_same file p q arcs) x y
