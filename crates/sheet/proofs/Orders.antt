-- "Records strictly rise by kind, then to, then from": that is by place.
use mathlib.Core.Path.{◌≡◌, ap}
use Prim.Native.Nat.{ℕ, ◌+◌, ◌-◌, ◌*◌, ◌<◌}
use native.Mathlib.Omega.{arith}
use native.Mathlib.Nat.{suc-mul, mul-le-mul_right}
use native.Mathlib.Decide.{dec_lt, ℕ_discrete}
use Rattle.sheet.specs.File.{in_mode}
use Rattle.sheet.proofs.Places.{Fit}

-- by one number, then by another
pub data First (a b c d : ℕ) : Type 0 where
  less : a < c → First a b c d
  same : a ≡ c → b < d → First a b c d

-- two digits to the base n
up : (n a b c d : ℕ) → b < n → First a b c d → a * n + b < c * n + d
up n a b c d h (less l) = omega (arith, mul-le-mul_right n l, suc-mul a n)
up n a b c d h (same e l) = omega (arith, ap (λ (k : ℕ). k * n) e)

down : (n a b c d : ℕ) → b < n → d < n → a * n + b < c * n + d → First a b c d
down n a b c d h g l = elim (dec_lt a c) [
  | yes p ↦ less p
  | no p ↦ elim (ℕ_discrete a c) [
    | yes e ↦ same e (omega (arith, ap (λ (k : ℕ). k * n) e))
    | no e ↦ absurd (omega (arith, up n c d a b g (less (omega (arith, e)))))
  ]
]

-- by kind, then to, then from
pub data Before (kind to from kind' to' from' : ℕ) : Type 0 where
  by_kind : kind < kind' → Before kind to from kind' to' from'
  by_to : kind ≡ kind' → to < to' → Before kind to from kind' to' from'
  by_from : kind ≡ kind' → to ≡ to' → from < from' → Before kind to from kind' to' from'

module _ (n kind to from kind' to' from' : ℕ) (f : Fit n kind to from) (g : Fit n kind' to' from') where
  row : kind * n + (to - 1) ≡ kind' * n + (to' - 1) → (kind ≡ kind') × (to ≡ to')
  row e = elim (dec_lt kind kind') [
    | yes p ↦ absurd (omega (arith, up n kind (to - 1) kind' (to' - 1) (omega (arith, f.some_to, f.few_to)) (less p)))
    | no p ↦ elim (dec_lt kind' kind) [
      | yes q ↦ absurd (omega (arith, up n kind' (to' - 1) kind (to - 1) (omega (arith, g.some_to, g.few_to)) (less q)))
      | no q ↦ let k : kind ≡ kind' = omega arith in (k, omega (arith, ap (λ (x : ℕ). x * n) k, f.some_to, g.some_to))
    ]
  ]

  -- THEOREM: a record before another stands at a lower place
  pub by_place : Before kind to from kind' to' from' → in_mode n kind to from < in_mode n kind' to' from'
  by_place (by_kind l) = up n _ _ _ _ (omega (arith, f.some_from, f.few_from)) (less (up n kind (to - 1) kind' (to' - 1) (omega (arith, f.some_to, f.few_to)) (less l)))
  by_place (by_to e l) = up n _ _ _ _ (omega (arith, f.some_from, f.few_from)) (less (up n kind (to - 1) kind' (to' - 1) (omega (arith, f.some_to, f.few_to)) (same e (omega (arith, f.some_to)))))
  by_place (by_from e q l) = up n _ _ _ _ (omega (arith, f.some_from, f.few_from)) (same (omega (arith, ap (λ (k : ℕ). k * n) e, q)) (omega (arith, f.some_from)))

  -- THEOREM: a record at a lower place comes before
  pub by_numbers : in_mode n kind to from < in_mode n kind' to' from' → Before kind to from kind' to' from'
  by_numbers l = outer (down n (kind * n + (to - 1)) (from - 1) (kind' * n + (to' - 1)) (from' - 1) (omega (arith, f.some_from, f.few_from)) (omega (arith, g.some_from, g.few_from)) l)
    where
      inner : First kind (to - 1) kind' (to' - 1) → Before kind to from kind' to' from'
      inner (less p) = by_kind p
      inner (same e p) = by_to e (omega (arith, f.some_to, g.some_to))

      outer : First (kind * n + (to - 1)) (from - 1) (kind' * n + (to' - 1)) (from' - 1) → Before kind to from kind' to' from'
      outer (less p) = inner (down n kind (to - 1) kind' (to' - 1) (omega (arith, f.some_to, f.few_to)) (omega (arith, g.some_to, g.few_to)) p)
      outer (same e p) = let q = row e in by_from q.0 q.1 (omega (arith, f.some_from, g.some_from))
