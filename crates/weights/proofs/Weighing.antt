-- What one arc adds to a circuit's sums, by the number of its kind, and the sums of one arc more.
use mathlib.Core.Path.{◌≡◌, refl, sym, ap, ◌∙◌}
use mathlib.Core.List.{List}
use Prim.Native.Nat.{ℕ, zero, suc, ◌+◌, ◌≤◌}
use native.Mathlib.Omega.{arith}
use native.Mathlib.Numerals.{add-one}
use Rattle.tables.specs.Sheets.{Sheet}
use Rattle.weights.specs.Weights.{weight, kind_weight, weight_at, plus, weights_in, Light}
use Rattle.limits.specs.declared.Weight.{Weight}

-- a kind's number, and what an arc of that kind adds
module _ (kind u d c : ℕ) where
  pub kind_0 : kind ≡ 0 → weight u d 0 0 ≡ kind_weight kind u d c
  unfolding kind_weight
  kind_0 e = ap (λ (k : ℕ). kind_weight k u d c) (sym e)

  pub kind_1 : kind ≡ 1 → weight d u 0 0 ≡ kind_weight kind u d c
  unfolding kind_weight
  kind_1 e = ap (λ (k : ℕ). kind_weight k u d c) (sym e)

  pub kind_2 : kind ≡ 2 → weight u d 0 c ≡ kind_weight kind u d c
  unfolding kind_weight
  kind_2 e = ap (λ (k : ℕ). kind_weight k u d c) (sym e)

  pub kind_3 : kind ≡ 3 → weight d u c 0 ≡ kind_weight kind u d c
  unfolding kind_weight
  kind_3 e = ap (λ (k : ℕ). kind_weight k u d c) (sym e)

-- a number that is no kind's adds nothing
pub kind_past : (kind u d c : ℕ) → 4 ≤ kind → weight 0 0 0 0 ≡ kind_weight kind u d c
unfolding kind_weight
kind_past zero u d c h = absurd (omega arith)
kind_past (suc zero) u d c h = absurd (omega arith)
kind_past (suc (suc zero)) u d c h = absurd (omega arith)
kind_past (suc (suc (suc zero))) u d c h = absurd (omega arith)
kind_past (suc (suc (suc (suc k)))) u d c h = refl

pub kind_same : (kind u d c u' d' c' : ℕ) (r : Weight) → r ≡ kind_weight kind u d c → u ≡ u' → d ≡ d' → c ≡ c' → r ≡ kind_weight kind u' d' c'
kind_same kind u d c u' d' c' r e a b f = e ∙ rw (a, b, f)

-- whatever its kind, an arc's weight is small where its limit's parts and its crossing are
pub light_kind : (kind u d c : ℕ) (r : Weight) → r ≡ kind_weight kind u d c → u ≤ 2147483648 → d ≤ 2147483648 → c ≤ 1 → Light 1 r
unfolding kind_weight
light_kind zero u d c r e a b f = rw e (omega arith, omega arith, omega arith, omega arith)
light_kind (suc zero) u d c r e a b f = rw e (omega arith, omega arith, omega arith, omega arith)
light_kind (suc (suc zero)) u d c r e a b f = rw e (omega arith, omega arith, omega arith, omega arith)
light_kind (suc (suc (suc zero))) u d c r e a b f = rw e (omega arith, omega arith, omega arith, omega arith)
light_kind (suc (suc (suc (suc k)))) u d c r e a b f = rw e (omega arith, omega arith, omega arith, omega arith)

-- a turn of the loop, in the code's own form
pub weights_step : (s : Sheet) (circuit : List ℕ) (k : ℕ) (a b r : Weight) → a ≡ weights_in s circuit k → b ≡ weight_at s circuit k → r ≡ plus a b → r ≡ weights_in s circuit (k + 1)
unfolding weights_in
weights_step s circuit k a b r ea eb er = er ∙ rw (ea, eb, add-one k)

pub light_more : (k : ℕ) (a b r : Weight) → Light k a → Light 1 b → r ≡ plus a b → Light (k + 1) r
light_more k a b r la lb e =
    (omega (arith, ap (λ (w : Weight). w.ups) e), omega (arith, ap (λ (w : Weight). w.downs) e), omega (arith, ap (λ (w : Weight). w.forths) e), omega (arith, ap (λ (w : Weight). w.backs) e))
