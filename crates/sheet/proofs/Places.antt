-- The place of kind, to, from within a mode's part, and back.
use mathlib.Core.Path.{◌≡◌, sym, ap, ap₂, ◌∙◌}
use Prim.Native.Nat.{ℕ, ◌+◌, ◌-◌, ◌*◌, ◌/◌, ◌%◌, ◌≤◌, ◌<◌}
use native.Mathlib.Omega.{arith}
use native.Mathlib.Nat.{mul-le-mul, mul-le-mul_right, add-mul, mul_assoc, mul_comm, add_assoc, add-zero, mul-add-div_right, div-eq_of_lt, div-div-eq-div-mul, mul-add-mod_self_right, mod-eq_of_lt, div-add-mod', div-lt_iff_lt-mul, mul-pos, mod-lt}
use Rattle.tables.specs.Sheets.{place}
use Rattle.sheet.specs.File.{in_mode}

-- a window's numbers within their limits
pub record Fit (n kind to from : ℕ) : Type 0 where
  pub kinds : kind ≤ 3
  pub some_to : 1 ≤ to
  pub few_to : to ≤ n
  pub some_from : 1 ≤ from
  pub few_from : from ≤ n

-- the code's steps to a place
pub record Steps (n kind to from : ℕ) : Type 0 where
  pub kinds : kind * n ≤ 36
  pub rows : (kind * n + (to - 1)) * n ≤ 576
  pub events : n ≤ 12
  pub some_to : 1 ≤ to
  pub few_to : to ≤ n
  pub some_from : 1 ≤ from
  pub few_from : from ≤ n

module _ (n kind to from : ℕ) (f : Fit n kind to from) where
  row : kind * n + (to - 1) + 1 ≤ 4 * n
  row = omega (arith, mul-le-mul_right n f.kinds, f.some_to, f.few_to)

  -- the place lies in the part
  pub in_part : in_mode n kind to from < 4 * (n * n)
  in_part =
      omega (
        arith,
        mul-le-mul_right n row,
        add-mul (kind * n + (to - 1)) 1 n,
        mul_assoc 4 n n,
        f.some_from,
        f.few_from,
      )

  -- and the code's steps to it stay small
  pub steps_fit : n ≤ 12 → Steps n kind to from
  steps_fit h =
      record {
        kinds = mul-le-mul f.kinds h;
        rows = mul-le-mul {n₁ = kind * n + (to - 1)} {n₂ = 48} (omega (arith, row)) h;
        events = h;
        some_to = f.some_to;
        few_to = f.few_to;
        some_from = f.some_from;
        few_from = f.few_from;
      }

  -- the numbers of a place are the numbers that it was made of
  from_small : from - 1 < n
  from_small = omega (arith, f.some_from, f.few_from)

  to_small : to - 1 < n
  to_small = omega (arith, f.some_to, f.few_to)

  some : 0 < n
  some = omega (arith, f.some_to, f.few_to)

  row_of : in_mode n kind to from / n ≡ kind * n + (to - 1)
  row_of = mul-add-div_right some (kind * n + (to - 1)) (from - 1) ∙ ap (λ (k : ℕ). kind * n + (to - 1) + k) (div-eq_of_lt from_small) ∙ add-zero (kind * n + (to - 1))

  pub kind_of : in_mode n kind to from / (n * n) ≡ kind
  kind_of =
      sym (div-div-eq-div-mul (in_mode n kind to from) n n) ∙ ap (λ (k : ℕ). k / n) row_of
      ∙ mul-add-div_right some kind (to - 1) ∙ ap (λ (k : ℕ). kind + k) (div-eq_of_lt to_small) ∙ add-zero kind

  pub to_of : in_mode n kind to from / n % n + 1 ≡ to
  to_of = ap (λ (k : ℕ). k % n + 1) row_of ∙ ap (λ (k : ℕ). k + 1) (mul-add-mod_self_right kind n (to - 1) ∙ mod-eq_of_lt to_small) ∙ omega (arith, f.some_to)

  pub from_of : in_mode n kind to from % n + 1 ≡ from
  from_of = ap (λ (k : ℕ). k + 1) (mul-add-mod_self_right (kind * n + (to - 1)) n (from - 1) ∙ mod-eq_of_lt from_small) ∙ omega (arith, f.some_from)

-- and a place is made of its numbers
module _ (n p : ℕ) (h : 0 < n) where
  pub place_of : in_mode n (p / (n * n)) (p / n % n + 1) (p % n + 1) ≡ p
  place_of =
      ap₂ (λ (x y : ℕ). (p / (n * n) * n + x) * n + y) (less (p / n % n)) (less (p % n))
      ∙ ap (λ (x : ℕ). (x * n + p / n % n) * n + p % n) (sym (div-div-eq-div-mul p n n))
      ∙ ap (λ (x : ℕ). x * n + p % n) (div-add-mod' (p / n) n)
      ∙ div-add-mod' p n
    where
      less : (k : ℕ) → k + 1 - 1 ≡ k
      less k = omega arith

  -- its numbers are within their limits where it lies in the part
  pub fit_of : p < 4 * (n * n) → Fit n (p / (n * n)) (p / n % n + 1) (p % n + 1)
  fit_of l =
      let k : p / (n * n) < 4 = (div-lt_iff_lt-mul (mul-pos h h)).1 l in
      record {
        kinds = omega arith;
        some_to = omega arith;
        few_to = omega (arith, mod-lt (p / n) h);
        some_from = omega arith;
        few_from = omega (arith, mod-lt p h);
      }

-- THEOREM: "the window of mode t (from 0), kind, to, from stands at ((4t + kind)·n + to - 1)·n + from - 1": at its place in the part that starts at 4t·n²
pub in_tables : (n t kind to from : ℕ) → place n t kind to from ≡ t * (4 * (n * n)) + in_mode n kind to from
in_tables n t kind to from =
    omega (
      arith,
      add-mul (4 * t * n) (kind * n + (to - 1)) n,
      add-mul (4 * t) kind n,
      mul_assoc (4 * t) n n,
      mul_assoc t 4 (n * n),
      mul_comm t 4,
      ap (λ (k : ℕ). (k + (to - 1)) * n) (add-mul (4 * t) kind n),
      ap (λ (k : ℕ). k * n) (add_assoc (4 * t * n) (kind * n) (to - 1)),
      ap (λ (k : ℕ). k * (n * n)) (mul_comm t 4),
    )
