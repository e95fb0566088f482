-- A window stands in a mode's part of the tables at the place of its kind, to and from, (kind·n + to - 1)·n + from - 1: rising places are rising kinds, then
-- tos, then froms, and each place is one window's.
use mathlib.Core.List.{List}
use mathlib.Core.Path.{◌≡◌, ap, ap₂, ◌∙◌}
use Prim.Native.Nat.{ℕ, suc, ◌+◌, ◌-◌, ◌*◌, ◌/◌, ◌%◌, ◌≤◌, ◌<◌}
use native.Mathlib.Omega.{arith}
use native.Mathlib.Nat.{mul-pos, mul-le-mul, mul-le-mul_right, mul-add-div_right, mul-add-mod_self_right, div-eq_of_lt, mod-eq_of_lt, div-lt_iff_lt-mul}
use lib.IntN.{ℤ, pos}
use lib.ListN.{length, get_or, take, drop, length-drop}
use lib.Seq.{get_or-drop, take_all}
use Rattle.tables.specs.Sheets.{Sheet, no_window, place, places}
use Rattle.windows.specs.Windows.{Kind, A0, number, Window, entry}
use Rattle.windows.proofs.Limits.{number_small, place_below, get_or_any}
use Rattle.edges.specs.declared.Record.{Record}

-- a window as a record
abbrev pub as_record : Window → Record
as_record a = record { kind = number a.kind; to = a.to; from = a.from; w = a.w }

-- the window of a blank record
abbrev pub nothing : Window
nothing = record { kind = A0; to = 0; from = 0; w = pos 0 }

-- the kind of a place
pub kind_few : (n k : ℕ) → 0 < n → k < 4 * (n * n) → k / (n * n) < 4
kind_few n k h l = (div-lt_iff_lt-mul (mul-pos h h)).1 l

-- ---- the place of kind, to, from in a mode's part
module _ (n k i j : ℕ) (to : i < n) (from : j < n) where
  inside : i * n + j < n * n
  inside = omega (arith, mul-le-mul_right {m = suc i} {n = n} n to)

  again : k * (n * n) + (i * n + j) ≡ (k * n + i) * n + j
  again = omega arith

  pub kind_at : (k * (n * n) + (i * n + j)) / (n * n) ≡ k
  kind_at = mul-add-div_right {m = n * n} (mul-pos (omega arith) (omega arith)) k (i * n + j) ∙ omega (arith, div-eq_of_lt inside)

  pub to_at : (k * (n * n) + (i * n + j)) / n % n ≡ i
  to_at =
      ap (λ (x : ℕ). x / n % n) again
      ∙ ap (λ (x : ℕ). x % n) (mul-add-div_right {m = n} (omega arith) (k * n + i) j ∙ omega (arith, div-eq_of_lt from))
      ∙ mul-add-mod_self_right k n i
      ∙ mod-eq_of_lt to

  pub from_at : (k * (n * n) + (i * n + j)) % n ≡ j
  from_at = ap (λ (x : ℕ). x % n) again ∙ mul-add-mod_self_right (k * n + i) n j ∙ mod-eq_of_lt from

place_at : (n t k i j : ℕ) → t * (4 * (n * n)) + (k * (n * n) + (i * n + j)) ≡ place n t k (suc i) (suc j)
place_at n t k i j = plain ∙ ap₂ (λ (x y : ℕ). ((4 * t + k) * n + x) * n + y) (less i) (less j)
  where
    plain : t * (4 * (n * n)) + (k * (n * n) + (i * n + j)) ≡ ((4 * t + k) * n + i) * n + j
    plain = omega arith

    less : (x : ℕ) → x ≡ suc x - 1
    less x = omega arith

module _ (s : Sheet) (t : ℕ) (mode : t < s.m) (long : places s.n s.m ≤ length s.tables) where
  -- what stands there
  pub value_at : (k : Kind) (i j : ℕ) → i < s.n → j < s.n → get_or (drop (t * (4 * (s.n * s.n))) s.tables) (number k * (s.n * s.n) + (i * s.n + j)) (pos 0) ≡ entry s t k (suc i) (suc j)
  value_at k i j to from =
      let below = place_below s.n s.m t (number k) (suc i) (suc j) mode (number_small k) (omega arith) to (omega arith) from in
      let same = place_at s.n t (number k) i j in
      get_or-drop (t * (4 * (s.n * s.n))) s.tables (number k * (s.n * s.n) + (i * s.n + j)) (pos 0)
      ∙ ap (λ (x : ℕ). get_or s.tables x (pos 0)) same
      ∙ get_or_any s.tables (place s.n t (number k) (suc i) (suc j)) (pos 0) no_window (omega arith)

-- ---- the parts of the modes

-- the sizes in a turn: a mode's part lies within the tables
pub record Sizes (t m n : ℕ) : Type 0 where
  pub part : t * (4 * (n * n)) + 4 * (n * n) ≤ m * (4 * (n * n))
  pub whole : m * (4 * (n * n)) ≤ 4608

pub sizes : (t m n : ℕ) → n ≤ 12 → m ≤ 8 → t < m → Sizes t m n
sizes t m n h g l = record { part = omega (arith, mul-le-mul_right (4 * (n * n)) l); whole = mul-le-mul g (mul-le-mul {n₁ = 4} {n₂ = 4} (omega arith) (mul-le-mul h h)) }

-- what is lent from a on is all of the rest
pub rest : (a : ℕ) (xs : List ℤ) → take (length xs - a) (drop a xs) ≡ drop a xs
rest a xs = take_all (length xs - a) (drop a xs) (omega (arith, length-drop a xs))
