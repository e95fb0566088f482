-- Fractions in lowest terms, how often a fraction with a small bottom can rise, and that a range determines its ends.
use mathlib.Core.Path.{◌≡◌, refl, sym, ap, ◌∙◌}
use Prim.Native.Nat.{ℕ, zero, suc, ◌+◌, ◌-◌, ◌*◌, ◌/◌, ◌%◌, ◌≤◌, ◌<◌}
use native.Mathlib.Omega.{arith}
use native.Mathlib.Nat.{mul-le-mul_left, le_of_mul-le-mul_left, dvd-zero, dvd_refl, dvd-add, dvd-mul_right, dvd-mod_iff, dvd_of_mul-dvd-mul_left, mul-dvd-mul_left, eq-one_of_dvd-one, mul-div_cancel', mul-one, mod-lt, pos_of_dvd_of_pos, le-div_iff_mul-le, div-lt_iff_lt-mul, div-mul-le_self, mul-div_cancel, div-one}
use native.Mathlib.Decide.{dec_le, ℕ_discrete}
use Rattle.theory.specs.Ends.{AtMost, Under, Lowest, Greatest, High, open_end, up_to, Range}

-- ---- a fraction of the same worth as one in lowest terms is a multiple of it: Euclid, by subtraction

pub record Multiple (a b s t : ℕ) : Type 0 where
  pub times : ℕ
  pub top : t ≡ times * a
  pub bottom : s ≡ times * b

bottom_less : (a d s t r : ℕ) → s ≡ t + r → a * s ≡ t * (a + d) → a * r ≡ t * d
bottom_less a d s t r es e = let e' : a * (t + r) ≡ t * (a + d) = rw es at e in omega arith

top_less : (b d s t r : ℕ) → t ≡ s + r → (b + d) * s ≡ t * b → d * s ≡ r * b
top_less b d s t r et e = let e' : (b + d) * s ≡ (s + r) * b = rw et at e in omega arith

bottom_more : (a b d s t : ℕ) → b ≡ a + d → t ≤ s → Multiple a d (s - t) t → Multiple a b s t
bottom_more a b d s t eb le m = record { times = m.times; top = m.top; bottom = rw eb (omega (arith, m.top, m.bottom)) }

top_more : (a b d s t : ℕ) → a ≡ b + d → s ≤ t → Multiple d b s (t - s) → Multiple a b s t
top_more a b d s t ea le m = record { times = m.times; top = rw ea (omega (arith, m.top, m.bottom)); bottom = m.bottom }

multiple_by : (f a b s t : ℕ) → a + b < f → Lowest a b → a * s ≡ t * b → Multiple a b s t
multiple_by zero a b s t bound low e = absurd (omega arith)
multiple_by (suc f) zero b s t bound low e =
    let o : b ≡ 1 = low b (dvd-zero b) (dvd_refl b) in
    let e' : zero * s ≡ t * 1 = rw o at e in
    record { times = s; top = omega arith; bottom = rw o (omega arith) }
multiple_by (suc f) (suc a) zero s t bound low e =
    let o : suc a ≡ 1 = low (suc a) (dvd_refl (suc a)) (dvd-zero (suc a)) in
    record { times = t; top = rw o (omega arith); bottom = omega arith }
multiple_by (suc f) (suc a) (suc b) s t bound low e =
    elim (dec_le a b) [
      | yes h ↦
          let eb : suc b ≡ suc a + (b - a) = omega arith in
          let e' : suc a * s ≡ t * (suc a + (b - a)) = rw eb at e in
          let le : t ≤ s = le_of_mul-le-mul_left {k = suc a} (omega arith) (omega arith) in
          bottom_more (suc a) (suc b) (b - a) s t eb le
          (multiple_by f (suc a) (b - a) (s - t) t (omega arith) (λ k x y. low k x (rw eb (dvd-add k x y))) (bottom_less (suc a) (b - a) s t (s - t) (omega arith) e'))
      | no h ↦
          let ea : suc a ≡ suc b + (a - b) = omega arith in
          let e' : (suc b + (a - b)) * s ≡ t * suc b = rw ea at e in
          let le : s ≤ t = le_of_mul-le-mul_left {k = suc b} (omega arith) (omega arith) in
          top_more (suc a) (suc b) (a - b) s t ea le
          (multiple_by f (a - b) (suc b) s (t - s) (omega arith) (λ k x y. low k (rw ea (dvd-add k y x)) y) (top_less (suc b) (a - b) s t (t - s) (omega arith) e'))
    ]

pub multiple : (a b s t : ℕ) → Lowest a b → a * s ≡ t * b → Multiple a b s t
multiple a b s t low e = multiple_by (suc (a + b)) a b s t (omega arith) low e

-- two fractions in lowest terms of the same worth are the same
multiple_lowest : (a b c d : ℕ) → Lowest c d → Multiple a b d c → (a ≡ c) × (b ≡ d)
multiple_lowest a b c d low m =
    let o : m.times ≡ 1 = low m.times (rw m.top (dvd-mul_right m.times a)) (rw m.bottom (dvd-mul_right m.times b)) in
    let top : c ≡ 1 * a = m.top ∙ ap (λ (k : ℕ). k * a) o in
    let bottom : d ≡ 1 * b = m.bottom ∙ ap (λ (k : ℕ). k * b) o in
    (omega arith, omega arith)

-- THEOREM: equal fractions in lowest terms have the same top and bottom; so zero is 0/1
pub lowest_same : (a b c d : ℕ) → Lowest a b → Lowest c d → a * d ≡ c * b → (a ≡ c) × (b ≡ d)
lowest_same a b c d low low' e = multiple_lowest a b c d low' (multiple a b d c low e)

-- and none has a smaller top or bottom
pub lowest_least : (a b s t : ℕ) → Lowest a b → a * s ≡ t * b → 0 < s → (a ≤ t) × (b ≤ s)
lowest_least a b s t low e pos = go m.times m.top m.bottom
  where
    m : Multiple a b s t
    m = multiple a b s t low e

    go : (k : ℕ) → t ≡ k * a → s ≡ k * b → (a ≤ t) × (b ≤ s)
    go zero et es = absurd (omega arith)
    go (suc k) et es = (omega arith, omega arith)

-- ---- lowest terms by the greatest common divisor

pub greatest_zero : (a : ℕ) → Greatest a a 0
greatest_zero a = record { left = dvd_refl a; right = dvd-zero a; all = λ k x y. x }

pub greatest_step : (g a b : ℕ) → Greatest g b (a % b) → Greatest g a b
greatest_step g a b h = record { left = (dvd-mod_iff g h.left).0 h.right; right = h.left; all = λ k x y. h.all k y ((dvd-mod_iff k y).1 x) }

pub greatest_lowest : (g a b a' b' : ℕ) → 0 < g → Greatest g a b → a ≡ g * a' → b ≡ g * b' → Lowest a' b'
greatest_lowest g a b a' b' pos h ea eb k x y =
    eq-one_of_dvd-one (dvd_of_mul-dvd-mul_left {k = g} k pos (rw mul-one (h.all (g * k) (rw ea (mul-dvd-mul_left k g x)) (rw eb (mul-dvd-mul_left k g y)))))

-- so every fraction has lowest terms
pub record Reduced (t s : ℕ) : Type 0 where
  pub top : ℕ
  pub bottom : ℕ
  pub lowest : Lowest top bottom
  pub worth : top * s ≡ t * bottom
  pub positive : 0 < bottom

cross : (g x y t s : ℕ) → g * x ≡ t → g * y ≡ s → x * s ≡ t * y
cross g x y t s et es = rw (← et, ← es) (omega arith)

part_positive : (g y s : ℕ) → g * y ≡ s → 0 < s → 0 < y
part_positive g zero s e pos = omega arith
part_positive g (suc y) s e pos = omega arith

-- what a program gets that divides both by the greatest common divisor
pub greatest_parts : (g t s : ℕ) → 0 < s → Greatest g t s → Lowest (t / g) (s / g) × ((t / g) * s ≡ t * (s / g)) × (0 < s / g)
greatest_parts g t s pos h =
    let et : g * (t / g) ≡ t = mul-div_cancel' g h.left in
    let es : g * (s / g) ≡ s = mul-div_cancel' g h.right in
    (greatest_lowest g t s (t / g) (s / g) (pos_of_dvd_of_pos h.right pos) h (sym et) (sym es), cross g (t / g) (s / g) t s et es, part_positive g (s / g) s es pos)

greatest_reduced : (g t s : ℕ) → 0 < s → Greatest g t s → Reduced t s
greatest_reduced g t s pos h =
    let p = greatest_parts g t s pos h in
    record { top = t / g; bottom = s / g; lowest = p.0; worth = p.1; positive = p.2 }

euclid : (f a b : ℕ) → b < f → (g : ℕ) × Greatest g a b
euclid zero a b h = absurd (omega arith)
euclid (suc f) a zero h = (a, greatest_zero a)
euclid (suc f) a (suc b) h =
    let r = euclid f (suc b) (a % suc b) (omega (arith, mod-lt a {m = suc b} (omega arith))) in
    (r.0, greatest_step r.0 a (suc b) r.1)

pub reduce : (t s : ℕ) → 0 < s → Reduced t s
reduce t s pos = let g = euclid (suc s) t s (omega arith) in greatest_reduced g.0 t s pos g.1

-- ---- how often a fraction with a bottom up to K can rise

-- the tops of the fractions with bottoms 1 to K that are at most p/q, added up
unfoldable pub floors : ℕ → ℕ → ℕ → ℕ
floors p q zero = 0
floors p q (suc k) = (p * suc k) / q + floors p q k

floor_mono : (p q p' q' j : ℕ) → 0 < q → 0 < q' → AtMost p q p' q' → (p * j) / q ≤ (p' * j) / q'
floor_mono p q p' q' j pos pos' h =
    (le-div_iff_mul-le pos').1 (le_of_mul-le-mul_left {k = q} (omega (arith, mul-le-mul_left q' (div-mul-le_self (p * j) q), mul-le-mul_left j h)) pos)

floors_mono : (p q p' q' k : ℕ) → 0 < q → 0 < q' → AtMost p q p' q' → floors p q k ≤ floors p' q' k
unfolding floors
floors_mono p q p' q' zero pos pos' h = omega arith
floors_mono p q p' q' (suc k) pos pos' h = omega (arith, floor_mono p q p' q' (suc k) pos pos' h, floors_mono p q p' q' k pos pos' h)

pub floors_rise : (p q p' q' k : ℕ) → 0 < q → 0 < q' → q' ≤ k → Under p q p' q' → floors p q k < floors p' q' k
unfolding floors
floors_rise p q p' q' zero pos pos' small h = absurd (omega arith)
floors_rise p q p' q' (suc k) pos pos' small h =
    elim (ℕ_discrete q' (suc k)) [
      | yes e ↦
          let new : (p' * suc k) / q' ≡ p' = rw (← e) (mul-div_cancel p' pos') in
          let old : (p * suc k) / q < p' = (div-lt_iff_lt-mul pos).1 (rw (← e) h) in
          omega (arith, floors_mono p q p' q' k pos pos' (omega arith))
      | no e ↦ omega (arith, floor_mono p q p' q' (suc k) pos pos' (omega arith), floors_rise p q p' q' k pos pos' (omega arith) h)
    ]

pub floors_bound : (p q M k : ℕ) → 0 < q → p ≤ M * q → floors p q k ≤ M * (k * k)
unfolding floors
floors_bound p q M zero pos h = omega arith
floors_bound p q M (suc k) pos h =
    omega (arith, floors_bound p q M k pos h, floor_mono p q M 1 (suc k) pos (omega arith) (omega arith), div-one (M * suc k))

-- the measure of the climb up to M; the measure of the descent is `floors` itself
abbrev pub left_to_climb : ℕ → ℕ → ℕ → ℕ → ℕ
left_to_climb M K p q = M * (K * K) - floors p q K

pub climb_falls : (M K p q p' q' : ℕ) → 0 < q → 0 < q' → q' ≤ K → p' ≤ M * q' → Under p q p' q' → left_to_climb M K p' q' < left_to_climb M K p q
climb_falls M K p q p' q' pos pos' small below h = omega (arith, floors_rise p q p' q' K pos pos' small h, floors_bound p' q' M K pos' below)

-- ---- a range determines its ends

module _ (Ok : ℕ → ℕ → Type 0) where
  pub low_works : (a b : ℕ) (high : High) → Range Ok a b high → Ok a b
  low_works a b high r = r.works a b r.bottom (omega arith) r.some

  pub low_same : (a b a' b' : ℕ) (high high' : High) → Range Ok a b high → Range Ok a' b' high' → (a ≡ a') × (b ≡ b')
  low_same a b a' b' high high' r r' =
      lowest_same a b a' b' r.lowest r'.lowest
      (omega (arith, (r'.only a b r.bottom (low_works a b high r)).0, (r.only a' b' r'.bottom (low_works a' b' high' r')).0))

  -- an open range holds a fraction above any other
  not_open : (a b a' b' c d : ℕ) → Range Ok a b open_end → Range Ok a' b' (up_to c d) → ⊥
  not_open a b a' b' c d r r' =
      omega (
        arith,
        (r'.only (a + c + 1) 1 (omega arith) (r.works (a + c + 1) 1 (omega arith) (omega (arith, mul-le-mul_left (a + c + 1) r.bottom)) tt)).1,
        mul-le-mul_left (a + c + 1) r'.upper.0,
      )

  high_works : (a b c d : ℕ) → Range Ok a b (up_to c d) → Ok c d
  high_works a b c d r = r.works c d r.upper.0 r.some (omega arith)

  pub high_same : (a b a' b' : ℕ) (high high' : High) → Range Ok a b high → Range Ok a' b' high' → high ≡ high'
  high_same a b a' b' open_end open_end r r' = refl
  high_same a b a' b' open_end (up_to c d) r r' = absurd (not_open a b a' b' c d r r')
  high_same a b a' b' (up_to c d) open_end r r' = absurd (not_open a' b' a b c d r' r)
  high_same a b a' b' (up_to c d) (up_to c' d') r r' =
      let e = lowest_same c d c' d' r.upper.1 r'.upper.1
      (omega (arith, (r'.only c d r.upper.0 (high_works a b c d r)).1, (r.only c' d' r'.upper.0 (high_works a' b' c' d' r')).1)) in
      cc (e.0, e.1)

  -- THEOREM: the ends in lowest terms are determined
  pub range_same : (a b a' b' : ℕ) (high high' : High) → Range Ok a b high → Range Ok a' b' high' → (a ≡ a') × (b ≡ b') × (high ≡ high')
  range_same a b a' b' high high' r r' = let e = low_same a b a' b' high high' r r' in (e.0, e.1, high_same a b a' b' high high' r r')
