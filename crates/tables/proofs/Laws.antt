-- What a sheet that is not refused gives its caller, and the steps of the loops that judge it.
use mathlib.Core.Path.{◌≡◌, refl, sym, ap, ◌∙◌}
use mathlib.Core.Bool.{Bool, true, false, ◌&&◌, or-true, or-false}
use mathlib.Core.List.{List, [], ◌∷◌}
use Prim.Native.Nat.{ℕ, zero, suc, ◌+◌, ◌-◌, ◌*◌, ◌≤◌, ◌<◌}
use native.Mathlib.Omega.{arith}
use native.Mathlib.Numerals.{add-one}
use native.Mathlib.Nat.{mul-le-mul}
use borrow.Author.Tests.{ltb-true, leb-true, eqb-true, ltb-false, eqb-false, lt-ltb, le-ltb, le-leb, ne_eqb, eq-eqb}
use lib.Dec.{leb, ltb, eqb}
use lib.ListN.{get_or, length, take, drop}
use lib.Seq.{drop-cons}
use Rattle.std.specs.List.{list_all}
use lib.IntN.{ℤ, pos, negsuc}
use lib.Signed.{mag, lt_z, le_z}
use mir.Syntax.{w32}
use mir.Val.{of_z}
use Rattle.tables.proofs.Refusing.{unless_none}
use Rattle.tables.specs.Admitted.{Sizes, Admitted}
use Rattle.tables.specs.Sheets.{Sheet, no_window, places, in_limit, absent, admits, all, within, sized, scheduled, admitted, unless, refusal}

-- ---- conjunctions
pub both : (a b : Bool) → (a && b) ≡ true → (a ≡ true) × (b ≡ true)
both true b e = (refl, e)
both false b e = let z : ◌≡◌ {A = ℕ} 0 1 = cc in absurd (omega arith)

pub yes : (a b : Bool) → a ≡ true → b ≡ true → (a && b) ≡ true
yes true b e f = f
yes false b e f = e

-- a test does not come out both ways
pub clash : true ≡ false → ⊥
clash e = let z : ◌≡◌ {A = ℕ} 0 1 = cc in omega arith

-- ---- lists
-- std's word for a test of every element
pub all_is : {A : Type 0} (f : A → Bool) (l : List A) → list_all f l ≡ all f l
unfolding all
all_is f [] = refl
all_is f (a ∷ l) = ap (λ (b : Bool). f a && b) (all_is f l)

-- a test of all the first, one step further
pub all_step : {A : Type 0} (f : A → Bool) (l : List A) (n k : ℕ) (d : A) → k < n → k < length l
    → all f (take (n - k) (drop k l)) ≡ (f (get_or l k d) && all f (take (n - (k + 1)) (drop (k + 1) l)))
unfolding all
all_step f l n k d h g = rw (one n k h, drop-cons l k d g, add-one k)
  where
    one : (n k : ℕ) → k < n → n - k ≡ suc (n - (k + 1))
    one n k h = omega arith

-- the loop over the first n: k are passed, and the test of the rest is the test of the whole
module _ {A : Type 0} (f : A → Bool) (l : List A) (n k : ℕ) (d : A) (whole : Bool) (e : whole ≡ all f (take (n - k) (drop k l))) where
  pub all_stop : k < n → k < length l → f (get_or l k d) ≡ false → false ≡ whole
  all_stop h g q = sym (e ∙ all_step f l n k d h g ∙ rw q)

  pub all_next : k < n → k < length l → f (get_or l k d) ≡ true → whole ≡ all f (take (n - (k + 1)) (drop (k + 1) l))
  all_next h g q = e ∙ all_step f l n k d h g ∙ rw q

  pub all_end : n ≤ k → true ≡ whole
  unfolding all
  all_end h = sym (e ∙ ap (λ (j : ℕ). all f (take j (drop k l))) (none n k h))
    where
      none : (n k : ℕ) → n ≤ k → n - k ≡ 0
      none n k h = omega arith

-- what holds of all the first holds of each
pub all_at : {A : Type 0} (f : A → Bool) (l : List A) (n k : ℕ) (d : A) → all f (take n l) ≡ true → k < n → k < length l → f (get_or l k d) ≡ true
unfolding all
all_at f [] n k d e h g = absurd (omega arith)
all_at f (a ∷ l) zero k d e h g = absurd (omega arith)
all_at f (a ∷ l) (suc n) zero d e h g = (both (f a) _ e).0
all_at f (a ∷ l) (suc n) (suc k) d e h g = all_at f l n k d (both (f a) _ e).1 (omega arith) (omega arith)

-- ---- values
-- the machine's test for "no window" is that of the integer
pub is_absent : (z : ℤ) → mag z < 2147483648 → eqb (of_z w32 z) 2147483648 ≡ absent z
is_absent (pos n) h = ne_eqb n 2147483648 (omega arith)
is_absent (negsuc n) h = go (eqb n 2147483647) refl
  where
    go : (b : Bool) → eqb n 2147483647 ≡ b → eqb (4294967296 - suc n) 2147483648 ≡ b
    go true e = eq-eqb (4294967296 - suc n) 2147483648 (omega (arith, eqb-true n 2147483647 e))
    go false e = ne_eqb (4294967296 - suc n) 2147483648 (let q = eqb-false n 2147483647 e in omega arith)

-- "no window" is one value
pub absent_is : (z : ℤ) → absent z ≡ true → z ≡ no_window
absent_is (pos n) e = absurd (clash (sym e))
absent_is (negsuc n) e = ap negsuc (eqb-true n 2147483647 e)

module _ (z : ℤ) where
  pub admits_absent : absent z ≡ true → true ≡ admits z
  admits_absent e = rw e (sym (or-true (in_limit z)))

  admits_other : absent z ≡ false → admits z ≡ in_limit z
  admits_other e = rw e (or-false (in_limit z))

low : (z : ℤ) → lt_z z (negsuc 999999) ≡ true → in_limit z ≡ false
low (pos n) t = absurd (clash (sym t))
low (negsuc n) t = le-ltb n 1000000 (omega (arith, ltb-true 999999 n t))

high : (z : ℤ) → lt_z z (negsuc 999999) ≡ false → le_z z (pos 1000000) ≡ in_limit z
high (pos n) t = refl
high (negsuc n) t = sym (lt-ltb n 1000000 (omega (arith, ltb-false 999999 n t)))

pub admits_low : (z : ℤ) → absent z ≡ false → lt_z z (negsuc 999999) ≡ true → false ≡ admits z
admits_low z e t = sym (admits_other z e ∙ low z t)

pub admits_high : (z : ℤ) → absent z ≡ false → lt_z z (negsuc 999999) ≡ false → le_z z (pos 1000000) ≡ admits z
admits_high z e t = high z t ∙ sym (admits_other z e)

-- ---- sizes
pub within_is : (most k : ℕ) → within most k ≡ true → (1 ≤ k) × (k ≤ most)
within_is most k e = let b = both (leb 1 k) (leb k most) e in (leb-true 1 k b.0, leb-true k most b.1)

pub sizes : (s : Sheet) → sized s ≡ true → Sizes s
unfolding sized
sizes s e =
    let a = both _ (leb s.positions (length s.schedule)) e in
    let b = both _ (leb (places s.n s.m) (length s.tables)) a.0 in
    let c = both _ (within 16 s.positions) b.0 in
    let d = both (within 12 s.n) (within 8 s.m) c.0 in
    let n = within_is 12 s.n d.0 in
    let m = within_is 8 s.m d.1 in
    let v = within_is 16 s.positions c.1 in
    record {
      some_events = n.0;
      few_events = n.1;
      some_modes = m.0;
      few_modes = m.1;
      some_positions = v.0;
      few_positions = v.1;
      long_tables = leb-true _ _ b.1;
      long_schedule = leb-true _ _ a.1;
    }

pub within_yes : (most k : ℕ) → 1 ≤ k → k ≤ most → within most k ≡ true
within_yes most k h l = yes (leb 1 k) (leb k most) (le-leb 1 k h) (le-leb k most l)

pub sized_yes : (s : Sheet) → Sizes s → sized s ≡ true
unfolding sized
sized_yes s z =
    yes _ (leb s.positions (length s.schedule))
    (yes _ (leb (places s.n s.m) (length s.tables))
    (yes _ (within 16 s.positions)
    (yes (within 12 s.n) (within 8 s.m) (within_yes 12 s.n z.some_events z.few_events) (within_yes 8 s.m z.some_modes z.few_modes))
    (within_yes 16 s.positions z.some_positions z.few_positions))
    (le-leb (places s.n s.m) (length s.tables) z.long_tables))
    (le-leb s.positions (length s.schedule) z.long_schedule)

-- no more than 144 pairs of events
pub square : (n : ℕ) → n ≤ 12 → n * n ≤ 144
square n h = mul-le-mul h h

-- THEOREM: the tables of a sheet within its limits need at most 4,608 places
pub few_places : (n m : ℕ) → n ≤ 12 → m ≤ 8 → places n m ≤ 4608
few_places n m h g = mul-le-mul {n₁ = 4 * m} {n₂ = 32} (omega arith) (square n h)

-- ---- the whole verdict
pub passes : (a b c : Bool) → unless a 4 (unless b 5 (unless c 6 0)) ≡ 0 → (a ≡ true) × (b ≡ true) × (c ≡ true)
passes a b c e =
    let x = unless_none a 4 (unless b 5 (unless c 6 0)) (omega arith) e in
    let y = unless_none b 5 (unless c 6 0) (omega arith) x.1 in
    (x.0, y.0, (unless_none c 6 0 (omega arith) y.1).0)

-- THEOREM: a sheet that is not refused is admitted: sizes, modes and values
pub accepted : (s : Sheet) → refusal s ≡ 0 → Admitted s
unfolding refusal scheduled admitted
accepted s e =
    let p = passes (sized s) (scheduled s) (admitted s) e in
    let z = sizes s p.0 in
    record {
      size = z;
      modes = λ h l. ltb-true _ _ (all_at (λ t. ltb t s.m) s.schedule s.positions h 0 p.1 l (omega (arith, z.long_schedule)));
      values = λ k l. all_at admits s.tables (places s.n s.m) k (pos 0) p.2 l (omega (arith, z.long_tables));
    }

module _ (s : Sheet) where
  pub refused_4 : sized s ≡ false → 4 ≡ refusal s
  unfolding refusal
  refused_4 a = rw a

  pub refused_5 : sized s ≡ true → scheduled s ≡ false → 5 ≡ refusal s
  unfolding refusal
  refused_5 a b = rw (a, b)

  pub refused_6 : sized s ≡ true → scheduled s ≡ true → admitted s ≡ false → 6 ≡ refusal s
  unfolding refusal
  refused_6 a b c = rw (a, b, c)

  pub refused_not : sized s ≡ true → scheduled s ≡ true → admitted s ≡ true → 0 ≡ refusal s
  unfolding refusal
  refused_not a b c = rw (a, b, c)
