-- The lists of windows and arcs hold what the tables hold, and nothing else.
use mathlib.Core.Path.{◌≡◌, refl, sym, ap, ap₂, ◌∙◌}
use mathlib.Core.Logic.{◌≢◌, inl, inr}
use mathlib.Core.Bool.{Bool, true, false}
use mathlib.Core.List.Memᴰ
use mathlib.Core.List.{List, [], ◌∷◌, ◌++◌, append_assoc, Memᴰ, append-nil}
use Prim.Native.Nat.{ℕ, zero, suc, ◌≤◌}
use native.Mathlib.Omega.{arith}
use native.Mathlib.Decide.{dec_le}
use lib.IntN.{ℤ}
use Rattle.theory.specs.Arcs.{Arc}
use Rattle.tables.proofs.Laws.{clash}
use Rattle.tables.specs.Sheets.{Sheet, no_window, absent}
use Rattle.tables.proofs.Laws.{absent_is}
use Rattle.windows.specs.Windows.{Kind, A0, B0, A1, B1, Window, Event, entry, Has, mode}
use Rattle.windows.specs.Arcs.{arc_of, one_to, each, kinds, unless_absent, window, window_at, windows_to, windows_of, windows, arcs_at, arcs}

-- ---- joined lists

pub each_in : {A B : Type 0} {b : B} {a : A} {l : List A} (f : A → List B) → Memᴰ a l → Memᴰ b (f a) → Memᴰ b (each l f)
each_in {b} f (Memᴰ.head {x = c} {xs = rest} e) m = Memᴰ.append_left {s = f c} (each rest f) (rw (← e) m)
each_in f (Memᴰ.tail {x = c} k) m = Memᴰ.append_right (f c) (each_in f k m)

pub each_of : {A B : Type 0} {b : B} (l : List A) (f : A → List B) → Memᴰ b (each l f) → (a : A) × Memᴰ a l × Memᴰ b (f a)
each_of [] f m = absurd (Memᴰ.not-nil m)
each_of (a ∷ rest) f m =
    elim (Memᴰ.append_cases (f a) m) [
      | inl k ↦ (a, Memᴰ.head refl, k)
      | inr k ↦ let r = each_of rest f k in (r.0, Memᴰ.tail r.1, r.2)
    ]

pub one_to_in : (n i : ℕ) → 1 ≤ i → i ≤ n → Memᴰ i (one_to n)
one_to_in zero i h k = absurd (omega arith)
one_to_in (suc n) i h k =
    elim (dec_le i n) [
      | yes p ↦ Memᴰ.append_left (suc n ∷ []) (one_to_in n i h p)
      | no p ↦ Memᴰ.append_right (one_to n) (Memᴰ.head (omega arith))
    ]

pub one_to_of : (n : ℕ) {i : ℕ} → Memᴰ i (one_to n) → (1 ≤ i) × (i ≤ n)
one_to_of zero m = absurd (Memᴰ.not-nil m)
one_to_of (suc n) m =
    elim (Memᴰ.append_cases (one_to n) m) [
      | inl k ↦ let r = one_to_of n k in (r.0, omega arith)
      | inr k ↦ let e = Memᴰ.eq_of_singleton k in (omega arith, omega arith)
    ]

-- lists joined of equal parts
pub each_same : {A B : Type 0} (l : List A) (f g : A → List B) → ((a : A) → Memᴰ a l → f a ≡ g a) → each l f ≡ each l g
each_same [] f g e = refl
each_same (a ∷ l) f g e = ap₂ (λ x y. x ++ y) (e a (Memᴰ.head refl)) (each_same l f g (λ b m. e b (Memᴰ.tail m)))

-- and of 1 to n
pub each_one_to : {B : Type 0} (n : ℕ) (f g : ℕ → List B) → ((i : ℕ) → 1 ≤ i → i ≤ n → f i ≡ g i) → each (one_to n) f ≡ each (one_to n) g
each_one_to n f g e = each_same (one_to n) f g (λ i m. let h = one_to_of n m in e i h.0 h.1)

-- one more position or event
each_append : {A B : Type 0} (l m : List A) (f : A → List B) → each (l ++ m) f ≡ each l f ++ each m f
each_append [] m f = refl
each_append (a ∷ l) m f = ap (λ (r : List _). f a ++ r) (each_append l m f) ∙ sym (append_assoc (f a) (each l f) (each m f))

pub each_more : {B : Type 0} (n : ℕ) (f : ℕ → List B) → each (one_to (suc n)) f ≡ each (one_to n) f ++ f (suc n)
each_more n f = each_append (one_to n) (suc n ∷ []) f ∙ ap (λ (r : List _). each (one_to n) f ++ r) (append-nil (f (suc n)))

-- ---- windows

kinds_in : (k : Kind) → Memᴰ k kinds
kinds_in A0 = Memᴰ.head refl
kinds_in B0 = Memᴰ.tail (Memᴰ.head refl)
kinds_in A1 = Memᴰ.tail (Memᴰ.tail (Memᴰ.head refl))
kinds_in B1 = Memᴰ.tail (Memᴰ.tail (Memᴰ.tail (Memᴰ.head refl)))

pub absent_some : (v : ℤ) → absent v ≡ false → v ≢ no_window
absent_some v e n = clash (ap absent (sym n) ∙ e)

pub some_absent : (v : ℤ) → v ≢ no_window → absent v ≡ false
some_absent v some = go (absent v) refl
  where
    go : (d : Bool) → absent v ≡ d → absent v ≡ false
    go true e = absurd (some (absent_is v e))
    go false e = e

unless_in : (d : Bool) (a : Window) → d ≡ false → Memᴰ a (unless_absent d a)
unless_in true a e = absurd (clash e)
unless_in false a e = Memᴰ.head refl

unless_of : (d : Bool) (a : Window) {b : Window} → Memᴰ b (unless_absent d a) → (b ≡ a) × (d ≡ false)
unless_of true a m = absurd (Memᴰ.not-nil m)
unless_of false a m = (Memᴰ.eq_of_singleton m, refl)

module _ (s : Sheet) (t : ℕ) where
  pub windows_in : (a : Window) → Has s t a → Memᴰ a (windows s t)
  unfolding windows
  windows_in a is =
      let same = ap {B = Window} (λ (w : ℤ). record { kind = a.kind; to = a.to; from = a.from; w = w }) (sym is.stands) in
      let some = some_absent (entry s t a.kind a.to a.from) (rw is.stands is.present) in
      let one = Memᴰ.cast same (unless_in (absent (entry s t a.kind a.to a.from)) (window s t a.kind a.to a.from) some) in
      each_in (windows_of s t) (kinds_in a.kind)
      (each_in (windows_to s t a.kind) (one_to_in s.n a.to is.to_event.0 is.to_event.1)
      (each_in (window_at s t a.kind a.to) (one_to_in s.n a.from is.from_event.0 is.from_event.1) one))

  window_of : (k : Kind) (i j : ℕ) → Event s i → Event s j → (a : Window) → Memᴰ a (window_at s t k i j) → Has s t a
  window_of k i j b c a m =
      let v = unless_of (absent (entry s t k i j)) (window s t k i j) m in
      rw v.0 (record { to_event = b; from_event = c; stands = refl; present = absent_some (entry s t k i j) v.1 })

  pub windows_of_lem : (a : Window) → Memᴰ a (windows s t) → Has s t a
  unfolding windows
  windows_of_lem a m =
      let r = each_of kinds (windows_of s t) m in
      let u = each_of (one_to s.n) (windows_to s t r.0) r.2 in
      let v = each_of (one_to s.n) (window_at s t r.0 u.0) u.2 in
      window_of r.0 u.0 v.0 (one_to_of s.n u.1) (one_to_of s.n v.1) a v.2

-- ---- arcs

module _ (s : Sheet) where
  -- THEOREM: each window at each position is one of the arcs
  pub arcs_in : (h : ℕ) → 1 ≤ h → h ≤ s.positions → (a : Window) → Has s (mode s h) a → Memᴰ (arc_of s h a) (arcs s)
  unfolding arcs
  arcs_in h first last a is = each_in (arcs_at s) (one_to_in s.positions h first last) (Memᴰ.map (arc_of s h) (windows_in s (mode s h) a is))

  -- an arc of the list is that of a window at a position
  pub record Origin (b : Arc) : Type 0 where
    pub position : ℕ
    pub from_first : 1 ≤ position
    pub to_last : position ≤ s.positions
    pub of : Window
    pub has : Has s (mode s position) of
    pub is : arc_of s position of ≡ b

  -- THEOREM: and each arc is that of a window at a position
  pub arcs_of_lem : (b : Arc) → Memᴰ b (arcs s) → Origin b
  unfolding arcs
  arcs_of_lem b m =
      let r = each_of (one_to s.positions) (arcs_at s) m in
      let v = Memᴰ.of_map (arc_of s r.0) (windows s (mode s r.0)) r.2 in
      record { position = r.0; from_first = (one_to_of s.positions r.1).0; to_last = (one_to_of s.positions r.1).1; of = v.0; has = windows_of_lem s (mode s r.0) v.0 v.1; is = v.2 }
