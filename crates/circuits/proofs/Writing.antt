-- Four numbers an arc, written from the last arc to the first.
use mathlib.Core.Path.{◌≡◌, refl, sym, ap, ◌∙◌}
use mathlib.Core.List.{List, [], ◌∷◌, ◌++◌}
use Prim.Native.Nat.{ℕ, zero, suc, ◌+◌, ◌-◌, ◌*◌, ◌/◌, ◌%◌, ◌≤◌, ◌<◌}
use native.Mathlib.Omega.{arith}
use native.Mathlib.Nat.{div-le_self, mod-le}
use lib.ListN.{length, get_or, set}
use lib.Seq.{sets, set_comm}
use Rattle.theory.specs.Backs.{back}
use Rattle.circuits.specs.declared.Places.{Places}
use Rattle.circuits.specs.Ways.{before, places_of, quad, written}

set_sets : (ys l : List ℕ) (i k x : ℕ) → i < k → set (sets l k ys) i x ≡ sets (set l i x) k ys
set_sets [] l i k x h = refl
set_sets (y ∷ ys) l i k x h = set_sets ys (set l k y) i (suc k) x (omega arith) ∙ ap (λ (l : List ℕ). sets l (suc k) ys) (set_comm l k i y x (λ (e : k ≡ i). omega arith))

-- what is written before what is written is one run
sets_before : (xs ys l : List ℕ) (i k : ℕ) → i + length xs ≡ k → sets (sets l k ys) i xs ≡ sets l i (xs ++ ys)
sets_before [] ys l i k e = let h : k ≡ i = omega arith in rw h
sets_before (x ∷ xs) ys l i k e =
    ap (λ (l : List ℕ). sets l (suc i) xs) (set_sets ys l i k x (omega arith)) ∙ sets_before xs ys (set l i x) (suc i) k (omega arith)

pub four : (l : List ℕ) (i a b c d : ℕ) → set (set (set (set l i a) (i + 1) b) (i + 2) c) (i + 3) d ≡ sets l i (a ∷ b ∷ c ∷ d ∷ [])
four l i a b c d =
    let x : i + 1 ≡ suc i = omega arith in
    let y : i + 2 ≡ suc (suc i) = omega arith in
    let z : i + 3 ≡ suc (suc (suc i)) = omega arith in
    rw (x, y, z)

-- ---- the arcs of the way back

module _ (row : List ℕ) (n s : ℕ) where
  pub written_length : (j : ℕ) → length (written row n s j) ≡ 4 * j
  unfolding written
  written_length zero = refl
  written_length (suc j) = omega (arith, written_length j)

module _ (row : List ℕ) (n s count : ℕ) (old : List ℕ) where
  -- all arcs but k are written, and x is the node before them
  pub record Written (k x : ℕ) (new : List ℕ) : Type 0 where
    pub few : k ≤ count
    pub there : back (before row) s (count - k) ≡ x
    pub is : new ≡ sets old (4 * k) (written row n s (count - k))

  pub written_none : Written count s old
  unfolding back written
  written_none = let none : count - count ≡ 0 = omega arith in record { few = omega arith; there = rw none refl; is = rw none refl }

  -- one arc more
  pub written_more : (k x : ℕ) (out new : List ℕ) → Written k x out → 0 < k → new ≡ sets out (4 * (k - 1)) (quad n x (get_or row x 0)) → (w : ℕ) → w ≡ before row x → Written (k - 1) w new
  unfolding back written
  written_more k x out new t h e w goes =
      let j : ℕ = count - k in
      let more : count - (k - 1) ≡ suc j = omega (arith, t.few) in
      record {
        few = omega (arith, t.few);
        there = ap (back (before row) s) more ∙ ap (before row) t.there ∙ sym goes;
        is = e
            ∙ ap (λ (l : List ℕ). sets l (4 * (k - 1)) (quad n x (get_or row x 0))) t.is
            ∙ sets_before (quad n x (get_or row x 0)) (written row n s j) old (4 * (k - 1)) (4 * k) (omega arith)
            ∙ ap (λ (y : ℕ). sets old (4 * (k - 1)) (quad n y (get_or row y 0) ++ written row n s j)) (sym t.there)
            ∙ ap (λ (m : ℕ). sets old (4 * (k - 1)) (written row n s m)) (sym more);
      }

  pub written_all : (k x : ℕ) (new : List ℕ) → Written k x new → k ≤ 0 → new ≡ sets old 0 (written row n s count)
  written_all k x new t h =
      let none : k ≡ 0 = omega arith in
      let all : count - k ≡ count = omega (arith, none) in
      t.is ∙ ap (λ (i : ℕ). sets old (4 * i) (written row n s (count - k))) none ∙ ap (λ (m : ℕ). sets old 0 (written row n s m)) all

-- ---- what is written of an arc goes into bytes

-- an arc between two nodes has its position and both its events at one of them
few_places : (k u v n : ℕ) → u < 192 → v < 192 → let e = places_of k u v in (e.here / n < 192) × (e.to % n < 192) × (e.from % n < 192)
unfolding places_of
few_places zero u v n a b = (omega (arith, div-le_self v n), omega (arith, mod-le v n), omega (arith, mod-le u n))
few_places (suc zero) u v n a b = (omega (arith, div-le_self v n), omega (arith, mod-le u n), omega (arith, mod-le v n))
few_places (suc (suc zero)) u v n a b = (omega (arith, div-le_self u n), omega (arith, mod-le v n), omega (arith, mod-le u n))
few_places (suc (suc (suc zero))) u v n a b = (omega (arith, div-le_self v n), omega (arith, mod-le u n), omega (arith, mod-le v n))
few_places (suc (suc (suc (suc k)))) u v n a b = (omega (arith, div-le_self 0 n), omega (arith, mod-le 0 n), omega (arith, mod-le 0 n))

-- so do the numbers that are worked out of them
pub few_numbers : (e : Places) (k u v n : ℕ) → e ≡ places_of k u v → u < 192 → v < 192 → (e.here / n < 192) × (e.to % n < 192) × (e.from % n < 192)
few_numbers e k u v n is a b = rw is (few_places k u v n a b)
