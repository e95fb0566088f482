-- At most n numbers below n are pairwise distinct: as a list, and as the values of a function.
use mathlib.Core.Path.{◌≡◌, refl, sym, ap}
use mathlib.Core.Logic.{◌≢◌}
use mathlib.Core.List.{List, [], ◌∷◌}
use Prim.Native.Nat.{ℕ, zero, suc, ◌≤◌, ◌<◌}
use native.Mathlib.Omega.{arith}
use native.Mathlib.Decide.{ℕ_discrete}
use lib.ListN.{length}
use Rattle.theory.specs.Circuits.{Fresh, Distinct}

abbrev pub Below : ℕ → List ℕ → Type 0
Below n [] = Unit {0}
Below n (x ∷ xs) = (x < n) × Below n xs

tighten : (n : ℕ) (xs : List ℕ) → Fresh n xs → Below (suc n) xs → Below n xs
tighten n [] f b = tt
tighten n (x ∷ xs) f b = (omega arith, tighten n xs f.1 b.1)

-- the list without n, which it holds once at most
record Without (n : ℕ) (xs : List ℕ) : Type 0 where
  others : List ℕ
  distinct : Distinct others
  below : Below n others
  count : length xs ≤ suc (length others)
  fresh : (m : ℕ) → Fresh m xs → Fresh m others

without : (n : ℕ) (xs : List ℕ) → Distinct xs → Below (suc n) xs → Without n xs
without n [] d b = record { others = []; distinct = tt; below = tt; count = omega arith; fresh = λ m f. tt }
without n (x ∷ xs) d b =
    elim (ℕ_discrete n x) [
      | yes e ↦ record { others = xs; distinct = d.1; below = tighten n xs (rw e d.0) b.1; count = omega arith; fresh = λ m f. f.1 }
      | no e ↦
          let w = without n xs d.1 b.1 in
          record {
            others = x ∷ w.others;
            distinct = (w.fresh x d.0, w.distinct);
            below = (omega arith, w.below);
            count = omega (arith, w.count);
            fresh = λ m f. (f.0, w.fresh m f.1);
          }
    ]

pub pigeon : (n : ℕ) (xs : List ℕ) → Distinct xs → Below n xs → length xs ≤ n
pigeon zero [] d b = omega arith
pigeon zero (x ∷ xs) d b = omega arith
pigeon (suc n) xs d b =
    let w = without n xs d b in
    omega (arith, w.count, pigeon n w.others w.distinct w.below)

-- ---- the values of a function

-- f 0, .., f (n - 1), the last one first
abbrev firsts : (ℕ → ℕ) → ℕ → List ℕ
firsts f zero = []
firsts f (suc n) = f n ∷ firsts f n

firsts_length : (f : ℕ → ℕ) (n : ℕ) → length (firsts f n) ≡ n
firsts_length f zero = refl
firsts_length f (suc n) = ap suc (firsts_length f n)

firsts_below : (f : ℕ → ℕ) (N n : ℕ) → ((j : ℕ) → j < n → f j < N) → Below N (firsts f n)
firsts_below f N zero h = tt
firsts_below f N (suc n) h = (h n (omega arith), firsts_below f N n (λ j l. h j (omega arith)))

firsts_fresh : (x : ℕ) (f : ℕ → ℕ) (n : ℕ) → ((j : ℕ) → j < n → f j ≢ x) → Fresh x (firsts f n)
firsts_fresh x f zero h = tt
firsts_fresh x f (suc n) h = ((λ (e : x ≡ f n). h n (omega arith) (sym e)), firsts_fresh x f n (λ j l. h j (omega arith)))

firsts_distinct : (f : ℕ → ℕ) (n : ℕ) → ((a b : ℕ) → a < b → b < n → f a ≢ f b) → Distinct (firsts f n)
firsts_distinct f zero h = tt
firsts_distinct f (suc n) h = (firsts_fresh (f n) f n (λ j l. h j n l (omega arith)), firsts_distinct f n (λ a b l m. h a b l (omega arith)))

-- n numbers below N that are apart are at most N
pub apart_few : (f : ℕ → ℕ) (N n : ℕ) → ((j : ℕ) → j < n → f j < N) → ((a b : ℕ) → a < b → b < n → f a ≢ f b) → n ≤ N
apart_few f N n below apart = omega (arith, firsts_length f n, pigeon N (firsts f n) (firsts_distinct f n apart) (firsts_below f N n below))
