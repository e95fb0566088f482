-- The first place where two tables differ: what a search over both, place by place, finds.
use mathlib.Core.Path.{◌≡◌, refl, sym, ap, ◌∙◌}
use mathlib.Core.Bool.{Bool, true, false, not, cond}
use mathlib.Core.List.{List, [], ◌∷◌}
use Prim.Native.Nat.{ℕ, zero, suc, ◌+◌, ◌≤◌, ◌<◌}
use native.Mathlib.Omega.{arith}
use borrow.Author.Tests.{eqb-true, eqb-false, ltb-false}
use lib.Dec.{eqb, ltb}
use lib.ListN.{length, get_or, take}
use Rattle.std.specs.Prelude.{Some, None, zip, position}
use Rattle.std.specs.List.{position_or_len}
use Rattle.std.proofs.lemmas.List.Quantifiers.{position-Some}
use Rattle.std.proofs.lemmas.List.{get_or-take, length-take-le}
use Rattle.std.proofs.lemmas.Option.{none-some}
use Rattle.std.proofs.lemmas.Bool.{not-true, not-false}
use Rattle.std.proofs.lemmas.Slice.Zip.{get_or-zip, length-zip}
use Rattle.turns.specs.Rounds.{Differs}

-- the two differ
abbrev pub other : ℕ × ℕ → Bool
other e = not (eqb e.0 e.1)

-- where none is found all places agree
agree : (xs ys : List ℕ) → length xs ≡ length ys → length (zip xs ys) ≤ position_or_len other (zip xs ys) → (k : ℕ) → k < length xs → get_or xs k 0 ≡ get_or ys k 0
agree [] ys e h k l = absurd (omega arith)
agree (x ∷ xs) [] e h k l = absurd (omega arith)
agree (x ∷ xs) (y ∷ ys) e h k l = go (agree xs ys (omega (arith, e))) (eqb x y) refl h k l
  where
    Rest : Type 0
    Rest = length (zip xs ys) ≤ position_or_len other (zip xs ys) → (k : ℕ) → k < length xs → get_or xs k 0 ≡ get_or ys k 0

    go : Rest → (b : Bool) → eqb x y ≡ b → suc (length (zip xs ys)) ≤ cond (not (not b)) (1 + position_or_len other (zip xs ys)) 0 → (k : ℕ) → k < suc (length xs) → get_or (x ∷ xs) k 0 ≡ get_or (y ∷ ys) k 0
    go rest true q h zero l = eqb-true x y q
    go rest true q h (suc k) l = rest (omega (arith, h)) k (omega (arith, l))
    go rest false q h k l = absurd (omega (arith, h))

-- so does a search that finds one
found : (b : Bool) (i : ℕ) → cond b (Some i) None ≡ None → b ≡ false
found true i e = absurd (none-some i (sym e))
found false i e = refl

module _ (xs ys : List ℕ) (n : ℕ) (first : n ≤ length xs) (second : n ≤ length ys) where
  abbrev pairs : List (ℕ × ℕ)
  pairs = zip (take n xs) (take n ys)

  long : length (take n xs) ≡ n
  long = length-take-le n xs first

  wide : length (take n ys) ≡ n
  wide = length-take-le n ys second

  count : length pairs ≡ n
  count = omega (arith, length-zip (take n xs) (take n ys), long, wide)

  at : (k : ℕ) → k < n → get_or pairs k (0, 0) ≡ (get_or xs k 0, get_or ys k 0)
  at k h = rw (get_or-zip (take n xs) (take n ys) k (0, 0) (omega (arith, long)) (omega (arith, wide)), get_or-take n xs k 0 h, get_or-take n ys k 0 h) refl

  -- THEOREM: what is found is the first place where they differ
  pub some_differ : (v : ℕ) → Some v ≡ position other pairs → (v < n) × Differs xs ys n v
  some_differ v e =
      let f = position-Some other pairs v (0, 0) (sym e) in
      let below : v < n = omega (arith, f.0, count) in (
        below,
        record {
          within = omega (arith, below);
          same = λ k h. eqb-true _ _ (not-false _ (ap other (sym (at k (omega (arith, h, below)))) ∙ f.2 k h));
          other = λ h same. eqb-false _ _ (not-true _ (ap other (sym (at v below)) ∙ f.1)) same;
        },
      )

  -- THEOREM: where nothing is found they are equal
  pub none_differ : None ≡ position other pairs → Differs xs ys n n
  none_differ e =
      let none = ltb-false _ _ (found (ltb (position_or_len other pairs) (length pairs)) (position_or_len other pairs) (sym e)) in
      let all = agree (take n xs) (take n ys) (long ∙ sym wide) (omega (arith, none)) in
      record {
        within = omega arith;
        same = λ k h. sym (get_or-take n xs k 0 h) ∙ all k (omega (arith, h, long)) ∙ get_or-take n ys k 0 h;
        other = λ h. absurd (omega (arith, h));
      }
