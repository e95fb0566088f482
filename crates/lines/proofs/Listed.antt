-- The loops over numbers, arcs and positions: the text of the first ones, and of one more.
use mathlib.Core.Path.{◌≡◌, refl, sym, ap, ap₂, ◌∙◌}
use mathlib.Core.List.{List, [], ◌∷◌, ◌++◌, map, append_assoc, append-nil}
use Prim.Native.Nat.{ℕ, zero, suc, ◌+◌, ◌-◌, ◌*◌, ◌/◌, ◌≤◌, ◌<◌}
use native.Mathlib.Omega.{arith}
use native.Mathlib.Numerals.{add-one}
use native.Mathlib.Nat.{zero-mul, mul-le-mul_right, mul-div_cancel, mul-div-le}
use lib.ListN.{get_or, length, take, drop, length-drop, length-append}
use lib.Seq.{drop-drop, take-append_seam, drop-append_seam, take-take, take-suc, take_all, length-take-le}
use Rattle.std.proofs.lemmas.List.{drop-take}
use Rattle.std.proofs.lemmas.Nat.{div-mul-add}
use Rattle.std.proofs.lemmas.Grind.{same_number_lists}
use Rattle.std.specs.Simd.{first_chunks}
use Rattle.text.specs.Text.{decimal, space, feed, Adds}
use Rattle.text.specs.declared.Text.{Text}
use Rattle.text.proofs.Puts.{adds_then}
use Rattle.lines.specs.Lines.{following, line, numbers_line}
use Rattle.lines.specs.Buffers.{four_line, arc_lines, circuit_text, times_lines}
use Rattle.lines.proofs.Spelled.{times_more}

-- ---- the numbers of a line

-- numbers, each after a space
unfoldable pub spaced : List ℕ → List ℕ
spaced [] = []
spaced (v ∷ vs) = space ∷ decimal v ++ spaced vs

pub spaced_more : (vs : List ℕ) (v : ℕ) → spaced (vs ++ v ∷ []) ≡ spaced vs ++ space ∷ decimal v
unfolding spaced
spaced_more [] v = ap (λ (t : List ℕ). space ∷ t) (append-nil (decimal v))
spaced_more (w ∷ vs) v = ap (λ (t : List ℕ). space ∷ decimal w ++ t) (spaced_more vs v) ∙ sym (append_assoc (space ∷ decimal w) (spaced vs) (space ∷ decimal v))

pub spaced_line : (vs : List ℕ) → following (map decimal vs) ≡ spaced vs ++ feed ∷ []
unfolding spaced
spaced_line [] = refl
spaced_line (v ∷ vs) = ap (λ (t : List ℕ). space ∷ decimal v ++ t) (spaced_line vs) ∙ sym (append_assoc (space ∷ decimal v) (spaced vs) (feed ∷ []))

module _ {s t u : Text} (v : ℕ) (rest : List ℕ) (k : ℕ) (before : Adds s (decimal v ++ spaced (take k rest)) t) where
  pub numbers_more : k < length rest → Adds t (space ∷ decimal (get_or rest k 0)) u → Adds s (decimal v ++ spaced (take (k + 1) rest)) u
  numbers_more h x =
      rw (add-one k, take-suc rest k 0 h, spaced_more (take k rest) (get_or rest k 0), ← append_assoc (decimal v) (spaced (take k rest)) (space ∷ decimal (get_or rest k 0))) (adds_then before x)

  pub numbers_all : length rest ≤ k → Adds t (feed ∷ []) u → Adds s (numbers_line (v ∷ rest)) u
  numbers_all h x = rw (spaced_line rest, ← append_assoc (decimal v) (spaced rest) (feed ∷ [])) (adds_then (rw (take_all k rest h) at before) x)

-- ---- the rows of a list

-- a row stands where the list has it
pub row_at : (n k : ℕ) (xs : List ℕ) (i : ℕ) → i < k → get_or (first_chunks n k xs) i [] ≡ take n (drop (i * n) xs)
row_at n zero xs i h = absurd (omega arith)
row_at n (suc k) xs zero h = ap (λ (j : ℕ). take n (drop j xs)) (sym (zero-mul n))
row_at n (suc k) xs (suc i) h = row_at n k (drop n xs) i (omega arith) ∙ ap (take n) (drop-drop (i * n) n xs ∙ ap (λ (j : ℕ). drop j xs) (further n i))
  where
    further : (n i : ℕ) → n + i * n ≡ suc i * n
    further n i = omega arith

-- rows of a list's front are rows of the list
pub rows_front : (n k : ℕ) (xs : List ℕ) → times_lines (take (k * n) xs) n k ≡ times_lines xs n k
unfolding times_lines
rows_front n zero xs = refl
rows_front n (suc k) xs =
    ap (λ (i : ℕ). times_lines (take i xs) n (suc k)) (first n k)
    ∙ ap₂ (λ (a b : List ℕ). numbers_line a ++ times_lines b n k) (take-take n (n + k * n) xs (omega arith)) (drop-take n (k * n) xs)
    ∙ ap (λ (t : List ℕ). numbers_line (take n xs) ++ t) (rows_front n k (drop n xs))
  where
    first : (n k : ℕ) → suc k * n ≡ n + k * n
    first n k = omega arith

-- how many rows a slice of so many holds
cut_count : (n k m : ℕ) (xs : List ℕ) → 1 ≤ n → m ≡ k * n → m ≤ length xs → length (take m xs) / n ≡ k
cut_count n k m xs some e h = ap (λ (i : ℕ). i / n) (length-take-le m xs h ∙ e) ∙ mul-div_cancel k some

-- the rows that a slice holds, as the first ones of the list that it was cut from
pub rows_cut : (n k m : ℕ) (xs : List ℕ) → 1 ≤ n → m ≡ k * n → m ≤ length xs → times_lines (take m xs) n (length (take m xs) / n) ≡ times_lines xs n k
rows_cut n k m xs some e h = ap₂ (λ (i j : ℕ). times_lines (take i xs) n j) e (cut_count n k m xs some e h) ∙ rows_front n k xs

-- the lines of arcs are rows of four numbers
pub arcs_rows : (k : ℕ) (xs : List ℕ) → 4 * k ≤ length xs → arc_lines xs k ≡ times_lines xs 4 k
unfolding arc_lines times_lines
arcs_rows zero xs h = refl
arcs_rows (suc k) [] h = absurd (omega arith)
arcs_rows (suc k) (a ∷ []) h = absurd (omega arith)
arcs_rows (suc k) (a ∷ b ∷ []) h = absurd (omega arith)
arcs_rows (suc k) (a ∷ b ∷ c ∷ []) h = absurd (omega arith)
arcs_rows (suc k) (a ∷ b ∷ c ∷ d ∷ xs) h = ap (λ (t : List ℕ). four_line a b c d ++ t) (arcs_rows k xs (omega arith))

-- and so a circuit's
pub circuit_cut : (word : List ℕ) (k : ℕ) (xs : List ℕ) → 4 * k ≤ length xs → circuit_text word (take (4 * k) xs) (length (take (4 * k) xs) / 4) ≡ circuit_text word xs k
circuit_cut word k xs h =
    let part = take (4 * k) xs in
    ap₂ (λ (i : ℕ) (t : List ℕ). line word (decimal i ∷ []) ++ t) (cut_count 4 k (4 * k) xs (omega arith) (omega arith) h)
    (arcs_rows (length part / 4) part (mul-div-le (length part) 4) ∙ rows_cut 4 k (4 * k) xs (omega arith) (omega arith) h ∙ sym (arcs_rows k xs h))

-- a copy of a row
pub row_copied : (n k m : ℕ) (xs row : List ℕ) (rows : List (List ℕ)) → rows ≡ first_chunks n m xs → k < m → m * n ≤ length xs → length row ≡ n → ((j : ℕ) → j < n → get_or row j 0 ≡ get_or (get_or rows k []) j 0)
    → row ≡ take n (drop (k * n) xs)
row_copied n k m xs row rows e h long counted same =
    let is : get_or rows k [] ≡ take n (drop (k * n) xs) = ap (λ (l : List (List ℕ)). get_or l k []) e ∙ row_at n m xs k h in
    same_number_lists row (take n (drop (k * n) xs)) (counted ∙ sym (length-take-le n (drop (k * n) xs) (omega (arith, long, mul-le-mul_right n h, length-drop (k * n) xs))))
    (λ j below. same j (omega (arith, below, counted)) ∙ ap (λ (l : List ℕ). get_or l j 0) is)

-- one row more
pub rows_more : {s t u : Text} (n k : ℕ) (xs : List ℕ) → Adds s (times_lines xs n k) t → Adds t (numbers_line (take n (drop (k * n) xs))) u → Adds s (times_lines xs n (k + 1)) u
rows_more n k xs x y = rw (add-one k, times_more xs n k) (adds_then x y)

-- a loop has met the first g rows, and the rest is left
pub record Met (n : ℕ) (xs : List ℕ) (g : ℕ) (rest : List ℕ) : Type 0 where
  pub rest_is : rest ≡ drop (g * n) xs
  pub inside : g * n ≤ length xs

pub met_none : (n : ℕ) (xs : List ℕ) → Met n xs 0 xs
met_none n xs = record { rest_is = ap (λ (i : ℕ). drop i xs) (sym (zero-mul n)); inside = omega arith }

module _ {n : ℕ} {xs : List ℕ} {g : ℕ} {rest : List ℕ} (m : Met n xs g rest) where
  left : length rest ≡ length xs - g * n
  left = ap length m.rest_is ∙ length-drop (g * n) xs

  pub met_all : length rest < n → length xs / n ≡ g
  met_all h = ap (λ (i : ℕ). i / n) (whole (length xs) (g * n) m.inside) ∙ div-mul-add g n (length xs - g * n) (omega (arith, left, h))
    where
      whole : (a b : ℕ) → b ≤ a → a ≡ b + (a - b)
      whole a b h = omega arith

  module _ (x after : List ℕ) (next : rest ≡ x ++ after) (long : length x ≡ n) where
    pub met_row : x ≡ take n (drop (g * n) xs)
    met_row = sym (take-append_seam x after) ∙ ap₂ take long (sym next ∙ m.rest_is)

    pub met_more : Met n xs (g + 1) after
    met_more = record {
      rest_is = sym (drop-append_seam x after) ∙ ap₂ drop long (sym next ∙ m.rest_is) ∙ drop-drop n (g * n) xs ∙ ap (λ (i : ℕ). drop i xs) (further g n);
      inside = omega (arith, m.inside, left, ap length next, length-append x after, long);
    }
      where
        further : (g n : ℕ) → g * n + n ≡ (g + 1) * n
        further g n = omega arith
