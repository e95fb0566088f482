-- A mode's part of the tables and the list of its windows are two views of one thing.
use mathlib.Core.Path.{◌≡◌, refl, sym, ap, subst, ◌∙◌}
use mathlib.Core.Bool.{Bool, true, false, cond, ◌||◌}
use mathlib.Core.List.{List, [], ◌∷◌, ◌++◌, append_assoc}
use Prim.Native.Nat.{ℕ, zero, suc, ◌+◌, ◌≤◌, ◌<◌}
use native.Mathlib.Omega.{arith}
use native.Mathlib.Decide.{ℕ_discrete}
use borrow.Author.Tests.{ltb-true, ne_eqb}
use lib.IntN.{ℤ, pos, negsuc}
use lib.ListN.{length, replicate, length-append}
use lib.Seq.{set_at}
use Rattle.tables.specs.Sheets.{no_window, in_limit, absent, admits, all}
use Rattle.tables.proofs.Laws.{absent_is, both}
use Rattle.sheet.specs.File.{Placed, placed, put, laid}
use Rattle.sheet.specs.Written.{cell, placed_of}
use Rattle.sheet.proofs.Windows.{Good}

-- ---- the window that a value says
pub cell_absent : (k : ℕ) (v : ℤ) → absent v ≡ true → cell k v ≡ []
unfolding cell
cell_absent k v e = rw e

pub cell_present : (k : ℕ) (v : ℤ) → absent v ≡ false → cell k v ≡ placed k v ∷ []
unfolding cell
cell_present k v e = rw e

pub cell_few : (k : ℕ) (v : ℤ) → length (cell k v) ≤ 1
unfolding cell
cell_few k v = go (absent v)
  where
    go : (b : Bool) → length (cond {A = List Placed} b [] (placed k v ∷ [])) ≤ 1
    go true = omega arith
    go false = omega arith

pub windows_few : (k : ℕ) (part : List ℤ) → length (placed_of k part) ≤ length part
unfolding placed_of
windows_few k [] = omega arith
windows_few k (v ∷ part) = omega (arith, length-append (cell k v) (placed_of (k + 1) part), cell_few k v, windows_few (k + 1) part)

-- a limit in its range is a window
pub limit_present : (v : ℤ) → in_limit v ≡ true → absent v ≡ false
limit_present (pos a) e = refl
limit_present (negsuc a) e = ne_eqb a 2147483647 (let h = ltb-true a 1000000 e in omega arith)

snoc : {A : Type 0} (xs : List A) (v : A) (ys : List A) → xs ++ v ∷ ys ≡ (xs ++ v ∷ []) ++ ys
snoc xs v ys = sym (append_assoc xs (v ∷ []) ys)

longer : (xs : List ℤ) (v : ℤ) (k : ℕ) → length xs ≡ k → length (xs ++ v ∷ []) ≡ k + 1
longer xs v k e = omega (arith, length-append xs (v ∷ []))

-- ---- from the part to the windows and back
-- one value more, where `next` is what holds of the rest
relaid_absent : (v : ℤ) (rest xs : List ℤ) (k : ℕ) → absent v ≡ true
    → put (placed_of (k + 1) rest) ((xs ++ v ∷ []) ++ replicate (length rest) no_window) ≡ (xs ++ v ∷ []) ++ rest
    → put (cell k v ++ placed_of (k + 1) rest) (xs ++ no_window ∷ replicate (length rest) no_window) ≡ xs ++ v ∷ rest
relaid_absent v rest xs k q next =
    rw (cell_absent k v q) (ap (λ (l : List ℤ). put (placed_of (k + 1) rest) l) (ap (λ (z : ℤ). xs ++ z ∷ replicate (length rest) no_window) (sym (absent_is v q)) ∙ snoc xs v (replicate (length rest) no_window)) ∙ next ∙ sym (snoc xs v rest))

relaid_present : (v : ℤ) (rest xs : List ℤ) (k : ℕ) → length xs ≡ k → absent v ≡ false
    → put (placed_of (k + 1) rest) ((xs ++ v ∷ []) ++ replicate (length rest) no_window) ≡ (xs ++ v ∷ []) ++ rest
    → put (cell k v ++ placed_of (k + 1) rest) (xs ++ no_window ∷ replicate (length rest) no_window) ≡ xs ++ v ∷ rest
unfolding put
relaid_present v rest xs k e q next =
    rw (cell_present k v q) (ap (λ (l : List ℤ). put (placed_of (k + 1) rest) l) (set_at xs no_window (replicate (length rest) no_window) v k e ∙ snoc xs v (replicate (length rest) no_window)) ∙ next ∙ sym (snoc xs v rest))

relaid : (rest xs : List ℤ) (k : ℕ) → length xs ≡ k → put (placed_of k rest) (xs ++ replicate (length rest) no_window) ≡ xs ++ rest
unfolding placed_of put
relaid [] xs k e = refl
relaid (v ∷ rest) xs k e = cases (relaid rest (xs ++ v ∷ []) (k + 1) (longer xs v k e)) (absent v) refl
  where
    cases : put (placed_of (k + 1) rest) ((xs ++ v ∷ []) ++ replicate (length rest) no_window) ≡ (xs ++ v ∷ []) ++ rest → (b : Bool) → absent v ≡ b
        → put (cell k v ++ placed_of (k + 1) rest) (xs ++ no_window ∷ replicate (length rest) no_window) ≡ xs ++ v ∷ rest
    cases next true q = relaid_absent v rest xs k q next
    cases next false q = relaid_present v rest xs k e q next

pub laid_windows : (part : List ℤ) (size : ℕ) → length part ≡ size → laid size (placed_of 0 part) ≡ part
unfolding laid
laid_windows part size e = ap (λ (k : ℕ). put (placed_of 0 part) (replicate k no_window)) (sym e) ∙ relaid part [] 0 refl

-- the windows of a part rise, and their limits are in range where its values are admitted
or_left : (a b : Bool) → (a || b) ≡ true → b ≡ false → a ≡ true
or_left true b e f = refl
or_left false b e f = let z : ◌≡◌ {A = ℕ} 0 1 = cc in absurd (omega arith)

good_lower : (size low k : ℕ) (windows : List Placed) → low ≤ k → Good size k windows → Good size low windows
unfolding Good
good_lower size low k [] h g = tt
good_lower size low k (w ∷ rest) h g = (omega (arith, g.0), g.1, g.2, g.3)

good_cons : (size k : ℕ) (v : ℤ) (rest : List Placed) → k < size → admits v ≡ true → Good size (k + 1) rest → Good size k (cell k v ++ rest)
unfolding Good
good_cons size k v rest h a g = cases (absent v) refl
  where
    cases : (b : Bool) → absent v ≡ b → Good size k (cell k v ++ rest)
    cases true q = rw (cell_absent k v q) (good_lower size k (k + 1) rest (omega arith) g)
    cases false q = rw (cell_present k v q) (omega arith, h, or_left (in_limit v) (absent v) a q, g)

pub good_windows : (size k : ℕ) (part : List ℤ) → k + length part ≤ size → all admits part ≡ true → Good size k (placed_of k part)
unfolding placed_of Good all
good_windows size k [] h a = tt
good_windows size k (v ∷ rest) h a =
    let b = both (admits v) (all admits rest) a in
    good_cons size k v (placed_of (k + 1) rest) (omega arith) b.0 (good_windows size (k + 1) rest (omega arith) b.1)

-- ---- from the windows to the part and back
pub record Laid (size k : ℕ) (xs : List ℤ) (windows : List Placed) (list : List ℤ) : Type 0 where
  pub rest : List ℤ
  pub is : list ≡ xs ++ rest
  pub windows_are : placed_of k rest ≡ windows

-- one value more in front of the rest
more : (size k : ℕ) (v : ℤ) (xs : List ℤ) (windows tail : List Placed) (list : List ℤ) → cell k v ++ tail ≡ windows → Laid size (k + 1) (xs ++ v ∷ []) tail list → Laid size k xs windows list
unfolding placed_of
more size k v xs windows tail list e l =
    record { rest = v ∷ l.rest; is = l.is ∙ sym (snoc xs v l.rest); windows_are = ap (λ (z : List Placed). cell k v ++ z) l.windows_are ∙ e }

relisted : (j : ℕ) (windows : List Placed) (xs : List ℤ) (k size : ℕ) → length xs ≡ k → k + j ≡ size → Good size k windows → Laid size k xs windows (put windows (xs ++ replicate j no_window))
unfolding Good put placed_of
relisted zero [] xs k size e s g = record { rest = []; is = refl; windows_are = refl }
relisted zero (w ∷ rest) xs k size e s g = absurd (omega (arith, g.0, g.1))
relisted (suc j) [] xs k size e s g =
    more size k no_window xs [] [] _ (ap (λ (l : List Placed). l ++ []) (cell_absent k no_window refl))
    (subst (λ (l : List ℤ). Laid size (k + 1) (xs ++ no_window ∷ []) [] l) (sym (snoc xs no_window (replicate j no_window))) (relisted j [] (xs ++ no_window ∷ []) (k + 1) size (longer xs no_window k e) (omega arith) tt))
relisted (suc j) (w ∷ rest) xs k size e s g = elim (ℕ_discrete w.place k) [
  | yes q ↦
      more size k w.limit xs (w ∷ rest) rest _ (ap (λ (l : List Placed). l ++ rest) (cell_present k w.limit (limit_present w.limit g.2)) ∙ ap (λ (p : ℕ). placed p w.limit ∷ rest) (sym q))
      (subst (λ (l : List ℤ). Laid size (k + 1) (xs ++ w.limit ∷ []) rest (put rest l)) (sym (set_at xs no_window (replicate j no_window) w.limit w.place (e ∙ sym q) ∙ snoc xs w.limit (replicate j no_window)))
      (relisted j rest (xs ++ w.limit ∷ []) (k + 1) size (longer xs w.limit k e) (omega arith) (subst (λ (p : ℕ). Good size (p + 1) rest) q g.3)))
  | no q ↦
      more size k no_window xs (w ∷ rest) (w ∷ rest) _ (ap (λ (l : List Placed). l ++ w ∷ rest) (cell_absent k no_window refl))
      (subst (λ (l : List ℤ). Laid size (k + 1) (xs ++ no_window ∷ []) (w ∷ rest) (put (w ∷ rest) l)) (sym (snoc xs no_window (replicate j no_window)))
      (relisted j (w ∷ rest) (xs ++ no_window ∷ []) (k + 1) size (longer xs no_window k e) (omega arith) (omega (arith, g.0, q), g.1, g.2, g.3)))
]

pub windows_laid : (size : ℕ) (windows : List Placed) → Good size 0 windows → placed_of 0 (laid size windows) ≡ windows
unfolding laid
windows_laid size windows g = let l = relisted size windows [] 0 size refl (omega arith) g in ap (placed_of 0) l.is ∙ l.windows_are
