-- The records laid out of a mode's part are those of the windows of the sheet's mode, in their order: the place of kind, to and from is
-- (kind·n + to - 1)·n + from - 1, so rising places are rising kinds, then tos, then froms.
use mathlib.Core.Path.{◌≡◌, refl, sym, ap, ap₂, ◌∙◌}
use mathlib.Core.Bool.{Bool, true, false, cond}
use mathlib.Core.List.{List, [], ◌∷◌, ◌++◌, map, map-append, append_assoc, append-nil}
use Prim.Native.Nat.{ℕ, zero, suc, ◌+◌, ◌*◌, ◌≤◌, ◌<◌}
use native.Mathlib.Omega.{arith}
use lib.IntN.{ℤ, pos}
use lib.ListN.{length, get_or, drop}
use Rattle.tables.specs.Sheets.{Sheet, absent, places}
use Rattle.windows.specs.Windows.{Kind, A0, B0, A1, B1, number, Window, entry}
use Rattle.windows.specs.Arcs.{one_to, each, kinds, unless_absent, window_at, windows_to, windows_of, windows}
use Rattle.windows.proofs.Listed.{each_same, each_more}
use Rattle.edges.specs.declared.Record.{Record}
use Rattle.edges.specs.Edges.{from_place}
use Rattle.edges.proofs.Places.{as_record, kind_at, to_at, from_at, value_at}
use Rattle.layout.specs.Records.{records_in, mode_records}

each_map : {A B C : Type 0} (f : A → B) (cs : List C) (g : C → List A) → each cs (λ c. map f (g c)) ≡ map f (each cs g)
each_map f [] g = refl
each_map f (c ∷ cs) g = ap (λ (l : List _). map f (g c) ++ l) (each_map f cs g) ∙ sym (map-append f (g c) (each cs g))

-- f 0, f 1, .., f (k - 1), joined
up_to : {A : Type 0} → (ℕ → List A) → ℕ → List A
up_to f zero = []
up_to f (suc k) = up_to f k ++ f k

up_to_add : {A : Type 0} (f : ℕ → List A) (a b c : ℕ) → a + b ≡ c → up_to f c ≡ up_to f a ++ up_to (λ j. f (a + j)) b
unfolding up_to
up_to_add f a zero c e = let h : c ≡ a = omega arith in rw h (sym (append-nil (up_to f a)))
up_to_add f a (suc b) zero e = absurd (omega arith)
up_to_add f a (suc b) (suc c) e =
    let h : c ≡ a + b = omega arith in
    ap₂ (λ (x y : List _). x ++ y) (up_to_add f a b c (sym h)) (ap f h) ∙ append_assoc (up_to f a) (up_to (λ j. f (a + j)) b) (f (a + b))

row : {A : Type 0} (n : ℕ) (f g : ℕ → List A) → ((j : ℕ) → j < n → f j ≡ g (suc j)) → up_to f n ≡ each (one_to n) g
unfolding up_to
row zero f g h = refl
row (suc n) f g h = ap₂ (λ (x y : List _). x ++ y) (row n f g (λ j l. h j (omega arith))) (h n (omega arith)) ∙ sym (each_more n g)

rows : {A : Type 0} (n m c : ℕ) (f : ℕ → List A) (g : ℕ → ℕ → List A) → m * n ≡ c → ((i j : ℕ) → i < m → j < n → f (i * n + j) ≡ g (suc i) (suc j))
    → up_to f c ≡ each (one_to m) (λ i. each (one_to n) (g i))
unfolding up_to
rows n zero zero f g e h = refl
rows n zero (suc c) f g e h = absurd (omega arith)
rows n (suc m) c f g e h =
    up_to_add f (m * n) n c (omega arith)
    ∙ ap₂ (λ (x y : List _). x ++ y) (rows n m (m * n) f g refl (λ i j k l. h i j (omega arith) l)) (row n (λ j. f (m * n + j)) (g (suc m)) (λ j l. h m j (omega arith) l))
    ∙ sym (each_more m (λ i. each (one_to n) (g i)))

four : {A : Type 0} (f : ℕ → List A) (m : ℕ) (a b c d : List A) → up_to (λ j. f (0 * m + j)) m ≡ a → up_to (λ j. f (1 * m + j)) m ≡ b → up_to (λ j. f (2 * m + j)) m ≡ c → up_to (λ j. f (3 * m + j)) m ≡ d
    → up_to f (4 * m) ≡ a ++ (b ++ (c ++ (d ++ [])))
unfolding up_to
four f m a b c d p q r t =
    up_to_add f (3 * m) m (4 * m) (omega arith)
    ∙ ap₂ (λ (x y : List _). x ++ y)
    (up_to_add f (2 * m) m (3 * m) (omega arith)
    ∙ ap₂ (λ (x y : List _). x ++ y) (up_to_add f (1 * m) m (2 * m) (omega arith) ∙ ap₂ (λ (x y : List _). x ++ y) (up_to_add f (0 * m) m (1 * m) (omega arith) ∙ ap₂ (λ (x y : List _). x ++ y) (none (0 * m) (omega arith)) p) q) r)
    t
    ∙ simp (append_assoc, append-nil)
  where
    none : (k : ℕ) → k ≡ 0 → up_to f k ≡ []
    none zero e = refl
    none (suc k) e = absurd (omega arith)

-- what the code looks at in each place
cell : List ℤ → ℕ → ℕ → List Record
cell part n k = let w = get_or part k (pos 0) in cond (absent w) [] (from_place n k w ∷ [])

cells : (part : List ℤ) (n k : ℕ) → records_in part n k ≡ up_to (cell part n) k
unfolding records_in up_to cell
cells part n zero = refl
cells part n (suc k) = ap (λ (l : List Record). l ++ cell part n k) (cells part n k)

-- the record of a window, unless there is none
unless_record : (b : Bool) (a : Window) → map as_record (unless_absent b a) ≡ cond b [] (as_record a ∷ [])
unless_record true a = refl
unless_record false a = refl

module _ (s : Sheet) (t : ℕ) (mode : t < s.m) (long : places s.n s.m ≤ length s.tables) where
  part : List ℤ
  part = drop (t * (4 * (s.n * s.n))) s.tables

  cell_at : (k : Kind) (i j : ℕ) → i < s.n → j < s.n → cell part s.n (number k * (s.n * s.n) + (i * s.n + j)) ≡ map as_record (window_at s t k (suc i) (suc j))
  unfolding cell part
  cell_at k i j to from =
      rw (value_at s t mode long k i j to from, kind_at s.n (number k) i j to from, to_at s.n (number k) i j to from, from_at s.n (number k) i j to from, one i, one j)
      (sym (unless_record (absent (entry s t k (suc i) (suc j))) (record { kind = k; to = suc i; from = suc j; w = entry s t k (suc i) (suc j) })))
    where
      one : (x : ℕ) → x + 1 ≡ suc x
      one x = omega arith

  kind_cells : (k : Kind) → up_to (λ j. cell part s.n (number k * (s.n * s.n) + j)) (s.n * s.n) ≡ map as_record (windows_of s t k)
  kind_cells k =
      rows s.n s.n (s.n * s.n) (λ j. cell part s.n (number k * (s.n * s.n) + j)) (λ i j. map as_record (window_at s t k i j)) refl (cell_at k)
      ∙ each_same (one_to s.n) (λ i. each (one_to s.n) (λ j. map as_record (window_at s t k i j))) (λ i. map as_record (windows_to s t k i)) (λ i _. each_map as_record (one_to s.n) (window_at s t k i))
      ∙ each_map as_record (one_to s.n) (windows_to s t k)

  -- THEOREM: the records laid out for mode t are those of the windows present in mode t
  pub mode_records_lem : mode_records s.tables s.n t ≡ map as_record (windows s t)
  unfolding mode_records windows part
  mode_records_lem =
      cells part s.n (4 * (s.n * s.n))
      ∙ four (cell part s.n) (s.n * s.n) (map as_record (windows_of s t A0)) (map as_record (windows_of s t B0)) (map as_record (windows_of s t A1)) (map as_record (windows_of s t B1)) (kind_cells A0) (kind_cells B0) (kind_cells A1) (kind_cells B1)
      ∙ each_map as_record kinds (windows_of s t)
