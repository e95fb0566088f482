-- The list while it is laid out: the records of the modes before, and of the places of the next mode's part that are passed. A place that has
-- a window puts one record more, a place that has none puts nothing. Then the modes' parts of the list.
use mathlib.Core.Path.{◌≡◌, refl, sym, ap, ◌∙◌}
use mathlib.Core.Bool.{Bool, true, false, cond, not}
use mathlib.Core.List.{List, [], ◌∷◌, ◌++◌, append_assoc, append-nil}
use Prim.Native.Nat.{ℕ, zero, suc, ◌+◌, ◌-◌, ◌*◌, ◌≤◌, ◌<◌}
use native.Mathlib.Omega.{arith}
use native.Mathlib.Decide.{dec_lt}
use native.Mathlib.Nat.{le_antisymm}
use native.Mathlib.Numerals.{add-one}
use lib.IntN.{ℤ, pos}
use lib.ListN.{length, get_or, set, take, drop, length-set, length-append, length-drop, get_or-append}
use lib.Seq.{get_or-set_same, get_or-set_other, get_or-append_seam, get_or-append-add, take_all}
use Rattle.std.specs.List.{count_by}
use Rattle.std.proofs.lemmas.List.{get_or-take, length-take-le}
use Rattle.std.proofs.lemmas.List.Sums.{count_by_more_no, count_by_more_yes}
use Rattle.tables.specs.Sheets.{absent}
use Rattle.edges.specs.declared.Record.{Record}
use Rattle.edges.specs.Edges.{from_place}
use Rattle.edges.proofs.Places.{sizes}
use Rattle.layout.specs.Records.{records_in, mode_records, laid_out, blank, listed, Laid, Starts}

-- ---- the records of a part

-- a place more, as the code counts, with a window or with none
module _ (part : List ℤ) (n k : ℕ) (v : ℤ) (is : v ≡ get_or part k (pos 0)) where
  pub records_skip : absent v ≡ true → records_in part n (k + 1) ≡ records_in part n k
  unfolding records_in
  records_skip e = rw (add-one k, ← is, e, append-nil)

  pub records_one : absent v ≡ false → records_in part n (k + 1) ≡ records_in part n k ++ from_place n k v ∷ []
  unfolding records_in
  records_one e = rw (add-one k, ← is, e)

cell_few : (b : Bool) (a : Record) → length (cond b [] (a ∷ [])) ≤ 1
cell_few true a = omega arith
cell_few false a = omega arith

-- no more records than places
pub records_few : (part : List ℤ) (n k : ℕ) → length (records_in part n k) ≤ k
unfolding records_in
records_few part n zero = omega arith
records_few part n (suc k) =
    let v = get_or part k (pos 0) in
    omega (arith, records_few part n k, length-append (records_in part n k) (cond (absent v) [] (from_place n k v ∷ [])), cell_few (absent v) (from_place n k v))

-- the records of the first places are those of a part that ends there
pub records_take : (part : List ℤ) (n size k : ℕ) → k ≤ size → records_in (take size part) n k ≡ records_in part n k
unfolding records_in
records_take part n size zero h = refl
records_take part n size (suc k) h = rw (get_or-take size part k (pos 0) (omega arith), records_take part n size k (omega arith)) refl

-- there are as many of them as windows among the values
pub records_count : (part : List ℤ) (n k : ℕ) → k ≤ length part → length (records_in part n k) ≡ count_by (λ v. not (absent v)) (take k part)
unfolding records_in
records_count part n zero h = refl
records_count part n (suc k) h = go (records_count part n k (omega arith)) (absent (get_or part k (pos 0))) refl
  where
    go : length (records_in part n k) ≡ count_by (λ v. not (absent v)) (take k part) → (b : Bool) → absent (get_or part k (pos 0)) ≡ b → length (records_in part n k ++ cond b [] (from_place n k (get_or part k (pos 0)) ∷ [])) ≡ count_by (λ v. not (absent v)) (take (suc k) part)
    go before true e = rw (← add-one k, append-nil) (before ∙ sym (count_by_more_no (λ v. not (absent v)) part k (pos 0) (omega arith) (ap not e)))
    go before false e = rw (← add-one k, length-append (records_in part n k) (from_place n k (get_or part k (pos 0)) ∷ [])) (omega (arith, before, count_by_more_yes (λ v. not (absent v)) part k (pos 0) (omega arith) (ap not e)))

pub mode_few : (tables : List ℤ) (n t : ℕ) → length (mode_records tables n t) ≤ 4 * (n * n)
unfolding mode_records
mode_few tables n t = records_few _ n (4 * (n * n))

pub laid_few : (tables : List ℤ) (n t : ℕ) → length (laid_out tables n t) ≤ t * (4 * (n * n))
unfolding laid_out
laid_few tables n zero = omega arith
laid_few tables n (suc t) = omega (arith, laid_few tables n t, mode_few tables n t, length-append (laid_out tables n t) (mode_records tables n t))

-- ---- the list, while it is laid out

-- one record more
put : (rs l : List Record) (w : ℕ) (a : Record) → Laid rs l → w ≡ length rs → w < length l → Laid (rs ++ a ∷ []) (set l w a)
put rs l w a laid count room i h =
    elim (dec_lt i (length rs)) [
      | yes p ↦ get_or-set_other l w i a blank (λ x. omega arith) ∙ laid i p ∙ sym (get_or-append rs (a ∷ []) blank i p)
      | no p ↦
          let d : i ≡ length rs = omega (arith, length-append rs (a ∷ [])) in
          rw (d, ← count) (get_or-set_same l w a blank room ∙ sym (ap (λ (x : ℕ). get_or (rs ++ a ∷ []) x blank) count ∙ get_or-append_seam rs a [] blank))
    ]

module _ (tables : List ℤ) (n : ℕ) where
  abbrev size : ℕ
  size = 4 * (n * n)

  -- the part of the tables that is mode t's, as the code cuts it out
  abbrev pub part : ℕ → List ℤ
  part t = take (t * size + size - t * size) (drop (t * size) tables)

  length_part : (t : ℕ) → t * size + size ≤ length tables → length (part t) ≡ size
  length_part t h = let e : t * size + size - t * size ≡ size = omega arith in
      rw e (length-take-le size (drop (t * size) tables) (omega (arith, length-drop (t * size) tables)))

  -- its records are the mode's
  part_records : (t : ℕ) → records_in (part t) n size ≡ mode_records tables n t
  unfolding mode_records
  part_records t = let e : t * size + size - t * size ≡ size = omega arith in rw e (records_take (drop (t * size) tables) n size size (omega arith))

  -- which are as many as the windows in it
  pub part_count : (t : ℕ) → t * size + size ≤ length tables → count_by (λ v. not (absent v)) (part t) ≡ length (mode_records tables n t)
  part_count t h =
      let long : length (part t) ≡ size = length_part t h in
      ap (count_by (λ v. not (absent v))) (sym (take_all size (part t) (omega (arith, long)))) ∙ sym (records_count (part t) n size (omega (arith, long))) ∙ ap length (part_records t)

  -- the records of t modes and of the first k places of the next
  abbrev so_far : ℕ → ℕ → List Record
  so_far t k = laid_out tables n t ++ records_in (part t) n k

  -- these w records are laid out
  pub record Filling (t k : ℕ) (l : List Record) (w : ℕ) : Type 0 where
    pub room : length l ≡ 4608
    pub laid : Laid (so_far t k) l
    pub count : w ≡ length (so_far t k)

  pub fill_none : (l : List Record) → length l ≡ 4608 → Filling 0 0 l 0
  unfolding laid_out records_in
  fill_none l room = record { room = room; laid = λ i h. absurd (omega arith); count = refl }

  -- the list has room for the record of a place of a mode's part
  pub fill_room : (t m k : ℕ) (l : List Record) (w : ℕ) → n ≤ 12 → m ≤ 8 → m * size ≤ length tables → t < m → Filling t k l w → k < length (part t) → w < 4608
  fill_room t m k l w few_events few_modes long below f inside =
      let z = sizes t m n few_events few_modes below in
      omega (
        arith,
        f.count,
        length-append (laid_out tables n t) (records_in (part t) n k),
        laid_few tables n t,
        records_few (part t) n k,
        length_part t (omega (arith, z.part)),
        z.part,
        z.whole,
      )

  pub fill_skip : (t k : ℕ) (l : List Record) (w : ℕ) (v : ℤ) → Filling t k l w → v ≡ get_or (part t) k (pos 0) → absent v ≡ true → Filling t (k + 1) l w
  fill_skip t k l w v f is there = let e = records_skip (part t) n k v is there in record { room = f.room; laid = rw e f.laid; count = rw e f.count }

  pub fill_put : (t k : ℕ) (l : List Record) (w : ℕ) (v : ℤ) (a : Record) → Filling t k l w → v ≡ get_or (part t) k (pos 0) → absent v ≡ false → a ≡ from_place n k v → w < 4608
      → Filling t (k + 1) (set l w a) (w + 1)
  fill_put t k l w v a f is there made small =
      let one : so_far t (k + 1) ≡ so_far t k ++ a ∷ [] = rw (records_one (part t) n k v is there, made) (sym (append_assoc (laid_out tables n t) (records_in (part t) n k) (from_place n k v ∷ []))) in
      record {
        room = length-set l w a ∙ f.room;
        laid = rw one (put (so_far t k) l w a f.laid f.count (omega (arith, f.room)));
        count = rw one (omega (arith, f.count, length-append (so_far t k) (a ∷ [])));
      }

  -- a mode is done where its part ends
  pub fill_mode : (t m k : ℕ) (l : List Record) (w : ℕ) → n ≤ 12 → m ≤ 8 → m * size ≤ length tables → t < m → Filling t k l w → k ≤ length (part t) → length (part t) ≤ k → Filling (t + 1) 0 l w
  unfolding laid_out records_in
  fill_mode t m k l w few_events few_modes long below f most least =
      let z = sizes t m n few_events few_modes below in
      let e : k ≡ size = omega (arith, length_part t (omega (arith, z.part)), most, least) in
      let whole : so_far (t + 1) 0 ≡ so_far t k = append-nil (laid_out tables n (t + 1)) ∙ rw (add-one t, e) (ap (λ (rs : List Record). laid_out tables n t ++ rs) (sym (part_records t))) in
      record { room = f.room; laid = rw whole f.laid; count = rw whole f.count }

  pub fill_done : (t m : ℕ) (l : List Record) (w : ℕ) → Filling t 0 l w → t ≤ m → m ≤ t → Laid (laid_out tables n m) l
  unfolding records_in
  fill_done t m l w f most least = let e : t ≡ m = le_antisymm most least in rw (← e, ← append-nil (laid_out tables n t)) f.laid

  -- ---- the modes' parts

  -- what stands among the records of a modes stays
  laid_kept : (a d i : ℕ) → i < length (laid_out tables n a) → (i < length (laid_out tables n (a + d))) × (listed (laid_out tables n (a + d)) i ≡ listed (laid_out tables n a) i)
  unfolding laid_out
  laid_kept a zero i h = let e : a + 0 ≡ a = omega arith in rw e (h, refl)
  laid_kept a (suc d) i h =
      let r = laid_kept a d i h in
      let before = laid_out tables n (a + d) in
      let more = mode_records tables n (a + d) in
      let e : a + suc d ≡ suc (a + d) = omega arith in
      rw e (omega (arith, r.0, length-append before more), get_or-append before more blank i r.0 ∙ r.1)

  -- the records of mode t stand from start t on
  pub record Modes (l : List Record) (start : List ℕ) (m : ℕ) : Type 0 where
    pub first : get_or start 0 0 ≡ 0
    pub next : (t : ℕ) → t < m → get_or start (suc t) 0 ≡ get_or start t 0 + length (mode_records tables n t)
    pub inside : (t i : ℕ) → t < m → i < length (mode_records tables n t) → listed l (get_or start t 0 + i) ≡ listed (mode_records tables n t) i
    pub few : (t : ℕ) → t ≤ m → get_or start t 0 ≤ t * size

  module _ (start : List ℕ) (m : ℕ) (begins : Starts tables n start m) where
    -- THEOREM: the list is the modes' records, each mode's from its start on
    pub modes : (l : List Record) → Laid (laid_out tables n m) l → Modes l start m
    unfolding laid_out
    modes l laid =
        record {
          first = begins 0 (omega arith);
          next = λ t h. begins (suc t) h ∙ length-append (laid_out tables n t) (mode_records tables n t) ∙ ap (λ (x : ℕ). x + length (mode_records tables n t)) (sym (begins t (omega arith)));
          inside = λ t i h k.
              let before = laid_out tables n t in
              let mine = mode_records tables n t in
              let r = rest t h (length before + i) (omega (arith, length-append before mine)) in
              ap (λ (x : ℕ). listed l (x + i)) (begins t (omega arith)) ∙ laid (length before + i) r.0 ∙ r.1 ∙ get_or-append-add before mine i blank;
          few = λ t h. omega (arith, begins t h, laid_few tables n t);
        }
      where
        rest : (t : ℕ) → t < m → (i : ℕ) → i < length (laid_out tables n (suc t)) → (i < length (laid_out tables n m)) × (listed (laid_out tables n m) i ≡ listed (laid_out tables n (suc t)) i)
        rest t h i k = let e : suc t + (m - suc t) ≡ m = omega arith in rw e at (laid_kept (suc t) (m - suc t) i k)
