-- The reader's outcomes, and that it has one on each file.
use mathlib.Core.Path.{◌≡◌, sym, ap, ap₂, ◌∙◌}
use mathlib.Core.Bool.{true, false}
use mathlib.Core.List.{List, [], ◌∷◌}
use Prim.Native.Nat.{ℕ}
use borrow.Author.Tests.{leb-true}
use lib.Dec.{leb}
use lib.IntN.{ℤ}
use lib.ListN.{length}
use Rattle.std.specs.Prelude.{Result, Ok, Err}
use Rattle.numbers.specs.Groups.{bad}
use Rattle.numbers.specs.Groups.{Refusal}
use Rattle.numbers.specs.Refusals.{said}
use Rattle.numbers.specs.declared.refusals.Refusal as code
use Rattle.numbers.proofs.Reasons.{one_refusal}
use Rattle.tables.specs.Sheets.{Sheet, places}
use Rattle.tables.proofs.Laws.{both}
use Rattle.sheet.specs.File.{got, refused, sheet_in}
use Rattle.tables.specs.Answers.{Answer, answer}
use Rattle.sheet.proofs.Sets.{front}
use Rattle.sheet.proofs.Sheets.{sheeted}
use Rattle.reader.specs.Answers.{answer_read, Reading, roomy, unread, read_of, Reads}
use Rattle.reader.specs.Steps.{Fills}
use Rattle.reader.specs.declared.Counts.{Counts}

module _ (file : List ℕ) (t₀ : List ℤ) (s₀ : List ℕ) where
  pub reads_refused : (r : Result Counts code.Refusal) (why : code.Refusal) → r ≡ Err why → sheet_in file ≡ refused (said why) → Reads file t₀ s₀ r t₀ s₀
  reads_refused r why e h = rw (e, h)

  module _ (s : Sheet) (next : ℕ) (h : sheet_in file ≡ got s next) where
    pub reads_short : roomy s t₀ s₀ ≡ false → unread (bad 9 0) t₀ s₀ ≡ read_of (sheet_in file) t₀ s₀
    reads_short short = rw (h, short)

    pub reads_done : (r : Result Counts code.Refusal) (t : List ℤ) (v : List ℕ) → roomy s t₀ s₀ ≡ true → Fills (sheet_in file) t₀ s₀ r t v → Reads file t₀ s₀ r t v
    unfolding Fills
    reads_done r t v room f =
        let d = sheeted file s next h in
        let q = rw h at f in
        let b = both (leb (places s.n s.m) (length t₀)) (leb s.positions (length s₀)) room in
        let g = leb-true (places s.n s.m) (length t₀) b.0 in
        let l = leb-true s.positions (length s₀) b.1 in
        rw (h, room, q.0, q.1, q.2, front t₀ s.tables (places s.n s.m) d.long_tables g, front s₀ s.schedule s.positions d.long_schedule l)

-- ---- one outcome
-- number and place are all of a refusal
pub same_refusal : (j k : Refusal) → answer j.number (j.at ∷ []) ≡ answer k.number (k.at ∷ []) → j ≡ k
same_refusal j k e =
    let q : j.at ∷ [] ≡ k.at ∷ [] = ap (λ (t : Answer). t.values) e in
    let p : j.at ≡ k.at = cc in
    ap₂ bad (ap (λ (t : Answer). t.number) e) p

answer_read_lem : (a b : Result Counts code.Refusal) → answer_read a ≡ answer_read b → a ≡ b
answer_read_lem (Ok c) (Ok d) e =
    let q : c.n ∷ c.m ∷ c.positions ∷ [] ≡ d.n ∷ d.m ∷ d.positions ∷ [] = ap (λ (t : Answer). t.values) e in
    let n : c.n ≡ d.n = cc in
    let m : c.m ≡ d.m = cc in
    let p : c.positions ≡ d.positions = cc in
    ap Ok (same_counts n m p)
  where
    same_counts : {c d : Counts} → c.n ≡ d.n → c.m ≡ d.m → c.positions ≡ d.positions → c ≡ d
    same_counts {c} {d} n m p = ap (λ (x : ℕ). made x c.m c.positions) n ∙ ap₂ (λ (x y : ℕ). made d.n x y) m p
      where
        made : ℕ → ℕ → ℕ → Counts
        made n m positions = record { n = n; m = m; positions = positions }
answer_read_lem (Ok c) (Err k) e = let q : c.n ∷ c.m ∷ c.positions ∷ [] ≡ k.at ∷ [] = ap (λ (t : Answer). t.values) e in cc
answer_read_lem (Err k) (Ok c) e = let q : k.at ∷ [] ≡ c.n ∷ c.m ∷ c.positions ∷ [] = ap (λ (t : Answer). t.values) e in cc
answer_read_lem (Err j) (Err k) e = ap Err (one_refusal j k (same_refusal (said j) (said k) e))

-- THEOREM: two outcomes of reading the same bytes are equal: the answer and both buffers
pub reads_unique : (file : List ℕ) (t₀ : List ℤ) (s₀ : List ℕ) (a b : Result Counts code.Refusal) (t u : List ℤ) (v w : List ℕ) → Reads file t₀ s₀ a t v → Reads file t₀ s₀ b u w → (a ≡ b) × (t ≡ u) × (v ≡ w)
reads_unique file t₀ s₀ a b t u v w p q =
    let e = p ∙ sym q in (answer_read_lem a b (ap (λ (r : Reading). r.answer) e), ap (λ (r : Reading). r.tables) e, ap (λ (r : Reading). r.schedule) e)
