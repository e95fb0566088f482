-- What lending says to a caller: the sheet of the bytes, or a refusal, which in room for the largest sheet is the file's own.
use mathlib.Core.Path.{◌≡◌, refl, sym, ap, ◌∙◌}
use mathlib.Core.Bool.{Bool, true, false, cond}
use mathlib.Core.List.{List, [], ◌∷◌, ◌++◌}
use Prim.Native.Nat.{ℕ, ◌≤◌}
use native.Mathlib.Omega.{arith}
use borrow.Author.Tests.{le-leb}
use lib.IntN.{ℤ}
use lib.ListN.{length, take, drop}
use Rattle.std.specs.Prelude.{Result, Ok, Err}
use Rattle.numbers.specs.Groups.{Refusal, bad}
use Rattle.numbers.specs.Refusals.{said}
use Rattle.numbers.specs.declared.refusals.Refusal as code
use Rattle.tables.specs.Sheets.{Sheet, sheet, places, refusal}
use Rattle.tables.specs.Lent.{lent}
use Rattle.tables.specs.declared.sheets.Admitted.{Admitted}
use Rattle.tables.proofs.Laws.{few_places}
use Rattle.sheet.specs.File.{Part, got, refused, sheet_in}
use Rattle.sheet.proofs.Sheets.{sheeted}
use Rattle.reader.specs.Answers.{answer_read, Reading, reading, unread, read_of, roomy, Reads, lending, lent_of, Lends}
use Rattle.reader.specs.declared.Counts.{Counts}
use Rattle.reader.proofs.Outcomes.{same_refusal}
use Rattle.reader.proofs.Leaves.{read_leaves, leaves_admitted}

-- ---- the two ways of lending, by what the reader answered
module _ (file : List ℕ) (t₀ : List ℤ) (v₀ : List ℕ) (r : Result Counts code.Refusal) (t : List ℤ) (v : List ℕ) where
  module _ (c : Counts) (k : ℕ) (p : k ≡ places c.n c.m) (e : r ≡ Ok c) (h : Reads file t₀ v₀ r t v) where
    pub lends_admitted : refusal (sheet c.n c.m c.positions (take k t) (take c.positions v)) ≡ 0
    lends_admitted = rw p (leaves_admitted (read_leaves file t₀ v₀ r t v c e h))

    pub lends_held : Ok (sheet c.n c.m c.positions (take k t) (take c.positions v)) ≡ lent_of (sheet_in file) t₀ v₀
    lends_held = let l = read_leaves file t₀ v₀ r t v c e h in rw (p, l.is, l.room)

  pub lends_none : (why : code.Refusal) → r ≡ Err why → Reads file t₀ v₀ r t v → Lends file t₀ v₀ (Err why)
  lends_none why e h = part (sheet_in file) (rw e at h)
    where
      short : (s : Sheet) (b : Bool) → reading (answer_read (Err why)) t v
          ≡ cond b (reading (record { number = 0; values = s.n ∷ s.m ∷ s.positions ∷ [] }) (s.tables ++ drop (places s.n s.m) t₀) (s.schedule ++ drop s.positions v₀)) (unread (bad 9 0) t₀ v₀)
          → ◌≡◌ {A = Result Sheet Refusal} (Err (said why)) (cond b (Ok s) (Err (bad 9 0)))
      short s true e = absurd (omega (arith, ap (λ (z : Reading). length z.answer.values) e))
      short s false e = ap Err (same_refusal (said why) (bad 9 0) (ap (λ (z : Reading). z.answer) e))

      part : (x : Part Sheet) → reading (answer_read (Err why)) t v ≡ read_of x t₀ v₀ → ◌≡◌ {A = Result Sheet Refusal} (Err (said why)) (lent_of x t₀ v₀)
      part (got s next) e = short s (roomy s t₀ v₀) e
      part (refused j) e = ap Err (same_refusal (said why) j (ap (λ (z : Reading). z.answer) e))

-- ---- what lending says to a caller
-- the bytes are read as this sheet
pub record ReadAs (file : List ℕ) (s : Sheet) : Type 0 where
  pub next : ℕ
  pub is : sheet_in file ≡ got s next

module _ (file : List ℕ) (t₀ : List ℤ) (v₀ : List ℕ) where
  -- THEOREM: the sheet that is lent is the one of the bytes
  pub lends_sheet : (a : Admitted) → Lends file t₀ v₀ (Ok a) → ReadAs file (lent a.sheet)
  lends_sheet a h = part (sheet_in file) refl h
    where
      room : (s : Sheet) (next : ℕ) → sheet_in file ≡ got s next → (b : Bool) → ◌≡◌ {A = Result Sheet Refusal} (Ok (lent a.sheet)) (cond b (Ok s) (Err (bad 9 0))) → ReadAs file (lent a.sheet)
      room s next e true q = let z : s ≡ lent a.sheet = cc in record { next = next; is = e ∙ ap (λ (x : Sheet). got x next) z }
      room s next e false q = cc

      part : (x : Part Sheet) → sheet_in file ≡ x → ◌≡◌ {A = Result Sheet Refusal} (Ok (lent a.sheet)) (lent_of x t₀ v₀) → ReadAs file (lent a.sheet)
      part (got s next) e q = room s next e (roomy s t₀ v₀) q
      part (refused j) e q = cc

  -- THEOREM: with room for the largest sheet, a refusal is the file's own
  pub lends_refused : (why : code.Refusal) → 4608 ≤ length t₀ → 16 ≤ length v₀ → Lends file t₀ v₀ (Err why) → sheet_in file ≡ refused (said why)
  lends_refused why long wide h = part (sheet_in file) refl h
    where
      part : (x : Part Sheet) → sheet_in file ≡ x → ◌≡◌ {A = Result Sheet Refusal} (Err (said why)) (lent_of x t₀ v₀) → sheet_in file ≡ refused (said why)
      part (got s next) e q =
          let c = (sheeted file s next e).count in
          let l = le-leb (places s.n s.m) (length t₀) (omega (arith, few_places s.n s.m c.few_events c.few_modes)) in
          let g = le-leb s.positions (length v₀) (omega (arith, c.few_positions)) in
          absurd (apart s (rw (l, g) at q))
        where
          apart : (s : Sheet) → ◌≡◌ {A = Result Sheet Refusal} (Err (said why)) (Ok s) → ⊥
          apart s q = cc
      part (refused j) e q = let z : j ≡ said why = cc in e ∙ ap refused z

  -- THEOREM: two outcomes of lending are equal: the sheet that is lent, or the refusal
  pub lends_unique : (a b : Result Admitted code.Refusal) → Lends file t₀ v₀ a → Lends file t₀ v₀ b → lending a ≡ lending b
  lends_unique a b p q = p ∙ sym q
