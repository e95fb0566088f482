-- What was read is written, as a caller sees it: what the reader answered and left, handed to the writer; and what a refusal says.
use mathlib.Core.Path.{◌≡◌, refl, sym, ap, ap₂, ◌∙◌}
use mathlib.Core.Bool.{Bool, true, false, cond, ◌&&◌}
use mathlib.Core.List.{List, [], ◌∷◌, ◌++◌}
use Prim.Native.Nat.{ℕ, ◌≤◌}
use native.Mathlib.Omega.{arith}
use borrow.Author.Tests.{le-leb}
use lib.IntN.{ℤ}
use lib.Dec.{leb}
use lib.ListN.{length, drop}
use Rattle.std.specs.Prelude.{Ok, Err}
use Rattle.numbers.specs.Groups.{bad, Bytes}
use Rattle.numbers.specs.Refusals.{said}
use Rattle.numbers.specs.declared.refusals.Refusal as code
use Rattle.tables.specs.Sheets.{Sheet, sheet, places, refusal}
use Rattle.tables.proofs.Laws.{few_places}
use Rattle.sheet.specs.File.{Part, got, refused, sheet_in}
use Rattle.sheet.specs.Written.{written}
use Rattle.sheet.proofs.Sheets.{sheeted}
use Rattle.sheet.proofs.Admitted.{read_admitted}
use Rattle.sheet.proofs.Back.{write_read}
use Rattle.sheet.proofs.Surplus.{surplus_written, surplus_admitted}
use Rattle.reader.specs.Answers.{answer_read, Reading, reading, roomy, unread, read_of, Reads}
use Rattle.reader.specs.declared.Counts.{Counts}
use Rattle.reader.proofs.Outcomes.{same_refusal}

-- ---- what "done" says of the reader
pub record DoneRead (file : List ℕ) (t₀ : List ℤ) (v₀ : List ℕ) (c : Counts) (t : List ℤ) (v : List ℕ) : Type 0 where
  pub tables : List ℤ
  pub schedule : List ℕ
  pub next : ℕ
  pub is : sheet_in file ≡ got (sheet c.n c.m c.positions tables schedule) next
  pub left_tables : t ≡ tables ++ drop (places c.n c.m) t₀
  pub left_schedule : v ≡ schedule ++ drop c.positions v₀
  pub room : (leb (places c.n c.m) (length t₀) && leb c.positions (length v₀)) ≡ true

pub done_read : (file : List ℕ) (t₀ : List ℤ) (v₀ : List ℕ) (c : Counts) (t : List ℤ) (v : List ℕ) → Reads file t₀ v₀ (Ok c) t v → DoneRead file t₀ v₀ c t v
done_read file t₀ v₀ c t v e = part (sheet_in file) refl e
  where
    room : (s : Sheet) (next : ℕ) → sheet_in file ≡ got s next → (b : Bool) → roomy s t₀ v₀ ≡ b
        → reading (answer_read (Ok c)) t v
        ≡ cond b (reading (record { number = 0; values = s.n ∷ s.m ∷ s.positions ∷ [] }) (s.tables ++ drop (places s.n s.m) t₀) (s.schedule ++ drop s.positions v₀)) (unread (bad 9 0) t₀ v₀)
        → DoneRead file t₀ v₀ c t v
    room s next h true g e =
        let q : c.n ∷ c.m ∷ c.positions ∷ [] ≡ s.n ∷ s.m ∷ s.positions ∷ [] = ap (λ (r : Reading). r.answer.values) e in
        let x : s.n ≡ c.n = cc in
        let y : s.m ≡ c.m = cc in
        let z : s.positions ≡ c.positions = cc in
        record {
          tables = s.tables;
          schedule = s.schedule;
          next = next;
          is = h ∙ ap (λ (x : Sheet). got x next) (same s c.n c.m c.positions x y z);
          left_tables = ap (λ (r : Reading). r.tables) e ∙ ap₂ (λ (x y : ℕ). s.tables ++ drop (places x y) t₀) x y;
          left_schedule = ap (λ (r : Reading). r.schedule) e ∙ ap (λ (x : ℕ). s.schedule ++ drop x v₀) z;
          room = rw (sym x, sym y, sym z) g;
        }
      where
        same : (s : Sheet) (n m v : ℕ) → s.n ≡ n → s.m ≡ m → s.positions ≡ v → s ≡ sheet n m v s.tables s.schedule
        same s n m v a b c = ap (λ (k : ℕ). sheet k s.m s.positions s.tables s.schedule) a ∙ ap₂ (λ (x y : ℕ). sheet n x y s.tables s.schedule) b c
    room s next h false g e = absurd (omega (arith, ap (λ (r : Reading). length r.answer.values) e))

    part : (x : Part Sheet) → sheet_in file ≡ x → reading (answer_read (Ok c)) t v ≡ read_of x t₀ v₀ → DoneRead file t₀ v₀ c t v
    part (got s next) h e = room s next h (roomy s t₀ v₀) refl e
    part (refused r) h e = absurd (omega (arith, ap (λ (r : Reading). length r.answer.values) e))

-- THEOREM: what the reader left is admitted, and writing it gives the same bytes
pub write_back : (file : List ℕ) (t₀ : List ℤ) (v₀ : List ℕ) (c : Counts) (t : List ℤ) (v : List ℕ) → Bytes file → Reads file t₀ v₀ (Ok c) t v
    → (refusal (sheet c.n c.m c.positions t v) ≡ 0) × (written (sheet c.n c.m c.positions t v) ≡ file)
write_back file t₀ v₀ c t v f e =
    let d = done_read file t₀ v₀ c t v e in
    let s = sheet c.n c.m c.positions d.tables d.schedule in
    let k = sheeted file s d.next d.is in
    let a = surplus_admitted c.n c.m c.positions d.tables d.schedule k.long_tables k.long_schedule (drop (places c.n c.m) t₀) (drop c.positions v₀) (read_admitted file s d.next d.is) in
    let w = surplus_written c.n c.m c.positions d.tables d.schedule k.long_tables k.long_schedule (drop (places c.n c.m) t₀) (drop c.positions v₀) ∙ write_read file f s d.next d.is in
    let q = ap₂ (λ (x : List ℤ) (y : List ℕ). sheet c.n c.m c.positions x y) d.left_tables d.left_schedule in
    (ap refusal q ∙ a, ap written q ∙ w)

-- ---- what a refusal says
-- THEOREM: it alters nothing lent
pub refused_read : (file : List ℕ) (t₀ : List ℤ) (v₀ : List ℕ) (why : code.Refusal) (t : List ℤ) (v : List ℕ) → Reads file t₀ v₀ (Err why) t v → (t ≡ t₀) × (v ≡ v₀)
refused_read file t₀ v₀ why t v e = part (sheet_in file) e
  where
    room : (s : Sheet) (b : Bool)
        → reading (answer_read (Err why)) t v
        ≡ cond b (reading (record { number = 0; values = s.n ∷ s.m ∷ s.positions ∷ [] }) (s.tables ++ drop (places s.n s.m) t₀) (s.schedule ++ drop s.positions v₀)) (unread (bad 9 0) t₀ v₀) → (t ≡ t₀) × (v ≡ v₀)
    room s true e = absurd (omega (arith, ap (λ (r : Reading). length r.answer.values) e))
    room s false e = (ap (λ (r : Reading). r.tables) e, ap (λ (r : Reading). r.schedule) e)

    part : (x : Part Sheet) → reading (answer_read (Err why)) t v ≡ read_of x t₀ v₀ → (t ≡ t₀) × (v ≡ v₀)
    part (got s next) e = room s (roomy s t₀ v₀) e
    part (refused j) e = (ap (λ (r : Reading). r.tables) e, ap (λ (r : Reading). r.schedule) e)

-- THEOREM: with room for the largest sheet it is the file's own
pub refused_file : (file : List ℕ) (t₀ : List ℤ) (v₀ : List ℕ) (why : code.Refusal) (t : List ℤ) (v : List ℕ) → 4608 ≤ length t₀ → 16 ≤ length v₀ → Reads file t₀ v₀ (Err why) t v → sheet_in file ≡ refused (said why)
refused_file file t₀ v₀ why t v a b e = part (sheet_in file) refl e
  where
    part : (x : Part Sheet) → sheet_in file ≡ x → reading (answer_read (Err why)) t v ≡ read_of x t₀ v₀ → sheet_in file ≡ refused (said why)
    part (got s next) h e =
        let c = (sheeted file s next h).count in
        let l = le-leb (places s.n s.m) (length t₀) (omega (arith, few_places s.n s.m c.few_events c.few_modes)) in
        let g = le-leb s.positions (length v₀) (omega (arith, c.few_positions)) in
        absurd (omega (arith, ap (λ (r : Reading). length r.answer.values) (rw (l, g) at e)))
    part (refused j) h e = h ∙ ap refused (sym (same_refusal (said why) j (ap (λ (r : Reading). r.answer) e)))
