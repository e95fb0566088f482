-- What the reader leaves: the sheet in the first places, or, in room for the largest sheet, the file's own refusal.
use mathlib.Core.Path.{◌≡◌, sym, ap, ap₂, ◌∙◌, subst}
use mathlib.Core.Bool.{true}
use mathlib.Core.List.{List, ◌++◌}
use Prim.Native.Nat.{ℕ, ◌≤◌}
use lib.IntN.{ℤ}
use lib.ListN.{length, take, drop}
use lib.Seq.{take-append_seam}
use Rattle.std.specs.Prelude.{Result, Ok, Err}
use Rattle.numbers.specs.Refusals.{said}
use Rattle.numbers.specs.declared.refusals.Refusal as code
use Rattle.tables.specs.Sheets.{Sheet, sheet, places, refusal}
use Rattle.tables.specs.Admitted.{Sizes}
use Rattle.tables.proofs.Laws.{accepted}
use Rattle.sheet.specs.File.{got, refused, sheet_in}
use Rattle.sheet.proofs.Admitted.{read_admitted}
use Rattle.sheet.proofs.Sheets.{sheeted}
use Rattle.reader.specs.Answers.{roomy, Reads}
use Rattle.reader.specs.declared.Counts.{Counts}
use Rattle.reader.proofs.Trips.{done_read, refused_file}

-- the sheet that the first places hold
abbrev pub held : Counts → List ℤ → List ℕ → Sheet
held c tables schedule = sheet c.n c.m c.positions (take (places c.n c.m) tables) (take c.positions schedule)

-- it is the one of the bytes, and there was room for it
pub record Leaves (file : List ℕ) (tables₀ : List ℤ) (schedule₀ : List ℕ) (c : Counts) (tables : List ℤ) (schedule : List ℕ) : Type 0 where
  pub next : ℕ
  pub is : sheet_in file ≡ got (held c tables schedule) next
  pub room : roomy (held c tables schedule) tables₀ schedule₀ ≡ true

-- the first places of what begins with a list of that length
front : {A : Type 0} (k : ℕ) (xs ys : List A) → length xs ≡ k → take k (xs ++ ys) ≡ xs
front k xs ys e = subst (λ (j : ℕ). take j (xs ++ ys) ≡ xs) e (take-append_seam xs ys)

module _ (file : List ℕ) (tables₀ : List ℤ) (schedule₀ : List ℕ) (r : Result Counts code.Refusal) (tables : List ℤ) (schedule : List ℕ) where
  -- THEOREM: where the reader is done, the first places hold the sheet of the bytes
  pub read_leaves : (c : Counts) → r ≡ Ok c → Reads file tables₀ schedule₀ r tables schedule → Leaves file tables₀ schedule₀ c tables schedule
  read_leaves c e h =
      let d = done_read file tables₀ schedule₀ c tables schedule (subst (λ (x : Result Counts code.Refusal). Reads file tables₀ schedule₀ x tables schedule) e h) in
      let k = sheeted file _ d.next d.is in
      let x : take (places c.n c.m) tables ≡ d.tables = ap (λ (l : List ℤ). take (places c.n c.m) l) d.left_tables ∙ front (places c.n c.m) d.tables (drop (places c.n c.m) tables₀) k.long_tables in
      let y : take c.positions schedule ≡ d.schedule = ap (λ (l : List ℕ). take c.positions l) d.left_schedule ∙ front c.positions d.schedule (drop c.positions schedule₀) k.long_schedule in
      record {
        next = d.next;
        is = d.is ∙ ap₂ (λ (x : List ℤ) (y : List ℕ). got (sheet c.n c.m c.positions x y) d.next) (sym x) (sym y);
        room = d.room;
      }

  -- THEOREM: where the reader refuses, and has room for the largest sheet, that is the file's own refusal
  pub read_refused : 4608 ≤ length tables₀ → 16 ≤ length schedule₀ → (why : code.Refusal) → r ≡ Err why → Reads file tables₀ schedule₀ r tables schedule → sheet_in file ≡ refused (said why)
  read_refused long wide why e h = refused_file file tables₀ schedule₀ why tables schedule long wide (subst (λ (x : Result Counts code.Refusal). Reads file tables₀ schedule₀ x tables schedule) e h)

-- that sheet is admitted, and so it is small
module _ {file : List ℕ} {tables₀ : List ℤ} {schedule₀ : List ℕ} {c : Counts} {tables : List ℤ} {schedule : List ℕ} (h : Leaves file tables₀ schedule₀ c tables schedule) where
  pub leaves_admitted : refusal (held c tables schedule) ≡ 0
  leaves_admitted = read_admitted file _ _ h.is

  pub leaves_sizes : Sizes (held c tables schedule)
  leaves_sizes = (accepted _ leaves_admitted).size
