-- What was written is read, as a caller sees it: what the writer answered and left, handed to the reader.
use mathlib.Core.Path.{◌≡◌, refl, sym, ap, ◌∙◌}
use mathlib.Core.Bool.{Bool, true, false, cond}
use mathlib.Core.List.{List, [], ◌∷◌, ◌++◌}
use Prim.Native.Nat.{ℕ, ◌≤◌}
use native.Mathlib.Omega.{arith}
use borrow.Author.Tests.{leb-true, eqb-true}
use lib.Dec.{leb, eqb}
use lib.ListN.{length, take, drop}
use lib.Seq.{take_at}
use Rattle.tables.specs.Sheets.{Sheet, exact, refusal}
use Rattle.sheet.specs.File.{got, sheet_in}
use Rattle.sheet.specs.Written.{written}
use Rattle.sheet.proofs.There.{read_written}
use Rattle.writer.specs.Answers.{Writing, writing, unwritten, write_into, Writes}
use Rattle.std.specs.Prelude.{Ok}

-- ---- what "done" says of the writer
pub record Wrote (s : Sheet) (out₀ : List ℕ) (k : ℕ) (out : List ℕ) : Type 0 where
  pub admitted : refusal s ≡ 0
  pub long : k ≡ length (written s)
  pub fits : k ≤ length out₀
  pub bytes : out ≡ written s ++ drop k out₀

pub done_written : (s : Sheet) (out₀ : List ℕ) (k : ℕ) (out : List ℕ) → Writes s out₀ (Ok k) out → Wrote s out₀ k out
done_written s out₀ k out e = judged (eqb (refusal s) 0) refl e
  where
    room : refusal s ≡ 0 → (b : Bool) → leb (length (written s)) (length out₀) ≡ b
        → writing (record { number = 0; values = k ∷ [] }) out ≡ cond b (writing (record { number = 0; values = length (written s) ∷ [] }) (written s ++ drop (length (written s)) out₀)) (unwritten 9 out₀) → Wrote s out₀ k out
    room a true q e =
        let v : k ∷ [] ≡ length (written s) ∷ [] = ap (λ (w : Writing). w.answer.values) e in
        let l : k ≡ length (written s) = cc in
        record { admitted = a; long = l; fits = omega (arith, leb-true (length (written s)) (length out₀) q); bytes = ap (λ (w : Writing). w.out) e ∙ ap (λ (j : ℕ). written s ++ drop j out₀) (sym l) }
    room a false q e = absurd (omega (arith, ap (λ (w : Writing). length w.answer.values) e))

    judged : (b : Bool) → eqb (refusal s) 0 ≡ b → writing (record { number = 0; values = k ∷ [] }) out ≡ cond b (write_into (written s) out₀) (unwritten (refusal s) out₀) → Wrote s out₀ k out
    judged true q e = room (eqb-true _ _ q) (leb (length (written s)) (length out₀)) refl e
    judged false q e = absurd (omega (arith, ap (λ (w : Writing). length w.answer.values) e))

-- THEOREM: reading what the writer left gives the sheet back, without its surplus
pub read_back : (s : Sheet) (out₀ : List ℕ) (k : ℕ) (out : List ℕ) → Writes s out₀ (Ok k) out → sheet_in (take k out) ≡ got (exact s) k
read_back s out₀ k out e =
    let w = done_written s out₀ k out e in
    ap sheet_in (ap (take k) w.bytes ∙ take_at (written s) (drop k out₀) k (sym w.long)) ∙ read_written s w.admitted ∙ ap (got (exact s)) (sym w.long)
