-- The writer's outcomes, and that it has one on each sheet.
use mathlib.Core.Path.{◌≡◌, refl, sym, ap, ◌∙◌}
use mathlib.Core.List.{List, [], ◌∷◌}
use Prim.Native.Nat.{ℕ, ◌+◌, ◌≤◌, ◌<◌}
use native.Mathlib.Omega.{arith}
use borrow.Author.Tests.{ne_eqb, le-leb, lt-leb}
use lib.ListN.{length}
use Rattle.tables.specs.Sheets.{Sheet, refusal}
use Rattle.sheet.specs.Written.{sheet_numbers, written}
use Rattle.tables.specs.Answers.{Answer}
use Rattle.sheet.proofs.Sets.{front}
use Rattle.writer.specs.Answers.{answer_written, Writing, Writes}
use Rattle.writer.specs.Steps.{State, state, run}
use Rattle.std.specs.Prelude.{Result, Ok, Err}
use Rattle.numbers.specs.declared.refusals.Reason.{Reason}
use Rattle.numbers.specs.declared.refusals.Reason.TheVariants as reason
use Rattle.numbers.specs.Refusals.{number_of}
use Rattle.numbers.proofs.Reasons.{one_reason, numbered}

module _ (s : Sheet) (out : List ℕ) where
  pub writes_refused : (why : Reason) → number_of why ≡ refusal s → Writes s out (Err why) out
  writes_refused why e = rw (← e, ne_eqb (number_of why) 0 (λ none. omega (arith, (numbered why).0)))

  -- what a walk over the whole sheet gives
  pub walked_length : (k : ℕ) (was now : List ℕ) → state k now ≡ run was 0 (sheet_numbers s) → k ≡ length (written s)
  unfolding run written
  walked_length k was now e = ap (λ (x : State). x.next) e ∙ start (length (written s))
    where
      start : (n : ℕ) → 0 + n ≡ n
      start n = omega arith

  module _ (h : refusal s ≡ 0) where
    pub writes_short : (k : ℕ) (was now : List ℕ) → state k now ≡ run was 0 (sheet_numbers s) → length out < k → Writes s out (Err reason.Room) out
    writes_short k was now e l = rw (h, lt-leb (length (written s)) (length out) (omega (arith, walked_length k was now e)))

    pub writes_done : (k : ℕ) (now : List ℕ) → state k now ≡ run out 0 (sheet_numbers s) → length (written s) ≤ length out → Writes s out (Ok k) now
    unfolding run written
    writes_done k now e l =
        rw (h, le-leb (length (written s)) (length out) l, walked_length k out now e, ap (λ (x : State). x.out) e, front out (written s) (length (written s)) refl l)

-- ---- one outcome
answer_written_lem : (a b : Result ℕ Reason) → answer_written a ≡ answer_written b → a ≡ b
answer_written_lem (Ok n) (Ok x) e = let q : n ∷ [] ≡ x ∷ [] = ap (λ (t : Answer). t.values) e in cc
answer_written_lem (Ok n) (Err k) e = let q : n ∷ [] ≡ [] = ap (λ (t : Answer). t.values) e in cc
answer_written_lem (Err k) (Ok n) e = let q : [] ≡ n ∷ [] = ap (λ (t : Answer). t.values) e in cc
answer_written_lem (Err j) (Err k) e = ap Err (one_reason j k (ap (λ (t : Answer). t.number) e))

-- THEOREM: two outcomes of writing the same sheet are equal: the answer and the buffer
pub writes_unique : (s : Sheet) (out₀ : List ℕ) (a b : Result ℕ Reason) (u v : List ℕ) → Writes s out₀ a u → Writes s out₀ b v → (a ≡ b) × (u ≡ v)
writes_unique s out₀ a b u v p q = let e = p ∙ sym q in (answer_written_lem a b (ap (λ (r : Writing). r.answer) e), ap (λ (r : Writing). r.out) e)
