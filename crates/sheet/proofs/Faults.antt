-- What is refused, at the place of its refusal: a number that cannot be read, or what is judged when it is read.
-- Whole numbers lie before it, and so it is at no other place: a number that cannot be read ends all numbers, and what is judged is counted back from its end.
use mathlib.Core.Path.{◌≡◌, sym, subst}
use mathlib.Core.Bool.{cond}
use mathlib.Core.List.{List}
use Prim.Native.Nat.{ℕ, ◌+◌, ◌≤◌}
use native.Mathlib.Omega.{arith}
use lib.Dec.{eqb}
use lib.ListN.{length, take}
use lib.Seq.{length-take-le}
use Rattle.numbers.specs.Groups.{number_at}
use Rattle.numbers.specs.Groups.{Refusal}
use Rattle.numbers.specs.Groups.{Refused}
use Rattle.sheet.proofs.Runs.{Run, Whole, run_rises, run_inside, run_back, one_end, one_refused, one_start}

-- how many numbers are judged in one: for 7 the four of a record
abbrev pub together : ℕ → ℕ
together k = cond (eqb k 7) 4 1

-- what is judged, from the place of its refusal up to an end: for 3 to 6 a number, for 7 a record, for 8 a byte
pub data Judged (file : List ℕ) (r : Refusal) (end : ℕ) : Type 0 where
  numbers : 3 ≤ r.number → r.number ≤ 7 → Run file r.at (together r.number) end → Judged file r end
  byte : r.number ≡ 8 → end ≡ r.at + 1 → end ≤ length file → Judged file r end

-- what is refused: for 1 and 2 the number there cannot be read, and else the file is as `So` says up to the end of what is judged there
pub data Fault (file : List ℕ) (r : Refusal) (So : ℕ → Type 0) : Type 0 where
  unread : r.number ≤ 2 → number_at file r.at ≡ Refused r → Fault file r So
  judged : (end : ℕ) → Judged file r end → So end → Fault file r So

module _ {file : List ℕ} {r : Refusal} {end : ℕ} where
  pub judged_number : Judged file r end → 3 ≤ r.number
  judged_number (numbers l h p) = l
  judged_number (byte n p i) = omega arith

  pub judged_rises : Judged file r end → r.at ≤ end
  judged_rises (numbers l h p) = run_rises p
  judged_rises (byte n p i) = omega arith

  pub judged_inside : r.at ≤ length file → Judged file r end → end ≤ length file
  judged_inside g (numbers l h p) = run_inside g p
  judged_inside g (byte n p i) = i

  -- what is judged in a front is judged in the file
  pub judged_back : {j : ℕ} → j ≤ length file → Judged (take j file) r end → Judged file r end
  judged_back g (numbers l h p) = numbers l h (run_back g p)
  judged_back {j} g (byte n p i) = byte n p (omega (arith, length-take-le j file g))

  -- and has one end
  pub judged_end : {last : ℕ} → Judged file r end → Judged file r last → end ≡ last
  judged_end (numbers l h p) (numbers m i q) = one_end p q
  judged_end (numbers l h p) (byte n e i) = absurd (omega arith)
  judged_end (byte n e i) (numbers l h p) = absurd (omega arith)
  judged_end (byte n e i) (byte m d j) = omega arith

module _ {file : List ℕ} {r : Refusal} {So : ℕ → Type 0} where
  -- what else holds up to the end
  pub fault_of : {Also : ℕ → Type 0} → ((end : ℕ) → Judged file r end → So end → Also end) → Fault file r So → Fault file r Also
  fault_of f (unread n e) = unread n e
  fault_of f (judged end p s) = judged end p (f end p s)

  -- what is refused by 3 to 8 is judged,
  pub fault_judged : 3 ≤ r.number → Fault file r So → (end : ℕ) × Judged file r end × So end
  fault_judged l (unread n e) = absurd (omega arith)
  fault_judged l (judged end p s) = (end, p, s)

  -- and so it is up to its end
  pub fault_at : {end : ℕ} → Judged file r end → Fault file r So → So end
  fault_at p f = let g = fault_judged (judged_number p) f in subst So (judged_end g.1 p) g.2

  -- after whole numbers it is at one place
  pub one_fault : (s : Refusal) → s.number ≡ r.number → ((a b : ℕ) → So a → So b → a ≡ b) → Whole file s.at → Whole file r.at → Fault file s So → Fault file r So → s.at ≡ r.at
  one_fault s n u v w (unread l d) (unread h e) = one_refused v w d e
  one_fault s n u v w (unread l d) (judged b q t) = absurd (omega (arith, judged_number q))
  one_fault s n u v w (judged a p t) (unread h e) = absurd (omega (arith, judged_number p))
  one_fault s n u v w (judged a p x) (judged b q y) = both p (subst (Judged file r) (u b a y x) q)
    where
      both : Judged file s a → Judged file r a → s.at ≡ r.at
      both (numbers l h p) (numbers m i q) = one_start v w p (subst (λ (k : ℕ). Run file r.at (together k) a) (sym n) q)
      both (numbers l h p) (byte m e i) = absurd (omega arith)
      both (byte m e i) (numbers l h p) = absurd (omega arith)
      both (byte m e i) (byte o d j) = omega arith

-- what is judged in a front ends in it
pub fault_within : {file : List ℕ} {r : Refusal} {So : ℕ → Type 0} {j end : ℕ} → j ≤ length file → r.at ≤ j → Judged file r end → Fault (take j file) r So → end ≤ j
fault_within {file} {j = j} g i p f =
    let h = fault_judged (judged_number p) f in
    let l = length-take-le j file g in
    omega (arith, judged_end p (judged_back g h.1), judged_inside (omega arith) h.1)
