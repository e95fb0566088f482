-- The verdict, by what the file was read as: a refused file has its own number, and of a sheet Ask's answer counts.
-- What Ask answers of an admitted sheet, in room for 192 nodes, is the verdict: only p and q can be refused.
use mathlib.Core.Path.{◌≡◌, refl, sym, ◌∙◌, subst}
use mathlib.Core.Logic.{inl, inr}
use mathlib.Core.Bool.{Bool, true, false}
use mathlib.Core.List.{List}
use Prim.Native.Nat.{ℕ}
use native.Mathlib.Omega.{arith}
use lib.ListN.{length}
use Rattle.numbers.specs.Groups.{Refusal}
use Rattle.tables.specs.Sheets.{Sheet, timed, refusal, unless}
use Rattle.tables.specs.Answers.{Answer}
use Rattle.tables.proofs.Answers.{number_same}
use Rattle.tables.specs.Admitted.{Admitted}
use Rattle.tables.proofs.Laws.{accepted}
use Rattle.sheet.specs.File.{Part, got, refused, sheet_in}
use Rattle.windows.proofs.Steps.{never_both}
use Rattle.calls.proofs.Ask.Room.{room}
use Rattle.calls.specs.Ask as ask
use Rattle.calls.specs.Ask.{Outcome, ask_refusal, planned}
use Rattle.calls.specs.Host.{Answers, AnswersPart, Verdict}

module _ (s : Sheet) (p q : ℕ) (plan₀ circuit₀ : List ℕ) (admitted : refusal s ≡ 0) where
  ok : Admitted s
  ok = accepted s admitted

  refusals : length plan₀ ≡ 192 → length circuit₀ ≡ 768 → ask_refusal s p q plan₀ circuit₀ ≡ unless (timed p q) 10 0
  refusals long wide = rw (admitted, room s admitted plan₀ circuit₀ long wide)

  by_time : (t : Bool) (a : Answer) (plan circuit : List ℕ) → ask_refusal s p q plan₀ circuit₀ ≡ unless t 10 0 → Outcome s p q plan₀ circuit₀ a plan circuit → Answers t s p q a.number
  by_time true a plan circuit e (ask.accepted rounds is none o) = inl (number_same is, (planned s p q plan, o.plan_is.solves))
  by_time true a plan circuit e (ask.refuted steps is none o) = inr (number_same is, λ x. never_both s ok.size.some_positions p q x.0 x.1 steps o.refutes)
  by_time true a plan circuit e (ask.refused k is fits some same same') = absurd (some (sym fits ∙ e))
  by_time false a plan circuit e (ask.accepted rounds is none o) = absurd (omega (arith, e, none))
  by_time false a plan circuit e (ask.refuted steps is none o) = absurd (omega (arith, e, none))
  by_time false a plan circuit e (ask.refused k is fits some same same') = number_same is ∙ sym fits ∙ e

  -- THEOREM: the number of Ask's answer is the verdict on a sheet that was read
  pub answers : length plan₀ ≡ 192 → length circuit₀ ≡ 768 → (a : Answer) (plan circuit : List ℕ) → Outcome s p q plan₀ circuit₀ a plan circuit → Answers (timed p q) s p q a.number
  answers long wide a plan circuit o = by_time (timed p q) a plan circuit (refusals long wide) o

-- "1 to 8 first": a refused file has its own number, whatever p and q are
pub refused_first : (file : List ℕ) (p q : ℕ) (why : Refusal) → sheet_in file ≡ refused why → Verdict file p q why.number
refused_first file p q why e = subst (λ (x : Part Sheet). AnswersPart x p q why.number) (sym e) refl

-- a file that is read is answered as its sheet is
pub read_answered : (file : List ℕ) (s : Sheet) (next p q r : ℕ) → sheet_in file ≡ got s next → Answers (timed p q) s p q r → Verdict file p q r
read_answered file s next p q r e a = subst (λ (x : Part Sheet). AnswersPart x p q r) (sym e) a
