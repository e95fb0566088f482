-- Two verdicts on the same bytes and cycle time are equal.
use mathlib.Core.Path.{◌≡◌, sym, ◌∙◌}
use mathlib.Core.Logic.{inl, inr}
use mathlib.Core.Bool.{Bool, true, false}
use mathlib.Core.List.{List}
use Prim.Native.Nat.{ℕ}
use Rattle.tables.specs.Sheets.{Sheet, timed}
use Rattle.sheet.specs.File.{Part, got, refused, sheet_in}
use Rattle.calls.specs.Host.{Answers, AnswersPart, Verdict}

answers_same : (t : Bool) (s : Sheet) (p q a b : ℕ) → Answers t s p q a → Answers t s p q b → a ≡ b
answers_same true s p q a b (inl x) (inl y) = x.0 ∙ sym y.0
answers_same true s p q a b (inl x) (inr y) = absurd (y.1 x.1)
answers_same true s p q a b (inr x) (inl y) = absurd (x.1 y.1)
answers_same true s p q a b (inr x) (inr y) = x.0 ∙ sym y.0
answers_same false s p q a b x y = x ∙ sym y

part_same : (w : Part Sheet) (p q a b : ℕ) → AnswersPart w p q a → AnswersPart w p q b → a ≡ b
part_same (got s next) p q a b x y = answers_same (timed p q) s p q a b x y
part_same (refused why) p q a b x y = x ∙ sym y

-- THEOREM: the number is determined
pub verdict_same : (file : List ℕ) (p q a b : ℕ) → Verdict file p q a → Verdict file p q b → a ≡ b
verdict_same file p q a b x y = part_same (sheet_in file) p q a b x y
