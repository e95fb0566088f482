-- The call of the hoist controller's host, whole: "it hands over the sheet's bytes, p and q, and gets 0, 100, or the number of the refusal,
-- 1 to 8 first and then 10".
use Rattle.std.specs.Prelude.{◌≡◌, ◌⊎◌, Bool, true, false, List, ℕ}
use Rattle.tables.specs.Sheets.{Sheet, timed}
use Rattle.sheet.specs.File.{Part, got, refused, sheet_in}
use Rattle.windows.specs.Inequalities.{Runs}

-- 0 exactly if the cycle time works, 100 exactly if it does not; 10 where p or q is past its limit
abbrev pub Answers : Bool → Sheet → ℕ → ℕ → ℕ → Type 0
Answers true s p q r = ((r ≡ 0) × Runs s p q) ⊎ ((r ≡ 100) × (Runs s p q → ⊥))
Answers false s p q r = r ≡ 10

-- the file's own refusal comes first
abbrev pub AnswersPart : Part Sheet → ℕ → ℕ → ℕ → Type 0
AnswersPart (got s next) p q r = Answers (timed p q) s p q r
AnswersPart (refused why) p q r = r ≡ why.number

-- the outcome: the number, by the bytes, p and q
abbrev pub Verdict : List ℕ → ℕ → ℕ → ℕ → Type 0
Verdict file p q r = AnswersPart (sheet_in file) p q r
