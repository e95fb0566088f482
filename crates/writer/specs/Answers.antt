-- The outcome of writing a sheet: the answer, and what the buffer holds after it.
use Rattle.std.specs.Prelude.{ℕ, ◌≡◌, cond, List, [], ◌∷◌, ◌++◌, leb, eqb, length, drop, Result, Ok, Err}
use Rattle.numbers.specs.declared.refusals.Reason.{Reason}
use Rattle.numbers.specs.Refusals.{number_of}
use Rattle.tables.specs.Sheets.{Sheet, refusal}
use Rattle.sheet.specs.Written.{written}
use Rattle.tables.specs.Answers.{Answer, answer}

-- 0, "done", with "the sheet's length"; or a refusal, by the number of its reason
abbrev pub answer_written : Result ℕ Reason → Answer
answer_written (Ok count) = answer 0 (count ∷ [])
answer_written (Err reason) = answer (number_of reason) []

-- what the writer leaves
pub record Writing : Type 0 where
  pub answer : Answer
  pub out : List ℕ

-- the answer and the buffer in one
abbrev pub writing : Answer → List ℕ → Writing
writing a out = record { answer = a; out = out }

-- a refusal "return[s] only the number and alter[s] nothing lent"
abbrev pub unwritten : ℕ → List ℕ → Writing
unwritten k out = writing (answer k []) out

-- "9 means exactly that the buffer is shorter than the sheet; it returns the sheet's length"
abbrev pub write_into : List ℕ → List ℕ → Writing
write_into bytes out =
    cond (leb (length bytes) (length out))
    (writing (answer 0 (length bytes ∷ [])) (bytes ++ drop (length bytes) out))
    (unwritten 9 out)

-- "The writer: 4, 5, 6, 9"
abbrev pub write_of : Sheet → List ℕ → Writing
write_of s out = cond (eqb (refusal s) 0) (write_into (written s) out) (unwritten (refusal s) out)

-- the outcome of writing: the answer and the buffer, by the sheet and the buffer before
abbrev pub Writes : Sheet → List ℕ → Result ℕ Reason → List ℕ → Type 0
Writes s out₀ answer out = writing (answer_written answer) out ≡ write_of s out₀
