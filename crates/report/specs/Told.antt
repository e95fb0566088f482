-- What the call answers, as document 01 has it: "Where an answer is an enum, a definition gives this paper's number and values for each case."
use Rattle.std.specs.Prelude.{ℕ, [], ◌∷◌, Result, Ok, Err}
use Rattle.numbers.specs.declared.refusals.Reason.{Reason}
use Rattle.numbers.specs.Refusals.{number_of}
use Rattle.tables.specs.Answers.{Answer, answer}

-- 0 with the text's length; "Numbers 1 to 10 return only the number"
abbrev pub answer_told : Result ℕ Reason → Answer
answer_told (Ok count) = answer 0 (count ∷ [])
answer_told (Err r) = answer (number_of r) []
