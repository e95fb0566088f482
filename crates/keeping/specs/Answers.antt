-- What the code answers for proposed times, in numbers: 11 is document 02's, and 102 is ours (docs/DECISIONS.md).
use Rattle.std.specs.Prelude.{List, [], ◌∷◌, ℕ, ℤ, Result, Ok, Err}
use Rattle.numbers.specs.declared.refusals.Reason.{Reason}
use Rattle.numbers.specs.Refusals.{number_of}
use Rattle.tables.specs.Sheets.{Sheet}
use Rattle.tables.specs.Answers.{Answer, answer}
use Rattle.calls.specs.ProposedTimes.{Outcome}
use Rattle.keeping.specs.declared.TimesHeld.{TimesHeld}
use Rattle.keeping.specs.declared.TimesHeld.TheVariants.{Accepted, Broken}

-- accepted; or the first window broken, by 102 with position, kind, to and from
abbrev pub answer_held : TimesHeld → Answer
answer_held Accepted = answer 0 []
answer_held (Broken position kind to from) = answer 102 (position ∷ kind ∷ to ∷ from ∷ [])

-- or a refusal, by the number of its reason
abbrev pub answer_times : Result TimesHeld Reason → Answer
answer_times (Ok held) = answer_held held
answer_times (Err reason) = answer (number_of reason) []

-- the outcome, by the code's answer
abbrev pub Held : Sheet → ℕ → ℕ → List ℤ → Result TimesHeld Reason → Type 0
Held s p q times r = Outcome s p q times (answer_times r)
