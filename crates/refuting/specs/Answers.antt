-- What the code answers for proposed arcs, in numbers: 11 is document 02's, and 103 to 107 are ours (docs/DECISIONS.md).
use Rattle.std.specs.Prelude.{List, [], ◌∷◌, ℕ, Result, Ok, Err}
use Rattle.numbers.specs.declared.refusals.Reason.{Reason}
use Rattle.numbers.specs.Refusals.{number_of}
use Rattle.tables.specs.Sheets.{Sheet}
use Rattle.tables.specs.Answers.{Answer, answer}
use Rattle.calls.specs.ProposedArcs.{Outcome}
use Rattle.refuting.specs.declared.ArcsHeld.{ArcsHeld}
use Rattle.refuting.specs.declared.ArcsHeld.TheVariants as held

-- the number, and 103 with the index of the first bad arc
abbrev pub answer_held : ArcsHeld → Answer
answer_held held.Accepted = answer 0 []
answer_held (held.Bad index) = answer 103 (index ∷ [])
answer_held held.NotClosed = answer 104 []
answer_held held.LeftTwice = answer 105 []
answer_held held.NotSmallest = answer 106 []
answer_held held.NotAbove = answer 107 []

-- or a refusal, by the number of its reason
abbrev pub answer_arcs : Result ArcsHeld Reason → Answer
answer_arcs (Ok h) = answer_held h
answer_arcs (Err reason) = answer (number_of reason) []

-- the outcome, by the code's answer
abbrev pub Held : Sheet → ℕ → ℕ → List ℕ → Result ArcsHeld Reason → Type 0
Held s p q list r = Outcome s p q list (answer_arcs r)
