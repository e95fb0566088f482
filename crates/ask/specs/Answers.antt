-- What the call answers, as document 01 has it: "Where an answer is an enum, a definition gives this paper's number and values for each case."
use Rattle.std.specs.Prelude.{Result, Ok, Err, List, [], ◌∷◌, ◌≡◌, ℕ, ◌*◌, ◌≤◌, ◌<◌, length}
use Rattle.numbers.specs.Refusals.{number_of}
use Rattle.numbers.specs.declared.refusals.Reason.{Reason}
use Rattle.tables.specs.Sheets.{Sheet}
use Rattle.tables.specs.Answers.{Answer, answer}
use Rattle.windows.specs.Circuits.{Step}
use Rattle.ask.specs.declared.Asked.{Asked}
use Rattle.ask.specs.declared.Asked.TheVariants as asked
use Rattle.calls.specs.Ask.{Accepts, Shows}
use Rattle.turns.specs.Rounds.{Filled}
use Rattle.circuits.specs.Ways.{Led, Traced}

-- 0, "accepted", with the rounds; 100, "refuted", with "its arc count"; "Numbers 1 to 10 return only the number"
abbrev pub answer_asked : Result Asked Reason → Answer
answer_asked (Ok (asked.Accepted rounds)) = answer 0 (rounds ∷ [])
answer_asked (Ok (asked.Refuted arcs)) = answer 100 (arcs ∷ [])
answer_asked (Err reason) = answer (number_of reason) []

-- ---- what the private steps promise each other

-- where all N rounds changed something, the way back leads to a circuit
abbrev pub LeadsBack : (row : List ℕ) → ℕ → ℕ → ℕ → ℕ → Type 0
LeadsBack row n positions rounds node = positions * n ≤ rounds → Led row n positions node

-- the times in the plan's places and nothing of the circuit, or the circuit's places and nothing of the plan
abbrev pub Finishes : (row : List ℕ) → ℕ → ℕ → ℕ → ℕ → List ℕ → List ℕ → List ℕ → Asked → List ℕ → List ℕ → Type 0
Finishes row n positions rounds node times plan₀ circuit₀ (asked.Accepted k) plan circuit =
    (k ≡ rounds) × (rounds < positions * n) × Filled times (positions * n) plan₀ plan × (circuit ≡ circuit₀)
Finishes row n positions rounds node times plan₀ circuit₀ (asked.Refuted count) plan circuit =
    (positions * n ≤ rounds) × Traced row n positions node circuit₀ circuit count × (plan ≡ plan₀)

-- the outcome where no refusal fits
abbrev pub Settles : Sheet → ℕ → ℕ → List ℕ → List ℕ → Asked → List ℕ → List ℕ → Type 0
Settles s p q plan₀ circuit₀ (asked.Accepted rounds) plan circuit = Accepts s p q plan₀ circuit₀ rounds plan circuit
Settles s p q plan₀ circuit₀ (asked.Refuted count) plan circuit = (steps : List Step) × (length steps ≡ count) × Shows s p q plan₀ circuit₀ steps plan circuit
