-- What the call answers, as document 01 has it: "Where an answer is an enum, a definition gives this paper's number and values for each case."
use Rattle.std.specs.Prelude.{◌≡◌, true, List, [], ◌∷◌, map, ℕ, ◌*◌, ◌≤◌, length, Option, None, Some, Result, Ok, Err}
use Rattle.theory.specs.Arcs.{Arc, Works}
use Rattle.theory.specs.Ends as theory
use Rattle.theory.specs.Found.{Low}
use Rattle.tables.specs.Sheets.{Sheet}
use Rattle.tables.specs.Answers.{Answer, answer}
use Rattle.windows.specs.Inequalities.{Runs}
use Rattle.windows.specs.Arcs.{nodes, arcs}
use Rattle.windows.specs.Circuits.{Step, step_arc}
use Rattle.calls.specs.Circuits.{onto, CircuitOrNone}
use Rattle.calls.specs.Ends.{roomy}
use Rattle.search.specs.Searches.{LowStands}
use Rattle.numbers.specs.declared.refusals.Reason.{Reason}
use Rattle.numbers.specs.Refusals.{number_of}
use Rattle.ends.specs.declared.Ended.{Ended}
use Rattle.ends.specs.declared.Ended.TheVariants as code
use Rattle.search.specs.declared.Stand.{Stand}

-- 0, "ends found", with low's top and bottom, high's where it is not open, and the two arc counts
abbrev pub answer_found : Stand → Option Stand → Answer
answer_found low None = answer 0 (low.time.top ∷ low.time.bottom ∷ low.arcs ∷ 0 ∷ [])
answer_found low (Some high) = answer 0 (low.time.top ∷ low.time.bottom ∷ high.time.top ∷ high.time.bottom ∷ low.arcs ∷ high.arcs ∷ [])

-- 101, "none", with the two arc counts
abbrev pub ended : Ended → Answer
ended (code.Found low high) = answer_found low high
ended (code.None none) = answer 101 (none.first ∷ none.second ∷ [])

-- "Numbers 1 to 10 return only the number"
abbrev pub answer_ended : Result Ended Reason → Answer
answer_ended (Ok e) = ended e
answer_ended (Err r) = answer (number_of r) []

-- the highest cycle time that is named
abbrev pub highest : Option Stand → theory.High
highest None = theory.open_end
highest (Some at) = theory.up_to at.time.top at.time.bottom

-- the arc count of its circuit; where there is none, 0
abbrev pub arcs_of : Option Stand → ℕ
arcs_of None = 0
arcs_of (Some at) = at.arcs

-- ---- what the private steps promise each other, of an admitted sheet

-- there is room for two circuits, where they are found and where they go
pub record FindReady (s : Sheet) (low found first second : List ℕ) : Type 0 where
  pub has_room : roomy s first second ≡ true
  pub low_room : length low ≡ 768
  pub found_room : length found ≡ 768

-- low is known, with its circuit
pub record LowReady (s : Sheet) (at : Stand) (low found first second : List ℕ) : Type 0 where
  pub has_room : roomy s first second ≡ true
  pub works : Works (arcs s) at.time.top at.time.bottom
  pub stands : LowStands s at low found

-- low is known, and its circuit handed over
pub record HighReady (s : Sheet) (at : Stand) (room found second : List ℕ) : Type 0 where
  pub works : Works (arcs s) at.time.top at.time.bottom
  pub circuit : List Arc
  pub low : Low (nodes s) 1000000 s.n (arcs s) at.time.top at.time.bottom circuit
  pub high_room : length room ≡ 768
  pub found_room : length found ≡ 768
  pub second_room : 4 * nodes s ≤ length second

-- high is known too, with its circuit
pub record HighFound (s : Sheet) (at : Stand) (second₀ : List ℕ) (r : Option Stand) (second : List ℕ) : Type 0 where
  pub range : theory.Range (Runs s) at.time.top at.time.bottom (highest r)
  pub high_small : (c d : ℕ) → highest r ≡ theory.up_to c d → d ≤ s.n
  pub steps : List Step
  pub counted : length steps ≡ arcs_of r
  pub circuit : CircuitOrNone s steps
  pub written : second ≡ onto steps second₀
  pub shown : theory.HighShown (arcs s) (highest r) (map (step_arc s) steps)
