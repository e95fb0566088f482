-- Ask, whole: what it answers and what it leaves in its two buffers, for every input (document 01, "Numbers a call can answer").
use Rattle.std.specs.Prelude.{◌≡◌, ◌≢◌, Bool, ◌&&◌, List, [], ◌∷◌, ℕ, ◌*◌, ◌≤◌, ◌<◌, leb, get_or, length, drop, pos, ◌≤ℤ◌}
use Rattle.theory.specs.Arcs.{Still, Rounds}
use Rattle.tables.specs.Sheets.{Sheet, timed, unless, refusal, otherwise}
use Rattle.tables.specs.Answers.{Answer, answer}
use Rattle.windows.specs.Windows.{Event}
use Rattle.windows.specs.Inequalities.{Times, Solves, FromZero}
use Rattle.windows.specs.Arcs.{node, nodes, continued, arcs}
use Rattle.windows.specs.Circuits.{Step, Refutes}
use Rattle.calls.specs.Circuits.{onto}

-- 9: "it needs N places for a plan and 4N for a circuit, both always"
abbrev pub roomy : Sheet → List ℕ → List ℕ → Bool
roomy s plan circuit = leb (nodes s) (length plan) && leb (4 * nodes s) (length circuit)

-- "Ask: 4, 5, 6, 10, 9"
abbrev pub ask_refusal : Sheet → ℕ → ℕ → List ℕ → List ℕ → ℕ
ask_refusal s p q plan circuit = otherwise (refusal s) (unless (timed p q) 10 (unless (roomy s plan circuit) 9 0))

module _ (s : Sheet) (p q : ℕ) where
  -- The times that a plan's N places name, over the endless schedule.
  abbrev pub planned : List ℕ → Times
  planned plan = continued s p (λ v. pos (get_or plan v 0))

  -- "The plan returned is the earliest: every time is at least 0 and no plan with times at least 0 has any time smaller."
  pub record Earliest (plan : List ℕ) : Type 0 where
    pub solves : Solves s p q (planned plan)
    pub earliest : (x : Times) → Solves s p q x → FromZero s x → (h i : ℕ) → 1 ≤ h → h ≤ s.positions → Event s i → pos (get_or plan (node s h i) 0) ≤ℤ x h i

  -- "Acceptance writes N plan places and nothing of the circuit."
  pub record Accepts (plan₀ circuit₀ : List ℕ) (rounds : ℕ) (plan circuit : List ℕ) : Type 0 where
    pub plan_is : Earliest plan
    pub rounds_are : Rounds (arcs s) p q (nodes s) rounds
    pub plan_length : length plan ≡ length plan₀
    pub plan_rest : drop (nodes s) plan ≡ drop (nodes s) plan₀
    pub circuit_same : circuit ≡ circuit₀

  -- "a refutation writes the circuit's places and no plan"
  pub record Shows (plan₀ circuit₀ : List ℕ) (steps : List Step) (plan circuit : List ℕ) : Type 0 where
    pub refutes : Refutes s p q steps
    pub circuit_is : circuit ≡ onto steps circuit₀
    pub plan_same : plan ≡ plan₀

-- The outcome: the answer and both buffers, by the sheet, p/q and the buffers before. An acceptance returns its rounds, a refutation "its arc
-- count", and "Numbers 1 to 10 return only the number and alter nothing lent".
pub data Outcome (s : Sheet) (p q : ℕ) (plan₀ circuit₀ : List ℕ) (a : Answer) (plan circuit : List ℕ) : Type 0 where
  accepted : (rounds : ℕ) → a ≡ answer 0 (rounds ∷ []) → ask_refusal s p q plan₀ circuit₀ ≡ 0 → Accepts s p q plan₀ circuit₀ rounds plan circuit
      → Outcome s p q plan₀ circuit₀ a plan circuit
  refuted : (steps : List Step) → a ≡ answer 100 (length steps ∷ []) → ask_refusal s p q plan₀ circuit₀ ≡ 0 → Shows s p q plan₀ circuit₀ steps plan circuit
      → Outcome s p q plan₀ circuit₀ a plan circuit
  refused : (k : ℕ) → a ≡ answer k [] → ask_refusal s p q plan₀ circuit₀ ≡ k → k ≢ 0 → plan ≡ plan₀ → circuit ≡ circuit₀ → Outcome s p q plan₀ circuit₀ a plan circuit

-- the circuit that was given, and no arcs where none was
abbrev pub given : {s : Sheet} {p q : ℕ} {plan₀ circuit₀ : List ℕ} {a : Answer} {plan circuit : List ℕ} → Outcome s p q plan₀ circuit₀ a plan circuit → List Step
given (accepted rounds e none is) = []
given (refuted steps e none is) = steps
given (refused k e is some same same') = []

-- "On a refutation the number is N": none of the tables 0 to N-1 is equal to the one after it.
abbrev pub Moving : Sheet → ℕ → ℕ → Type 0
Moving s p q = (r : ℕ) → r < nodes s → Still (arcs s) p q (nodes s) r → ⊥
