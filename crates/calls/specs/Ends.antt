-- Ends, whole: what it answers and what it leaves in its two circuit buffers, for every input (document 01, "Ends" and "Numbers a call can answer").
use Rattle.std.specs.Prelude.{◌≡◌, ◌≢◌, Bool, ◌&&◌, List, [], ◌∷◌, ◌++◌, map, ℕ, ◌-◌, ◌*◌, ◌≤◌, leb, length, take}
use Rattle.theory.specs.Ends.{High, open_end, up_to, Range, Never, LowShown, HighShown, NoneShown}
use Rattle.tables.specs.Sheets.{Sheet, unless, refusal, otherwise}
use Rattle.tables.specs.Answers.{Answer, answer}
use Rattle.windows.specs.Inequalities.{Runs}
use Rattle.windows.specs.Arcs.{nodes, arcs}
use Rattle.windows.specs.Circuits.{Step, step_arc}
use Rattle.calls.specs.Circuits.{onto, CircuitOrNone}

-- 9: "with 4N places for each circuit"
abbrev pub roomy : Sheet → List ℕ → List ℕ → Bool
roomy s first second = leb (4 * nodes s) (length first) && leb (4 * nodes s) (length second)

-- "Ends: 4, 5, 6, 9"
abbrev pub ends_refusal : Sheet → List ℕ → List ℕ → ℕ
ends_refusal s first second = otherwise (refusal s) (unless (roomy s first second) 9 0)

module _ (s : Sheet) where
  -- The ends, and the circuits that show them.
  pub record Finds (top bottom : ℕ) (high : High) (first second : List Step) : Type 0 where
    pub range : Range (Runs s) top bottom high
    pub bottom_small : bottom ≤ s.n
    pub high_small : (c d : ℕ) → high ≡ up_to c d → d ≤ s.n
    pub first_circuit : CircuitOrNone s first
    pub second_circuit : CircuitOrNone s second
    pub low_shown : LowShown (arcs s) bottom top (map (step_arc s) first)
    pub high_shown : HighShown (arcs s) high (map (step_arc s) second)

  -- "None", and the one circuit or the two that show it.
  pub record Lacks (first second : List Step) : Type 0 where
    pub never : Never (Runs s)
    pub first_circuit : CircuitOrNone s first
    pub second_circuit : CircuitOrNone s second
    pub none_shown : NoneShown (arcs s) (map (step_arc s) first) (map (step_arc s) second)

-- low, and high where it is not open, each by its top and bottom
abbrev pub ends_values : ℕ → ℕ → High → List ℕ
ends_values top bottom open_end = top ∷ bottom ∷ []
ends_values top bottom (up_to c d) = top ∷ bottom ∷ c ∷ d ∷ []

-- The outcome: the answer and both buffers, by the sheet and the buffers before. "The arc counts are returned", after the ends where there are
-- some, and "Numbers 1 to 10 return only the number and alter nothing lent".
pub data Outcome (s : Sheet) (first₀ second₀ : List ℕ) (a : Answer) (first second : List ℕ) : Type 0 where
  found : (top bottom : ℕ) (high : High) (cs ds : List Step) → a ≡ answer 0 (ends_values top bottom high ++ length cs ∷ length ds ∷ []) → ends_refusal s first₀ second₀ ≡ 0
      → Finds s top bottom high cs ds → first ≡ onto cs first₀ → second ≡ onto ds second₀ → Outcome s first₀ second₀ a first second
  none : (cs ds : List Step) → a ≡ answer 101 (length cs ∷ length ds ∷ []) → ends_refusal s first₀ second₀ ≡ 0 → Lacks s cs ds → first ≡ onto cs first₀ → second ≡ onto ds second₀
      → Outcome s first₀ second₀ a first second
  refused : (k : ℕ) → a ≡ answer k [] → ends_refusal s first₀ second₀ ≡ k → k ≢ 0 → first ≡ first₀ → second ≡ second₀ → Outcome s first₀ second₀ a first second

-- the circuits that were given in the first and in the second buffer, and no arcs where none was
abbrev pub given_first : {s : Sheet} {first₀ second₀ : List ℕ} {a : Answer} {first second : List ℕ} → Outcome s first₀ second₀ a first second → List Step
given_first (found top bottom high cs ds e unrefused is same same') = cs
given_first (none cs ds e unrefused is same same') = cs
given_first (refused k e is some same same') = []

abbrev pub given_second : {s : Sheet} {first₀ second₀ : List ℕ} {a : Answer} {first second : List ℕ} → Outcome s first₀ second₀ a first second → List Step
given_second (found top bottom high cs ds e unrefused is same same') = ds
given_second (none cs ds e unrefused is same same') = ds
given_second (refused k e is some same same') = []

-- the values of an answer but for its two arc counts, which are the last
abbrev pub but_counts : Answer → List ℕ
but_counts a = take (length a.values - 2) a.values

-- Two answers agree: the same number, and the same values but for the arc counts.
abbrev pub Agree : Answer → Answer → Type 0
Agree a b = (a.number ≡ b.number) × (but_counts a ≡ but_counts b)
