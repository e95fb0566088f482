-- Proposed arcs held to the sheet, whole: what is answered for every input (document 02, E2, "Hold another engine's answer to the sheet").
use Rattle.std.specs.Prelude.{◌≡◌, ◌≢◌, Bool, ◌&&◌, List, [], ◌∷◌, map, ℕ, zero, suc, ◌/◌, ◌%◌, ◌<◌, leb, eqb, length}
use Rattle.theory.specs.Arcs.{Arc}
use Rattle.theory.specs.Circuits.{Distinct, departures, FirstSmallest, Above}
use Rattle.tables.specs.Sheets.{Sheet, timed, unless, refusal, otherwise}
use Rattle.tables.specs.Answers.{Answer, answer}
use Rattle.windows.specs.Circuits.{Step, numbers, Stands, step_arc, Valid, Refutes}

-- not 11: "an arc list empty or not of whole arcs"; "An arc is four numbers" (01)
abbrev pub whole : List ℕ → Bool
whole list = leb 1 (length list) && eqb (length list % 4) 0

-- "Refusals: 4, 5, 6, 10, then new 11"
abbrev pub arcs_refusal : Sheet → ℕ → ℕ → List ℕ → ℕ
arcs_refusal s p q list = otherwise (refusal s) (unless (timed p q) 10 (unless (whole list) 11 0))

-- how many arcs the list has
abbrev pub count : List ℕ → ℕ
count list = length list / 4

-- where the last of the arcs arrives, which come after one that arrives at u
abbrev pub arriving : ℕ → List Arc → ℕ
arriving u [] = u
arriving u (a ∷ rest) = arriving a.arrival rest

-- "closing": the last arc arrives where the first leaves
abbrev pub Closed : List Arc → Type 0
Closed [] = Unit {0}
Closed (a ∷ rest) = arriving a.arrival rest ≡ a.departure

module _ (s : Sheet) (list : List ℕ) where
  -- The arc c at k leaves "where the arc before arrived"; the first has none before it. (An arc before that is no window's is bad itself, and comes first.)
  abbrev pub Follows : ℕ → Step → Type 0
  Follows zero c = Unit {0}
  Follows (suc k) c = (d : Step) → Stands list k d → (step_arc s c).departure ≡ (step_arc s d).arrival

  -- "An arc is bad if its window is not present in the sheet or it does not leave where the arc before arrived." The arc at k is not bad.
  pub record Good (k : ℕ) : Type 0 where
    pub step : Step
    pub stands : Stands list k step
    pub present : Valid s step
    pub follows : Follows k step

  -- "the index, from 0, of the first bad arc"
  pub record FirstBad (k : ℕ) : Type 0 where
    pub is_arc : k < count list
    pub bad : Good k → ⊥
    pub first : (j : ℕ) → j < k → Good j

  -- None is bad: the list is the numbers of these steps.
  pub record Sound (steps : List Step) : Type 0 where
    pub list_is : list ≡ numbers steps
    pub good : (k : ℕ) → k < count list → Good k

-- "Then come closing, a node left twice, the smallest node first and the total, in that order": the first that is wrong with the arcs, by its number.
pub data Fault (p q : ℕ) (arcs : List Arc) : ℕ → Type 0 where
  not_closed : (Closed arcs → ⊥) → Fault p q arcs 104
  left_twice : Closed arcs → (Distinct (departures arcs) → ⊥) → Fault p q arcs 105
  not_smallest : Closed arcs → Distinct (departures arcs) → (FirstSmallest (departures arcs) → ⊥) → Fault p q arcs 106
  not_above : Closed arcs → Distinct (departures arcs) → FirstSmallest (departures arcs) → (Above p q arcs → ⊥) → Fault p q arcs 107

-- The outcome. "a refutation as 01 describes" is accepted; a wrong proposal is answered with its first bad arc, by 103 with the index, or with what is wrong with
-- arcs of which none is bad; the refusals come first.
pub data Outcome (s : Sheet) (p q : ℕ) (list : List ℕ) (a : Answer) : Type 0 where
  accepted : (steps : List Step) → a ≡ answer 0 [] → arcs_refusal s p q list ≡ 0 → list ≡ numbers steps → Refutes s p q steps → Outcome s p q list a
  bad : (k : ℕ) → a ≡ answer 103 (k ∷ []) → arcs_refusal s p q list ≡ 0 → FirstBad s list k → Outcome s p q list a
  faulty : (steps : List Step) (k : ℕ) → a ≡ answer k [] → arcs_refusal s p q list ≡ 0 → Sound s list steps → Fault p q (map (step_arc s) steps) k → Outcome s p q list a
  refused : (k : ℕ) → a ≡ answer k [] → arcs_refusal s p q list ≡ k → k ≢ 0 → Outcome s p q list a
