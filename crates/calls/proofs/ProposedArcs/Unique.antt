-- Two outcomes for the same proposed arcs are equal: the numbers tell the steps, one bad arc is the first, and one test is the first that the steps fail.
use mathlib.Core.Path.{◌≡◌, refl, sym, ap, ◌∙◌, subst}
use mathlib.Core.List.{List, [], map}
use Prim.Native.Nat.{ℕ}
use native.Mathlib.Omega.{arith}
use native.Mathlib.Decide.{dec_lt}
use Rattle.theory.specs.Arcs.{Arc}
use Rattle.theory.specs.Circuits.{Distinct, departures, FirstSmallest, Above}
use Rattle.tables.specs.Sheets.{Sheet}
use Rattle.tables.specs.Answers.{Answer, answer}
use Rattle.windows.specs.Circuits.{Step, numbers, step_arc, Refutes}
use Rattle.calls.specs.ProposedArcs.{arcs_refusal, Closed, FirstBad, Sound, Fault, not_closed, left_twice, not_smallest, not_above, Outcome, accepted, bad, faulty, refused}
use Rattle.calls.proofs.ProposedArcs.Steps.{numbers_same, refutes_sound}

module _ {p q : ℕ} {arcs : List Arc} where
  -- THEOREM: one test is the first that is failed
  pub fault_same : {j k : ℕ} → Fault p q arcs j → Fault p q arcs k → j ≡ k
  fault_same (not_closed n) (not_closed m) = refl
  fault_same (not_closed n) (left_twice c m) = absurd (n c)
  fault_same (not_closed n) (not_smallest c d m) = absurd (n c)
  fault_same (not_closed n) (not_above c d f m) = absurd (n c)
  fault_same (left_twice c n) (not_closed m) = absurd (m c)
  fault_same (left_twice c n) (left_twice c' m) = refl
  fault_same (left_twice c n) (not_smallest c' d m) = absurd (n d)
  fault_same (left_twice c n) (not_above c' d f m) = absurd (n d)
  fault_same (not_smallest c d n) (not_closed m) = absurd (m c)
  fault_same (not_smallest c d n) (left_twice c' m) = absurd (m d)
  fault_same (not_smallest c d n) (not_smallest c' d' m) = refl
  fault_same (not_smallest c d n) (not_above c' d' f m) = absurd (n f)
  fault_same (not_above c d f n) (not_closed m) = absurd (m c)
  fault_same (not_above c d f n) (left_twice c' m) = absurd (m d)
  fault_same (not_above c d f n) (not_smallest c' d' m) = absurd (m f)
  fault_same (not_above c d f n) (not_above c' d' f' m) = refl

  -- arcs that pass all four fail none
  passed_none : {k : ℕ} → Closed arcs → Distinct (departures arcs) → FirstSmallest (departures arcs) → Above p q arcs → Fault p q arcs k → ⊥
  passed_none c d f a (not_closed n) = n c
  passed_none c d f a (left_twice c' n) = n d
  passed_none c d f a (not_smallest c' d' n) = n f
  passed_none c d f a (not_above c' d' f' n) = n a

module _ (s : Sheet) (p q : ℕ) (list : List ℕ) where
  -- THEOREM: there is one first bad arc
  pub first_same : (j k : ℕ) → FirstBad s list j → FirstBad s list k → j ≡ k
  first_same j k x y =
      elim (dec_lt j k) [
        | yes h ↦ absurd (x.bad (y.first j h))
        | no h ↦ elim (dec_lt k j) [
          | yes l ↦ absurd (y.bad (x.first k l))
          | no l ↦ omega arith
        ]
      ]

  -- a list of which no arc is bad has no first bad arc
  sound_none : (steps : List Step) (k : ℕ) → Sound s list steps → FirstBad s list k → ⊥
  sound_none steps k sound first = first.bad (sound.good k first.is_arc)

  -- a refutation has none, and fails no test
  refutes_none : (steps : List Step) (k : ℕ) → list ≡ numbers steps → Refutes s p q steps → FirstBad s list k → ⊥
  refutes_none steps k is refutes first = sound_none steps k (refutes_sound s p q list steps refutes is).0 first

  refutes_fault : (steps cs : List Step) (k : ℕ) → list ≡ numbers steps → Refutes s p q steps → Sound s list cs → Fault p q (map (step_arc s) cs) k → ⊥
  refutes_fault steps cs k is refutes sound fault =
      let r = refutes_sound s p q list steps refutes is in
      passed_none r.1 r.2 r.3 r.4 (subst (λ (l : List Step). Fault p q (map (step_arc s) l) k) (numbers_same cs steps (sym sound.list_is ∙ is)) fault)

  -- THEOREM: two outcomes for the same arcs are equal: the number and all values
  pub outcome_same : (a b : Answer) → Outcome s p q list a → Outcome s p q list b → a ≡ b
  outcome_same a b (accepted steps e none is refutes) (accepted steps' e' none' is' refutes') = e ∙ sym e'
  outcome_same a b (accepted steps e none is refutes) (bad k e' none' first) = absurd (refutes_none steps k is refutes first)
  outcome_same a b (accepted steps e none is refutes) (faulty cs k e' none' sound fault) = absurd (refutes_fault steps cs k is refutes sound fault)
  outcome_same a b (accepted steps e none is refutes) (refused k e' is' some) = absurd (some (sym is' ∙ none))
  outcome_same a b (bad j e none first) (accepted steps e' none' is refutes) = absurd (refutes_none steps j is refutes first)
  outcome_same a b (bad j e none first) (bad k e' none' first') = let same = first_same j k first first' in cc (e, e', same)
  outcome_same a b (bad j e none first) (faulty cs k e' none' sound fault) = absurd (sound_none cs j sound first)
  outcome_same a b (bad j e none first) (refused k e' is some) = absurd (some (sym is ∙ none))
  outcome_same a b (faulty cs j e none sound fault) (accepted steps e' none' is refutes) = absurd (refutes_fault steps cs j is refutes sound fault)
  outcome_same a b (faulty cs j e none sound fault) (bad k e' none' first) = absurd (sound_none cs k sound first)
  outcome_same a b (faulty cs j e none sound fault) (faulty ds k e' none' sound' fault') =
      let steps = numbers_same ds cs (sym sound'.list_is ∙ sound.list_is) in
      let same = fault_same fault (subst (λ (l : List Step). Fault p q (map (step_arc s) l) k) steps fault') in
      cc (e, e', same)
  outcome_same a b (faulty cs j e none sound fault) (refused k e' is some) = absurd (some (sym is ∙ none))
  outcome_same a b (refused j e is some) (accepted steps e' none is' refutes) = absurd (some (sym is ∙ none))
  outcome_same a b (refused j e is some) (bad k e' none first) = absurd (some (sym is ∙ none))
  outcome_same a b (refused j e is some) (faulty cs k e' none sound fault) = absurd (some (sym is ∙ none))
  outcome_same a b (refused j e is some) (refused k e' is' some') = e ∙ ap (λ (n : ℕ). answer n []) (sym is ∙ is') ∙ sym e'

  -- ---- "Then come closing, a node left twice, the smallest node first and the total, in that order"

  module _ (steps : List Step) (none : arcs_refusal s p q list ≡ 0) (sound : Sound s list steps) (a : Answer) (x : Outcome s p q list a) where
    abbrev named : List Arc
    named = map (step_arc s) steps

    -- THEOREM: arcs of which none is bad and that do not close are answered 104, whatever else is wrong with them
    pub answered_104 : (Closed named → ⊥) → a ≡ answer 104 []
    answered_104 n = outcome_same a (answer 104 []) x (faulty steps 104 refl none sound (not_closed n))

    -- THEOREM: those that close and leave a node twice 105
    pub answered_105 : Closed named → (Distinct (departures named) → ⊥) → a ≡ answer 105 []
    answered_105 c n = outcome_same a (answer 105 []) x (faulty steps 105 refl none sound (left_twice c n))

    -- THEOREM: circuits that do not begin at the smallest node 106
    pub answered_106 : Closed named → Distinct (departures named) → (FirstSmallest (departures named) → ⊥) → a ≡ answer 106 []
    answered_106 c d n = outcome_same a (answer 106 []) x (faulty steps 106 refl none sound (not_smallest c d n))

    -- THEOREM: and those that do, with a total not above zero, 107
    pub answered_107 : Closed named → Distinct (departures named) → FirstSmallest (departures named) → (Above p q named → ⊥) → a ≡ answer 107 []
    answered_107 c d f n = outcome_same a (answer 107 []) x (faulty steps 107 refl none sound (not_above c d f n))
