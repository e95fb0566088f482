-- What an outcome for proposed arcs says where its answer's number is known: 0 a refutation, 103 the first bad arc, 104 to 107 what is wrong with arcs of which none is bad.
use mathlib.Core.Path.{◌≡◌, sym, ◌∙◌, subst}
use mathlib.Core.List.{List, [], ◌∷◌, map}
use Prim.Native.Nat.{ℕ, ◌≤◌}
use native.Mathlib.Omega.{arith}
use Rattle.theory.specs.Arcs.{Arc}
use Rattle.tables.specs.Sheets.{Sheet}
use Rattle.tables.specs.Answers.{Answer, answer}
use Rattle.tables.proofs.Answers.{number_same}
use Rattle.windows.specs.Circuits.{Step, numbers, step_arc, Refutes}
use Rattle.calls.specs.ProposedArcs.{arcs_refusal, FirstBad, Sound, Fault, not_closed, left_twice, not_smallest, not_above, Outcome, accepted, bad, faulty, refused}
use Rattle.calls.proofs.ProposedArcs.Refusals.{refused_few}

fault_number : {p q : ℕ} {arcs : List Arc} {k : ℕ} → Fault p q arcs k → (104 ≤ k) × (k ≤ 107)
fault_number (not_closed n) = (omega arith, omega arith)
fault_number (left_twice c n) = (omega arith, omega arith)
fault_number (not_smallest c d n) = (omega arith, omega arith)
fault_number (not_above c d f n) = (omega arith, omega arith)

module _ {s : Sheet} {p q : ℕ} {list : List ℕ} {a : Answer} where
  -- THEOREM: 0 says that the arcs are a refutation
  pub accepted_is : Outcome s p q list a → a.number ≡ 0 → (arcs_refusal s p q list ≡ 0) × (steps : List Step) × (list ≡ numbers steps) × Refutes s p q steps
  accepted_is (accepted steps e none is refutes) zero = (none, steps, is, refutes)
  accepted_is (bad k e none first) zero = absurd (omega (arith, number_same e))
  accepted_is (faulty steps k e none sound fault) zero = absurd (omega (arith, number_same e, fault_number fault))
  accepted_is (refused k e is some) zero = absurd (some (sym (number_same e) ∙ zero))

  -- THEOREM: 103 gives the index of the first bad arc
  pub bad_is : Outcome s p q list a → a.number ≡ 103 → (arcs_refusal s p q list ≡ 0) × (k : ℕ) × (a ≡ answer 103 (k ∷ [])) × FirstBad s list k
  bad_is (accepted steps e none is refutes) number = absurd (omega (arith, number_same e))
  bad_is (bad k e none first) number = (none, k, e, first)
  bad_is (faulty steps k e none sound fault) number = absurd (omega (arith, number_same e, fault_number fault))
  bad_is (refused k e is some) number = absurd (omega (arith, number_same e, refused_few s p q list))

  -- THEOREM: 104 to 107 say what is wrong with arcs of which none is bad
  pub faulty_is : Outcome s p q list a → 104 ≤ a.number → (arcs_refusal s p q list ≡ 0) × (steps : List Step) × (a ≡ answer a.number []) × Sound s list steps × Fault p q (map (step_arc s) steps) a.number
  faulty_is (accepted steps e none is refutes) number = absurd (omega (arith, number_same e))
  faulty_is (bad k e none first) number = absurd (omega (arith, number_same e))
  faulty_is (faulty steps k e none sound fault) number = (none, steps, rw e, sound, subst (Fault p q (map (step_arc s) steps)) (sym (number_same e)) fault)
  faulty_is (refused k e is some) number = absurd (omega (arith, number_same e, refused_few s p q list))
