-- "On a refutation the number is N": the rounds never stand still where Ask refutes, and do before round N where it accepts.
use mathlib.Core.Path.{◌≡◌, sym, ◌∙◌}
use mathlib.Core.List.{List}
use Prim.Native.Nat.{ℕ, ◌<◌}
use native.Mathlib.Omega.{arith}
use native.Mathlib.Nat.{mul-le-mul_right}
use Rattle.theory.proofs.Loops.{still_works, rounds_few}
use Rattle.tables.specs.Sheets.{Sheet}
use Rattle.tables.specs.Answers.{Answer}
use Rattle.tables.proofs.Answers.{number_same}
use Rattle.windows.specs.Arcs.{nodes, arcs}
use Rattle.windows.specs.Circuits.{Step, Refutes}
use Rattle.windows.proofs.Endless.{meaning}
use Rattle.windows.proofs.Laying.{arcs_within}
use Rattle.windows.proofs.Steps.{never_both}
use Rattle.calls.specs.Ask.{Outcome, accepted, refuted, refused, Moving}
use Rattle.calls.proofs.Ask.Refusals.{granted, refused_few}

-- a round that stood still would be a plan
refutes_moves : (s : Sheet) (p q : ℕ) → 0 < s.positions → (steps : List Step) → Refutes s p q steps → Moving s p q
refutes_moves s p q some steps is r below still =
    let x = (meaning s some p q).1 (still_works (arcs s) p q (nodes s) r (arcs_within s some) still) in
    never_both s some p q x.0 x.1 steps is

module _ (s : Sheet) (p q : ℕ) (plan₀ circuit₀ : List ℕ) (a : Answer) (plan circuit : List ℕ) where
  -- THEOREM: where Ask refutes, none of the tables 0 to N-1 is equal to the one after it
  pub refuted_moves : Outcome s p q plan₀ circuit₀ a plan circuit → a.number ≡ 100 → Moving s p q
  refuted_moves (accepted rounds e none is) hundred = absurd (omega (arith, number_same e))
  refuted_moves (refuted steps e none is) hundred = refutes_moves s p q (granted s p q plan₀ circuit₀ none).sheet_ok.size.some_positions steps is.refutes
  refuted_moves (refused k e is some same same') hundred = absurd (omega (arith, number_same e, refused_few s p q plan₀ circuit₀))

  -- THEOREM: where it accepts, one of them is: N is the number of a refutation alone
  pub accepted_rests : Outcome s p q plan₀ circuit₀ a plan circuit → a.number ≡ 0 → Moving s p q → ⊥
  accepted_rests (accepted rounds e none is) zero moves =
      let z = (granted s p q plan₀ circuit₀ none).sheet_ok.size in
      let some : 0 < nodes s = omega (arith, mul-le-mul_right s.n z.some_positions, z.some_events) in
      moves rounds (rounds_few (arcs s) p q (nodes s) rounds some (arcs_within s z.some_positions) is.rounds_are) is.rounds_are.still
  accepted_rests (refuted steps e none is) zero moves = omega (arith, number_same e)
  accepted_rests (refused k e is some same same') zero moves = some (sym (number_same e) ∙ zero)
