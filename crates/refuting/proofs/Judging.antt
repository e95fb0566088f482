-- What the tests came to, in their order, is the outcome.
use mathlib.Core.Path.{◌≡◌, refl, subst}
use mathlib.Core.Bool.{Bool, true, false}
use mathlib.Core.List.{List, []}
use Prim.Native.Nat.{ℕ, suc, ◌<◌}
use Rattle.theory.specs.Arcs.{Arc}
use Rattle.theory.specs.Circuits.{Distinct, departures, FirstSmallest, Above}
use Rattle.tables.specs.Sheets.{Sheet}
use Rattle.tables.specs.Answers.{answer}
use Rattle.tables.specs.Lent.{lent}
use Rattle.windows.specs.Circuits.{Step}
use Rattle.edges.specs.declared.lines.Line.{Line}
use Rattle.calls.specs.ProposedArcs as proposed
use Rattle.calls.specs.ProposedArcs.{count, arcs_refusal, Closed, FirstBad, Sound, Outcome}
use Rattle.calls.proofs.ProposedArcs.Steps.{sound_some, sound_refutes}
use Rattle.edges.specs.Naming.{four_at}
use Rattle.refuting.specs.Reading.{present, Follows, TellsOf}
use Rattle.refuting.proofs.Tests.{granted, read_steps}

-- a test whose outcome is known
pub known : (s : Sheet) (list : List ℕ) (So : List Arc → Type 0) (b c : Bool) → b ≡ c → TellsOf s list So b → TellsOf s list So c
known s list So b c e = subst (TellsOf s list So) e

module _ (line : Line) (list : List ℕ)
    (unrefused : arcs_refusal (lent line.sheet) line.time.top line.time.bottom list ≡ 0)
    (known : (k : ℕ) → k < count list → present (lent line.sheet) (four_at list k) ≡ true)
    (follows : (k : ℕ) → suc k < count list → Follows (lent line.sheet) line.time.top line.time.bottom list k) where
  abbrev T : Sheet
  T = lent line.sheet

  read : (steps : List Step) × Sound T list steps
  read = read_steps line list unrefused known follows

  pub open_is : TellsOf T list Closed false → Outcome T line.time.top line.time.bottom list (answer 104 [])
  open_is says = let t = read in proposed.faulty t.0 _ refl unrefused t.1 (proposed.not_closed (says t.0 t.1))

  module _ (closed : TellsOf T list Closed true) where
    pub twice_is : TellsOf T list (λ a. Distinct (departures a)) false → Outcome T line.time.top line.time.bottom list (answer 105 [])
    twice_is says = let t = read in proposed.faulty t.0 _ refl unrefused t.1 (proposed.left_twice (closed t.0 t.1) (says t.0 t.1))

    module _ (once : TellsOf T list (λ a. Distinct (departures a)) true) where
      pub larger_is : TellsOf T list (λ a. FirstSmallest (departures a)) false → Outcome T line.time.top line.time.bottom list (answer 106 [])
      larger_is says =
          let t = read in
          proposed.faulty t.0 _ refl unrefused t.1 (proposed.not_smallest (closed t.0 t.1) (once t.0 t.1) (says t.0 t.1))

      module _ (smallest : TellsOf T list (λ a. FirstSmallest (departures a)) true) where
        pub below_is : TellsOf T list (Above line.time.top line.time.bottom) false → Outcome T line.time.top line.time.bottom list (answer 107 [])
        below_is says =
            let t = read in
            proposed.faulty t.0 _ refl unrefused t.1 (proposed.not_above (closed t.0 t.1) (once t.0 t.1) (smallest t.0 t.1) (says t.0 t.1))

        -- THEOREM: arcs that pass all tests are a refutation
        pub accepted_is : TellsOf T list (Above line.time.top line.time.bottom) true → Outcome T line.time.top line.time.bottom list (answer 0 [])
        accepted_is says =
            let t = read in
            let steps = t.0 in
            let sound = t.1 in
            proposed.accepted steps refl unrefused sound.list_is
            (sound_refutes T line.time.top line.time.bottom list steps (sound_some T list steps sound (granted line list unrefused known follows).some) sound (closed steps sound) (once steps sound) (smallest steps sound) (says steps sound))
