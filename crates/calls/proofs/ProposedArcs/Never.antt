-- Accepted arcs are a refutation, so the cycle time does not work.
use mathlib.Core.Path.{◌≡◌}
use mathlib.Core.List.{List}
use Prim.Native.Nat.{ℕ}
use Rattle.tables.specs.Sheets.{Sheet}
use Rattle.tables.specs.Answers.{Answer}
use Rattle.windows.specs.Inequalities.{Runs}
use Rattle.windows.proofs.Steps.{never_both}
use Rattle.calls.specs.ProposedArcs.{Outcome}
use Rattle.calls.proofs.ProposedArcs.Refusals.{arcs_granted}
use Rattle.calls.proofs.ProposedArcs.Cases.{accepted_is}

-- THEOREM: accepted arcs show that the cycle time does not work
pub accepted_never : (s : Sheet) (p q : ℕ) (list : List ℕ) (a : Answer) → Outcome s p q list a → a.number ≡ 0 → Runs s p q → ⊥
accepted_never s p q list a x zero runs =
    let c = accepted_is x zero in
    never_both s (arcs_granted s p q list c.0).sheet_ok.size.some_positions p q runs.0 runs.1 c.1 c.3
