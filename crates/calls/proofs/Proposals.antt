-- Proposed times and proposed arcs, both held to the same sheet at the same cycle time.
use mathlib.Core.Path.{◌≡◌}
use mathlib.Core.List.{List}
use Prim.Native.Nat.{ℕ}
use lib.IntN.{ℤ}
use Rattle.tables.specs.Sheets.{Sheet}
use Rattle.tables.specs.Answers.{Answer}
use Rattle.calls.specs.ProposedTimes as times
use Rattle.calls.specs.ProposedArcs as arcs
use Rattle.calls.proofs.ProposedTimes.Kept.{accepted_runs}
use Rattle.calls.proofs.ProposedArcs.Never.{accepted_never}

-- THEOREM: never both are accepted
pub never_both_accepted : (s : Sheet) (p q : ℕ) (plan : List ℤ) (list : List ℕ) (a b : Answer) → times.Outcome s p q plan a → a.number ≡ 0 → arcs.Outcome s p q list b → b.number ≡ 0 → ⊥
never_both_accepted s p q plan list a b x zero y zero' = accepted_never s p q list b y zero' (accepted_runs s p q plan a x zero)
