-- The table where the rounds stand still is the earliest plan of the published inequalities.
use mathlib.Core.Path.{◌≡◌, sym, ap}
use mathlib.Core.List.{List}
use Prim.Native.Nat.{ℕ, zero, suc, ◌≤◌, ◌<◌}
use native.Mathlib.Omega.{arith}
use lib.ListN.{get_or}
use lib.IntN.{pos}
use lib.Signed.{◌≤ℤ◌}
use Rattle.theory.specs.Arcs.{table, Still}
use Rattle.theory.proofs.Rounds.{table_least, still_plan, plan_agree}
use Rattle.tables.specs.Sheets.{Sheet}
use Rattle.windows.specs.Windows.{Event}
use Rattle.windows.specs.Inequalities.{Times, Solves, FromZero}
use Rattle.windows.specs.Arcs.{up, node, nodes, arcs}
use Rattle.windows.proofs.Parts.{le_parts}
use Rattle.windows.proofs.Endless.{plan_solves, solution_plan, time_at, time_at_lem, node_below, not_below}
use Rattle.windows.proofs.Laying.{arcs_within}
use Rattle.calls.specs.Ask.{planned, Earliest}

module _ (s : Sheet) (some : 0 < s.positions) (p q r : ℕ) (still : Still (arcs s) p q (nodes s) r) (plan : List ℕ)
    (same : (v : ℕ) → v < nodes s → get_or plan v 0 ≡ table (arcs s) p q r v) where
  table_solves : Solves s p q (planned s p q plan)
  table_solves =
      plan_solves s some p q (λ v. get_or plan v 0)
      (plan_agree (arcs s) p q (nodes s) (arcs_within s some) (table (arcs s) p q r) (λ v. get_or plan v 0) (λ v below. sym (same v below)) (still_plan (arcs s) p q (nodes s) (arcs_within s some) r still))

  table_first : (x : Times) → Solves s p q x → FromZero s x → (h i : ℕ) → 1 ≤ h → h ≤ s.positions → Event s i → pos (get_or plan (node s h i) 0) ≤ℤ x h i
  table_first x solves low zero i first last event = absurd (omega arith)
  table_first x solves low (suc g) zero first last event = absurd (omega arith)
  table_first x solves low (suc g) (suc e) first last event =
      (le_parts (pos (get_or plan (node s (suc g) (suc e)) 0)) (x (suc g) (suc e))).1
      (omega (
        arith,
        same (node s (suc g) (suc e)) (node_below s some g e last event.1),
        table_least (arcs s) p q (λ v. up (time_at s x v)) (solution_plan s some p q x solves low) r (node s (suc g) (suc e)),
        ap up (time_at_lem s some x g e last event.1),
        not_below (x (suc g) (suc e)) (low (suc g) (suc e) first event),
      ))

  -- THEOREM: a list that holds the table of a round that stands still is the earliest plan
  pub table_earliest : Earliest s p q plan
  table_earliest = record { solves = table_solves; earliest = table_first }
