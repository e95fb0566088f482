-- "No plan time exceeds 382,000,000,000."
use mathlib.Core.Path.{sym, subst}
use mathlib.Core.List.{List}
use Prim.Native.Nat.{ℕ, ◌+◌, ◌*◌, ◌≤◌, ◌<◌}
use native.Mathlib.Omega.{arith}
use native.Mathlib.Nat.{mul-le-mul_right, mul-le-mul_left}
use lib.ListN.{get_or}
use Rattle.theory.specs.Arcs.{table, Rounds}
use Rattle.theory.proofs.Loops.{rounds_few}
use Rattle.theory.proofs.Rounds.{table_bound}
use Rattle.theory.proofs.Sums.{rise_bound}
use Rattle.tables.specs.Sheets.{Sheet}
use Rattle.tables.specs.Admitted.{Admitted}
use Rattle.windows.specs.Arcs.{nodes, arcs}
use Rattle.windows.proofs.Laying.{arcs_within}
use Rattle.windows.proofs.Limits.{sheet_laid, nodes_few}
use Rattle.calls.specs.Ask.{Earliest}
use Rattle.calls.proofs.Ask.Unique.{plan_table}

-- THEOREM: no entry of a table up to round N-1 passes 382,000,000,000, for p and q within their limits
pub table_small : (s : Sheet) → Admitted s → (p q : ℕ) → q ≤ 1000 → p ≤ 1000000000 → (r v : ℕ) → r < nodes s → table (arcs s) p q r v ≤ 382000000000
table_small s ok p q small-q small-p r v before =
    let adds = table_bound (arcs s) p q (q * 1000000 + p) (rise_bound (nodes s) 1000000 s.n (arcs s) (sheet_laid s ok) p q) r v in
    let most : q * 1000000 + p ≤ 2000000000 = omega arith in
    omega (arith, adds, mul-le-mul_left r most, nodes_few s ok)

-- THEOREM: "No plan time exceeds 382,000,000,000."
pub plan_small : (s : Sheet) → Admitted s → (p q r : ℕ) → q ≤ 1000 → p ≤ 1000000000 → (plan : List ℕ) → Earliest s p q plan → Rounds (arcs s) p q (nodes s) r → (v : ℕ) → v < nodes s → get_or plan v 0 ≤ 382000000000
plan_small s ok p q r few small plan is rounds v below =
    let z = ok.size in
    let some : 0 < nodes s = omega (arith, mul-le-mul_right s.n z.some_positions, z.some_events) in
    subst (λ (t : ℕ). t ≤ 382000000000) (sym (plan_table s p q z.some_positions z.some_events plan r is rounds v below))
    (table_small s ok p q few small r v (rounds_few (arcs s) p q (nodes s) r some (arcs_within s z.some_positions) rounds))
