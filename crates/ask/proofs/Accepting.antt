-- Rounds that changed something until one changed nothing: their count is document 01's, and their table is the earliest plan.
use mathlib.Core.Path.{refl, ◌∙◌}
use mathlib.Core.List.{List}
use Prim.Native.Nat.{ℕ, suc, ◌<◌}
use native.Mathlib.Omega.{arith}
use native.Mathlib.Decide.{dec_lt}
use Rattle.theory.specs.Arcs.{Still, Rounds}
use Rattle.tables.specs.Sheets.{Sheet}
use Rattle.tables.specs.Admitted.{Admitted}
use Rattle.windows.specs.Arcs.{nodes, arcs}
use Rattle.edges.specs.declared.Record.{Record}
use Rattle.layout.proofs.Laying.{Modes}
use Rattle.turns.specs.Rounds.{walked, Filled, Ran}
use Rattle.turns.proofs.Sheets.{table_is}
use Rattle.calls.specs.Ask.{Accepts}
use Rattle.calls.proofs.Ask.Earliest.{table_earliest}

module _ (s : Sheet) (ok : Admitted s) (p q : ℕ) (l : List Record) (start : List ℕ) (laid : Modes s.tables s.n l start s.m)
    (r node : ℕ) (times row : List ℕ) (ran : Ran (walked l start s.schedule s.n s.positions p q s.positions) (nodes s) r node times row) where
  still : r < nodes s → Still (arcs s) p q (nodes s) r
  still few v h = omega (arith, ran.still few v h, table_is s ok p q l start laid (suc r) v, table_is s ok p q l start laid r v)

  rounds : r < nodes s → Rounds (arcs s) p q (nodes s) r
  rounds few =
      record {
        still = still few;
        least = λ k same. elim (dec_lt k r) [
          | yes h ↦
              let e = ran.rising k h in
              absurd (omega (arith, e.2, same e.0 e.1, table_is s ok p q l start laid (suc k) e.0, table_is s ok p q l start laid k e.0))
          | no h ↦ omega arith
        ];
      }

  -- THEOREM: the times of rounds that stand still, written into the plan's places, are what an acceptance owes
  pub accepts : r < nodes s → (plan₀ circuit plan : List ℕ) → Filled times (nodes s) plan₀ plan → Accepts s p q plan₀ circuit r plan circuit
  accepts few plan₀ circuit plan f =
      record {
        plan_is = table_earliest s ok.size.some_positions p q r (still few) plan (λ v h. f.inside v h ∙ ran.table v h ∙ table_is s ok p q l start laid r v);
        rounds_are = rounds few;
        plan_length = f.long;
        plan_rest = f.rest;
        circuit_same = refl;
      }
