-- There always are ends with circuits that show them, or circuits that show there are none; and both are said of the published inequalities.
use mathlib.Core.Logic.{◌⊎◌, inl, inr}
use mathlib.Core.List.{List}
use Prim.Native.Nat.{ℕ, ◌<◌}
use Rattle.theory.specs.Arcs.{Arc, Works}
use Rattle.theory.specs.Ends.{High, Range, Never, LowShown, HighShown, NoneShown}
use Rattle.theory.proofs.Found.{found, none_never}
use Rattle.tables.specs.Sheets.{Sheet}
use Rattle.tables.specs.Admitted.{Admitted}
use Rattle.windows.specs.Arcs.{nodes, arcs}
use Rattle.windows.proofs.Endless.{meaning}
use Rattle.windows.proofs.Limits.{sheet_laid}
use Rattle.windows.specs.Inequalities.{Runs}

module _ (s : Sheet) (some : 0 < s.positions) where
  -- what works by the arcs runs by the inequalities
  pub range_runs : (a b : ℕ) (high : High) → Range (Works (arcs s)) a b high → Range (Runs s) a b high
  range_runs a b high r =
      record {
        bottom = r.bottom;
        lowest = r.lowest;
        upper = r.upper;
        some = r.some;
        works = λ p q pos h k. (meaning s some p q).1 (r.works p q pos h k);
        only = λ p q pos runs. r.only p q pos ((meaning s some p q).0 runs);
      }

  pub never_runs : Never (Works (arcs s)) → Never (Runs s)
  never_runs never p q pos runs = never p q pos ((meaning s some p q).0 runs)

-- THEOREM: for an admitted sheet, either nothing runs, and circuits show it, or the cycle times that run are a range, and circuits show its ends
pub ends_or_none : (s : Sheet) → Admitted s
    → (((c d : List Arc) × NoneShown (arcs s) c d × Never (Runs s))
    ⊎ ((a b : ℕ) × (high : High) × (c d : List Arc) × Range (Runs s) a b high × LowShown (arcs s) b a c × HighShown (arcs s) high d))
ends_or_none s ok =
    elim (found (nodes s) 1000000 s.n (arcs s) (sheet_laid s ok) ok.size.some_events) [
      | inl n ↦ inl (n.first, n.second, n.shown, never_runs s ok.size.some_positions (none_never (arcs s) n.first n.second n.shown))
      | inr f ↦ inr (f.top, f.bottom, f.high, f.low_circuit, f.high_circuit, range_runs s ok.size.some_positions f.top f.bottom f.high f.range, f.low_shown, f.high_shown)
    ]
