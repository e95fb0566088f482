-- The invariant: no arc passed leaves the node that the one at k leaves.
use Prim.Native.Nat.{ℕ, ◌<◌}
use mathlib.Core.Logic.{◌≢◌}
use Rattle.tables.specs.Lent.{lent}
use Rattle.refuting.specs.Reading.{edge_in}
use Rattle.refuting.proofs.Chain.is_apart.Given as goal

abbrev pub invariant-loop-i : goal.invariant-loop-i
invariant-loop-i l = let s = lent l.self.line.sheet in let p = l.self.line.time.top in let q = l.self.line.time.bottom in
    (j : ℕ) → j < l.i → (edge_in s p q l.self.arcs.now j).departure ≢ (edge_in s p q l.self.arcs.now l.k).departure
