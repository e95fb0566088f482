-- The invariant: no arc passed leaves a smaller node than the first.
use Prim.Native.Nat.{ℕ, ◌≤◌, ◌<◌}
use Rattle.tables.specs.Lent.{lent}
use Rattle.refuting.specs.Reading.{edge_in}
use Rattle.refuting.proofs.Chain.starts_smallest.Given as goal

abbrev pub invariant-loop-k : goal.invariant-loop-k
invariant-loop-k l = let s = lent l.self.line.sheet in let p = l.self.line.time.top in let q = l.self.line.time.bottom in
    (j : ℕ) → j < l.k → (edge_in s p q l.self.arcs.now 0).departure ≤ (edge_in s p q l.self.arcs.now j).departure
