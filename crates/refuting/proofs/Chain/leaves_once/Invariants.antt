-- The invariant: no two of the arcs passed leave the same node.
use Prim.Native.Nat.{ℕ, ◌<◌}
use Rattle.tables.specs.Lent.{lent}
use Rattle.refuting.specs.Reading.{Apart}
use Rattle.refuting.proofs.Chain.leaves_once.Given as goal

abbrev pub invariant-loop-k : goal.invariant-loop-k
invariant-loop-k l = (j : ℕ) → j < l.k → Apart (lent l.self.line.sheet) l.self.line.time.top l.self.line.time.bottom l.self.arcs.now j
