-- The invariant: no place of the positions passed is broken.
use mathlib.Core.Path.{◌≡◌}
use mathlib.Core.Bool.{false}
use Prim.Native.Nat.{ℕ, ◌*◌, ◌<◌}
use Rattle.keeping.specs.Breaks.{breaks}
use Rattle.keeping.proofs.proposals.Proposal.search.Given as goal

abbrev pub invariant-loop-g : goal.invariant-loop-g
invariant-loop-g l = (h : ℕ) → h < l.g → (k : ℕ) → k < 4 * (l.self.line.sheet.n * l.self.line.sheet.n) → breaks l.self.line l.self.times.now h k ≡ false
