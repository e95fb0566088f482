-- The last arc and the first, by one comparison.
use native.Mathlib.Omega.{arith}
use mathlib.Core.Path.{ap, ◌∙◌}
use Prim.Native.Nat.{ℕ, ◌-◌}
use Rattle.tables.specs.Lent.{lent}
use Rattle.refuting.specs.Reading.{edge_in}
use Rattle.refuting.proofs.Tests.{some, closed_tells}
use Rattle.refuting.proofs.Chain.is_closed.Goals as goal

pub edge-first-requires : goal.edge-first-requires
edge-first-requires c = let h = c.args.self.now in some h.line h.arcs.now h.unrefused h.present h.follows

pub overflow_sub-count : goal.overflow_sub-count
overflow_sub-count c = let h = c.args.self.now in omega (arith, c.count.ensures, some h.line h.arcs.now h.unrefused h.present h.follows)

pub edge-last-requires : goal.edge-last-requires
edge-last-requires c = let h = c.args.self.now in omega (arith, c.count.ensures, some h.line h.arcs.now h.unrefused h.present h.follows)

pub returns : goal.returns
returns c = let h = c.args.self.now in let f = c.edge-first in let l = c.edge-last in
    closed_tells h.line h.arcs.now h.unrefused h.present h.follows f.result l.result f.ensures
    (l.ensures ∙ ap (λ (m : ℕ). edge_in (lent h.line.sheet) h.line.time.top h.line.time.bottom h.arcs.now (m - 1)) c.count.ensures)
