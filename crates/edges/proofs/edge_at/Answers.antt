-- `edges::edge_at` meets its contract: at the last position the next is the first, and crossing to it costs p.
use mathlib.Core.Path.{◌∙◌}
use native.Mathlib.Omega.{arith}
use Rattle.edges.proofs.Sites.{stands, edge_there}
use Rattle.edges.proofs.edge_at.Goals as goal

pub edge_of-requires : goal.edge_of-requires
edge_of-requires c = let a = c.args in let s = stands a.g a.sheet.now.n a.sheet.now.positions a.time.top a.time.bottom c.requires.2 c.requires.1 c.requires.0 in
    rw c.site_at.ensures (c.requires.5, c.requires.6, omega (arith, s.same_q, c.requires.4), omega (arith, s.here_small), omega (arith, s.next_small), omega (arith, s.cross_small, c.requires.3))

pub returns : goal.returns
returns c = let a = c.args in rw c.site_at.ensures at c.edge_of.ensures ∙ edge_there a.g a.sheet.now.n a.sheet.now.positions a.time.top a.time.bottom a.w
