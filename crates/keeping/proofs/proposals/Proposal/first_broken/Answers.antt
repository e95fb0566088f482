-- The invariant: the places passed have no window that is broken.
use mathlib.Core.Path.{ap}
use native.Mathlib.Omega.{arith}
use lib.ListN.{length}
use Rattle.keeping.proofs.Windows.{part_long}
use Rattle.keeping.proofs.proposals.Proposal.first_broken.Goals as goal

pub returns : goal.returns
returns c j below =
    let p = c.args.self.now in
    c.loop-k.invariant j (omega (arith, below, c.loop-k-test.false, ap length c.requires.part, part_long p.line p.times.now p.unrefused c.args.g c.requires.inside))
