-- The first bad arc, and where there is none the tests.
use mathlib.Core.Path.{refl}
use Prim.Native.Nat.{suc}
use native.Mathlib.Omega.{arith}
use Rattle.tables.specs.Lent.{lent}
use Rattle.calls.specs.ProposedArcs as proposed
use Rattle.refuting.proofs.Present.{step_present}
use Rattle.refuting.proofs.Following.{follow}
use Rattle.refuting.proofs.Proposal.judge.Goals as goal

pub returns-in-Some : goal.returns-in-Some
returns-in-Some c = proposed.bad c.in-Some.index refl c.args.self.now.unrefused c.in-Some.ensures

pub invariant_of-chain : goal.invariant_of-chain
invariant_of-chain c = let p = c.args.self.now in let s = lent p.line.sheet in
    record {
      unrefused = p.unrefused;
      present = λ k below. let g = c.in_default.ensures k below in step_present s p.arcs.now k g.step g.stands g.present;
      follows = λ k below. follow s p.arcs.now p.line.time.top p.line.time.bottom k (c.in_default.ensures k (omega arith)) (c.in_default.ensures (suc k) below);
    }
