-- Each branch writes by its callee's contract.
use mathlib.Core.Path.{refl}
use native.Mathlib.Omega.{arith}
use Rattle.ask.proofs.finish.Goals as goal

pub write_times-requires : goal.write_times-requires
write_times-requires c = (c.requires.2, c.requires.3)

pub returns-then-stood_still : goal.returns-then-stood_still
returns-then-stood_still c = (refl, omega (arith, c.if-stood_still.true), c.write_times.ensures, refl)

pub refute-arcs-requires : goal.refute-arcs-requires
refute-arcs-requires c = (c.requires.0 (omega (arith, c.if-stood_still.false)), c.requires.4)

pub returns : goal.returns
returns c = (omega (arith, c.if-stood_still.false), c.refute-arcs.ensures, refl)
