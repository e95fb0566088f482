-- Each return is a case of `Next`.
use mathlib.Core.Path.{refl}
use Prim.Native.Nat.{◌*◌}
use native.Mathlib.Omega.{arith}
use Rattle.turns.specs.Rounds.{on, still, again}
use Rattle.turns.proofs.Differing.{some_differ, none_differ}
use Rattle.turns.proofs.Places.{nodes_small}
use Rattle.turns.proofs.next.Goals as goal

pub returns-then-g-job : goal.returns-then-g-job
returns-then-g-job c = on c.if-g-job.true c.turn_at.ensures refl

pub overflow_mul-nodes : goal.overflow_mul-nodes
overflow_mul-nodes c = omega (arith, nodes_small c.args.job.now.sheet.n c.args.job.now.sheet.positions c.args.job.now.time.top c.args.job.now.posed.limits)

pub returns-in_default : goal.returns-in_default
returns-in_default c =
    let a = c.args in
    let few = nodes_small a.job.now.sheet.n a.job.now.sheet.positions a.job.now.time.top a.job.now.posed.limits in
    still c.if-g-job.false (none_differ a.old.now a.new.now (a.job.now.sheet.positions * a.job.now.sheet.n) (omega (arith, few, c.requires.4)) (omega (arith, few, c.requires.3, c.requires.4)) c.in_default.ensures) c.turn_at-in_default.ensures refl

pub returns : goal.returns
returns c =
    let a = c.args in
    let few = nodes_small a.job.now.sheet.n a.job.now.sheet.positions a.job.now.time.top a.job.now.posed.limits in
    let found = some_differ a.old.now a.new.now (a.job.now.sheet.positions * a.job.now.sheet.n) (omega (arith, few, c.requires.4)) (omega (arith, few, c.requires.3, c.requires.4)) c.in-Some.node c.in-Some.ensures in
    again c.if-g-job.false c.in-Some.node found.0 found.1 c.turn_at-2.ensures c.copy_from_slice.ensures.after
