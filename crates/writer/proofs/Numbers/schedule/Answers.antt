-- `writer::Numbers::schedule` meets its contract. The invariant: the positions that the loop has not met are left.
use native.Mathlib.Omega.{arith}
use Rattle.writer.proofs.Runs.{leaves_all}
use Rattle.writer.proofs.Rows.{schedule_next, schedule_done}
use Rattle.writer.proofs.Numbers.schedule.Goals as goal

pub loop-mode-init : goal.loop-mode-init
loop-mode-init c = (omega arith, leaves_all _ _)

pub loop-mode-preserved : goal.loop-mode-preserved
loop-mode-preserved c = let a = c.args in let l = c.loop-mode in
    (omega (arith, c.number.ensures.near, l.invariant.0), schedule_next a.schedule.now l.mode-index l.invariant.1 c.loop-mode-test.true (rw c.from.ensures at c.number.ensures.adds))

pub returns-clause-adds : goal.returns-clause-adds
returns-clause-adds c = let l = c.loop-mode in schedule_done c.args.schedule.now l.mode-index l.invariant.1 c.loop-mode-test.false
