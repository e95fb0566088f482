-- `host::tamulehk_ask` meets its contract: the sheet asked of is the one that the bytes are read as.
use native.Mathlib.Omega.{arith}
use Rattle.reader.proofs.Lending.{lends_sheet, lends_refused}
use Rattle.calls.proofs.Host.Asking.{refused_first, read_answered}
use Rattle.host.proofs.tamulehk_ask.Goals as goal

pub returns-in-Ok : goal.returns-in-Ok
returns-in-Ok c = let r = lends_sheet c.args.file.now _ _ c.in-Ok.admitted (rw c.in-Ok.is at c.lend.ensures) in
    read_answered _ _ r.next c.args.p c.args.q _ r.is c.decide.ensures

pub returns-in-Err : goal.returns-in-Err
returns-in-Err c =
    rw (c.from-in-Err.ensures, c.from.ensures)
    (refused_first c.args.file.now c.args.p c.args.q _ (lends_refused c.args.file.now _ _ c.in-Err.refusal (omega arith) (omega arith) (rw c.in-Err.is at c.lend.ensures)))
