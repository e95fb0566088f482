-- `checker::tamulehk_check_arcs` meets its contract: the sheet that the arcs are held to is the one that the bytes are read as.
use mathlib.Core.Path.{refl}
use native.Mathlib.Omega.{arith}
use Rattle.reader.proofs.Lending.{lends_sheet, lends_refused}
use Rattle.calls.proofs.Checker.Reading.{arcs_refused_first, arcs_read}
use Rattle.refuting.specs.Answers.{answer_arcs}
use Rattle.values.proofs.Handing.{handed, by_reason, by_place}
use Rattle.checker.proofs.tamulehk_check_arcs.Goals as goal

pub returns-in-Ok : goal.returns-in-Ok
returns-in-Ok c = let r = lends_sheet c.args.file.now _ _ c.in-Ok.admitted (rw c.in-Ok.is at c.lend.ensures) in
    handed (arcs_read _ c.args.p c.args.q c.args.arcs.now _ r.next r.is _ c.check_arcs.ensures) (by_reason answer_arcs (λ r. refl) _ c.of_arcs.ensures)

pub returns-in-Err : goal.returns-in-Err
returns-in-Err c =
    let r = lends_refused c.args.file.now _ _ c.in-Err.unread (omega arith) (omega arith) (rw c.in-Err.is at c.lend.ensures) in
    handed (arcs_refused_first _ c.args.p c.args.q c.args.arcs.now _ r) (by_place _ c.refuse_at.ensures)
