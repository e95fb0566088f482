-- `checker::tamulehk_check_times` meets its contract: the sheet that the times are held to is the one that the bytes are read as.
use mathlib.Core.Path.{refl}
use native.Mathlib.Omega.{arith}
use Rattle.reader.proofs.Lending.{lends_sheet, lends_refused}
use Rattle.calls.proofs.Checker.Reading.{times_refused_first, times_read}
use Rattle.keeping.specs.Answers.{answer_times}
use Rattle.values.proofs.Handing.{handed, by_reason, by_place}
use Rattle.checker.proofs.tamulehk_check_times.Goals as goal

pub returns-in-Ok : goal.returns-in-Ok
returns-in-Ok c = let r = lends_sheet c.args.file.now _ _ c.in-Ok.admitted (rw c.in-Ok.is at c.lend.ensures) in
    handed (times_read _ c.args.p c.args.q c.args.times.now _ r.next r.is _ c.check_times.ensures) (by_reason answer_times (λ r. refl) _ c.of_times.ensures)

pub returns-in-Err : goal.returns-in-Err
returns-in-Err c =
    let r = lends_refused c.args.file.now _ _ c.in-Err.refusal (omega arith) (omega arith) (rw c.in-Err.is at c.lend.ensures) in
    handed (times_refused_first _ c.args.p c.args.q c.args.times.now _ r) (by_place _ c.refuse_at.ensures)
