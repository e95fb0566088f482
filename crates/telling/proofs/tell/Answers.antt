-- `telling::tell` meets its contract: the sheet told of is the one that the bytes are read as.
use mathlib.Core.Path.{refl}
use native.Mathlib.Omega.{arith}
use Rattle.std.proofs.Common.{rules}
use Rattle.sheet.specs.File.{sheet_in}
use Rattle.reader.proofs.Lending.{lends_sheet, lends_refused}
use Rattle.telling.specs.Tells.{Tells}
use Rattle.telling.specs.Steps.{TextStands}
use Rattle.telling.proofs.Telling.{tells_refused, tells_got, begun}
use Rattle.telling.proofs.tell.Goals.{in-Ok, in-Err}
use Rattle.telling.proofs.tell.Goals as goal

pub returns : goal.returns
returns c = let end = c.match-lend.text in
    let stands : TextStands (Tells (sheet_in c.args.file.now)) c.args.out.now end.at end.out.now = elim c.match-lend.branch [
      | in-Ok w ↦ let r = lends_sheet c.args.file.now _ _ w.in-Ok.admitted (rw w.in-Ok.is at c.lend.ensures) in rw w.text-is (begun refl (tells_got _ _ r.next r.is w.tell_admitted.ensures))
      | in-Err w ↦
          let r = lends_refused c.args.file.now _ _ w.in-Err.refusal (omega arith) (omega arith) (rw w.in-Err.is at c.lend.ensures) in
          let told = tells_refused _ _ r (rw w.from.ensures at w.put_refused.ensures.adds) in
          rw w.text-is (begun refl told)
    ] in
    search rules
