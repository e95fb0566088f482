-- Numbers that name a place of the tables name a window where it is not "no window".
use mathlib.Core.Path.{ap, ◌∙◌}
use Rattle.numbers.proofs.Signs.{passed}
use Rattle.tables.specs.Lent.{lent}
use Rattle.tables.specs.Sheets.{absent}
use Rattle.refuting.proofs.Present.{present_is}
use Rattle.refuting.proofs.is_window.Goals as goal

pub returns : goal.returns
returns c = let l = c.limit-value in
    present_is (lent c.args.line.now.sheet) c.args.arc _ _ c.is_named.ensures c.if-not-is_named.false (c.is_absent.ensures ∙ ap absent (passed l.result l.type_inv ∙ l.ensures))
