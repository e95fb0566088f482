-- The first walk gives the length; the second, over the same sheet, writes it.
use mathlib.Core.Path.{sym, ap, ◌∙◌}
use mathlib.Core.List.{[]}
use native.Mathlib.Omega.{arith}
use Rattle.tables.specs.declared.sheets.Sheet.{Sheet}
use Rattle.tables.specs.Lent.{lent}
use Rattle.sheet.specs.Written.{sheet_numbers}
use Rattle.writer.specs.Steps.{run}
use Rattle.writer.proofs.Outcomes.{walked_length, writes_short, writes_done}
use Rattle.writer.proofs.write_sheet.Goals as goal

pub returns-then-is_short : goal.returns-then-is_short
returns-then-is_short c = let a = c.args in let ok = c.in_ok-admitted.ensures in
    writes_short (lent a.sheet.now) a.out.now (sym ok.judged) _ _ _ (c.write_all-length.ensures ∙ ap (λ (s : Sheet). run [] 0 (sheet_numbers (lent s))) ok.same) c.if-is_short.true

pub returns : goal.returns
returns c = let a = c.args in let ok = c.in_ok-admitted.ensures in
    let long = walked_length (lent a.sheet.now) a.out.now _ _ _ (c.write_all-length.ensures ∙ ap (λ (s : Sheet). run [] 0 (sheet_numbers (lent s))) ok.same) in
    writes_done (lent a.sheet.now) a.out.now (sym ok.judged) _ _ (c.write_all.ensures ∙ ap (λ (s : Sheet). run a.out.now 0 (sheet_numbers (lent s))) ok.same) (omega (arith, long, c.if-is_short.false))
