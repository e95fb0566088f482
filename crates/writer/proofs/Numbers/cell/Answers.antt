-- `writer::Numbers::cell` meets its contract: by whether the value says a window.
use Rattle.numbers.specs.Signs.{encoded}
use Rattle.numbers.proofs.Signs.{passed}
use Rattle.tables.specs.Sheets.{absent}
use Rattle.sheet.specs.Written.{cell, records}
use Rattle.writer.proofs.Runs.{nothing_adds}
use mathlib.Core.Path.{◌≡◌, sym, ap, ◌∙◌}
use Rattle.writer.proofs.Numbers.cell.Goals as goal

pub returns-then-absent-clause-adds : goal.returns-then-absent-clause-adds
unfolding cell records
returns-then-absent-clause-adds c = rw (sym (ap absent (passed c.args.value c.ranges.value.sfits)) ∙ sym c.is_absent-absent.ensures ∙ c.if-absent.true) (nothing_adds c.args.self.now)

pub returns-clause-adds : goal.returns-clause-adds
unfolding cell records
returns-clause-adds c = let e : c.encode.result ≡ encoded c.args.value = c.encode.ensures ∙ ap encoded (passed c.args.value c.ranges.value.sfits) in
    rw (sym (ap absent (passed c.args.value c.ranges.value.sfits)) ∙ sym c.is_absent-absent.ensures ∙ c.if-absent.false) (rw e at c.window.ensures.adds)
