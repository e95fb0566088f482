-- `writer::Numbers::mode` meets its contract: the count, and then the records.
use mathlib.Core.Path.{◌∙◌}
use Rattle.sheet.specs.Written.{mode_numbers}
use Rattle.writer.proofs.Rows.{counted}
use Rattle.writer.proofs.Runs.{adds_then}
use Rattle.writer.proofs.Numbers.mode.Goals as goal

pub returns-clause-adds : goal.returns-clause-adds
unfolding mode_numbers
returns-clause-adds c = adds_then (rw (c.count_windows.ensures ∙ counted c.args.part.now) at c.number.ensures.adds) c.windows.ensures.adds
