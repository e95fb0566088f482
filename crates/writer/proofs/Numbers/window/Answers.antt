-- `writer::Numbers::window` meets its contract: four numbers, each after the one before.
use Rattle.writer.proofs.Runs.{adds_then}
use Rattle.writer.proofs.Numbers.window.Goals as goal

pub returns-clause-adds : goal.returns-clause-adds
returns-clause-adds c = adds_then c.number.ensures.adds (adds_then c.number-2.ensures.adds (adds_then c.number-3.ensures.adds c.number-4.ensures.adds))
