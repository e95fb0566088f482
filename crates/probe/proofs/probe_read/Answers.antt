-- `probe::probe_read` meets its contract: the answer, handed over.
use mathlib.Core.Path.{refl}
use Rattle.reader.specs.Answers.{answer_read}
use Rattle.values.proofs.Handing.{handed, by_refusal}
use Rattle.probe.proofs.probe_read.Goals as goal

pub returns : goal.returns
returns c = handed c.read_sheet.ensures (by_refusal answer_read (λ r. refl) _ c.of_read.ensures)
