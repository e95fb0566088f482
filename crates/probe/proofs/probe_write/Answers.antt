-- `probe::probe_write` meets its contract: the answer, handed over.
use mathlib.Core.Path.{refl}
use Rattle.writer.specs.Answers.{answer_written}
use Rattle.values.proofs.Handing.{handed, by_reason}
use Rattle.probe.proofs.probe_write.Goals as goal

pub returns : goal.returns
returns c = handed c.write_sheet.ensures (by_reason answer_written (λ r. refl) _ c.of_length.ensures.written)
