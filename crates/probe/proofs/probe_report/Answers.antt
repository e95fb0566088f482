-- `probe::probe_report` meets its contract: the answer, handed over.
use mathlib.Core.Path.{refl}
use Rattle.report.specs.Told.{answer_told}
use Rattle.values.proofs.Handing.{handed, by_reason}
use Rattle.probe.proofs.probe_report.Goals as goal

pub returns : goal.returns
returns c = handed c.report.ensures (by_reason answer_told (λ r. refl) _ c.of_length.ensures.told)
