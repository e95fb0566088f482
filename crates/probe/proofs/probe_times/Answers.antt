-- `probe::probe_times` meets its contract: the answer, handed over.
use mathlib.Core.Path.{refl}
use Rattle.keeping.specs.Answers.{answer_times}
use Rattle.values.proofs.Handing.{handed, by_reason}
use Rattle.probe.proofs.probe_times.Goals as goal

pub returns : goal.returns
returns c = handed c.check_times.ensures (by_reason answer_times (λ r. refl) _ c.of_times.ensures)
