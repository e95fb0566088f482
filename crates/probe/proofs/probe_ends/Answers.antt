-- `probe::probe_ends` meets its contract: the answer, handed over.
use mathlib.Core.Path.{refl}
use Rattle.ends.specs.Answers.{answer_ended}
use Rattle.values.proofs.Handing.{handed, by_reason}
use Rattle.probe.proofs.probe_ends.Goals as goal

pub returns : goal.returns
returns c = handed c.ends.ensures (by_reason answer_ended (λ r. refl) _ c.of_ended.ensures)
