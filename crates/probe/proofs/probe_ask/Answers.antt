-- `probe::probe_ask` meets its contract: the answer, handed over.
use mathlib.Core.Path.{refl}
use Rattle.ask.specs.Answers.{answer_asked}
use Rattle.values.proofs.Handing.{handed, by_reason}
use Rattle.probe.proofs.probe_ask.Goals as goal

pub returns : goal.returns
returns c = handed c.ask.ensures (by_reason answer_asked (λ r. refl) _ c.of_asked.ensures)
