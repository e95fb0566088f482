-- `probe::probe_arcs` meets its contract: the answer, handed over.
use mathlib.Core.Path.{refl}
use Rattle.refuting.specs.Answers.{answer_arcs}
use Rattle.values.proofs.Handing.{handed, by_reason}
use Rattle.probe.proofs.probe_arcs.Goals as goal

pub returns : goal.returns
returns c = handed c.check_arcs.ensures (by_reason answer_arcs (λ r. refl) _ c.of_arcs.ensures)
