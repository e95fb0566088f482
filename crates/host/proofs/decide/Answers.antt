-- `host::decide` meets its contract: the number of the outcome of Ask.
use mathlib.Core.Path.{refl, sym, subst}
use Rattle.ask.specs.Answers.{answer_asked}
use Rattle.tables.specs.Lent.{lent}
use Rattle.tables.specs.Sheets.{timed}
use Rattle.calls.specs.Host.{Answers}
use Rattle.calls.proofs.Host.Asking.{answers}
use Rattle.host.proofs.decide.Goals as goal

pub returns : goal.returns
returns c = let g = c.args in let t = g.time in
    subst (Answers (timed t.top t.bottom) (lent g.admitted.now.sheet) t.top t.bottom) (sym c.number_of.ensures)
    (answers _ t.top t.bottom _ _ g.admitted.now.admitted refl refl (answer_asked c.ask.result) c.ask.new.plan c.ask.new.circuit c.ask.ensures)
