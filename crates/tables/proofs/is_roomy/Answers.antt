-- `tables::is_roomy` meets its contract: where the first test passes the second decides, and else neither does.
use mathlib.Core.Path.{sym, ap}
use mathlib.Core.Bool.{Bool, ◌&&◌}
use lib.Dec.{leb}
use borrow.Author.Tests.{le-leb, lt-leb}
use Rattle.tables.proofs.is_roomy.Goals as goal

pub returns-then-need-room : goal.returns-then-need-room
returns-then-need-room c = let a = c.args in ap (λ (b : Bool). b && leb a.other a.space) (sym (le-leb a.need a.room c.if-need-room.true))

pub returns-else-need-room : goal.returns-else-need-room
returns-else-need-room c = rw (lt-leb _ _ c.if-need-room.false)
