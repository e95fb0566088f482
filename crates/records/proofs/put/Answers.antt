-- `records::put` meets its contract: a store past the end changes nothing.
use mathlib.Core.Path.{sym}
use lib.Seq.{set_out}
use Rattle.records.proofs.put.Goals as goal

pub returns-else-is_inside : goal.returns-else-is_inside
returns-else-is_inside g c = sym (set_out c.args.list.now c.args.place c.args.value c.if-is_inside.false)
