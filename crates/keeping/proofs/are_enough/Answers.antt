-- `keeping::are_enough` meets its contract: too few are refused before any is read.
use mathlib.Core.Path.{◌∙◌}
use lib.ListN.{length, take}
use borrow.Author.Tests.{le-leb}
use Rattle.calls.specs.ProposedTimes.{in_reach}
use Rattle.tables.proofs.Laws.{all_is}
use Rattle.keeping.proofs.are_enough.Goals as goal

pub returns : goal.returns
returns c = let a = c.args in rw (le-leb a.count (length a.times.now) c.if-too_few.false) (c.are_in_reach.ensures ∙ all_is in_reach (take a.count a.times.now))
