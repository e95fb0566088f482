-- `walk::pass` meets its contract. The invariant: the boards are what the records passed make of them.
use Rattle.std.proofs.Common.{◌≡◌, take}
use Rattle.turns.specs.Rounds.{board, after, passed}
use Rattle.walk.proofs.pass.Given as goal

abbrev pub invariant-loop-record : goal.invariant-loop-record
invariant-loop-record l = board l.new l.row ≡ after l.old (passed l.turn.at (take l.record-index l.records)) (board l.initial.new l.initial.row)
