-- `walk::walk` meets its contract. The invariant: the turn, the times and the marks are a state of the walk. The measure is how many turns are left.
use Rattle.std.proofs.Common.{◌≡◌, length}
use Rattle.turns.specs.Rounds.{Parts}
use Rattle.turns.proofs.Walking.{State}
use Rattle.walk.proofs.walk.Given as goal

abbrev pub invariant-loop-turn : goal.invariant-loop-turn
invariant-loop-turn l =
    (parts : Parts l.fn.list l.job.sheet.n l.job.start l.job.sheet.schedule.now l.job.sheet.positions) (room : length l.fn.list ≡ 4608) →
    State l.fn.list l.job parts room l.turn l.old l.new l.row

abbrev pub decreases-loop-turn : goal.decreases-loop-turn
decreases-loop-turn l = l.turn.left
