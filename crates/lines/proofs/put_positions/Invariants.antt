-- `lines::put_positions` meets its contract. The invariant: the lines of the positions that the loop has met are added.
use Rattle.std.proofs.Common.{◌≡◌, ◌+◌, ◌*◌, ◌≤◌, length}
use Rattle.text.specs.Text.{Adds}
use Rattle.lines.specs.Buffers.{times_lines}
use Rattle.lines.proofs.Listed.{Met}
use Rattle.lines.proofs.put_positions.Given as goal

abbrev pub invariant-loop-times : goal.invariant-loop-times
invariant-loop-times l =
    (l.times-iterator.size ≡ l.n) × Met l.n l.plan (length l.yielded) l.times-iterator.rest.now × (l.text.at ≤ l.initial.text.at + length l.yielded * l.n * 21)
    × Adds l.initial.text (times_lines l.plan l.n (length l.yielded)) l.text
