-- `lines::put_arcs` meets its contract. The invariant: the lines of the arcs that the loop has met are added.
use Rattle.std.proofs.Common.{◌+◌, ◌*◌, ◌≤◌}
use Rattle.text.specs.Text.{Adds}
use Rattle.lines.specs.Buffers.{times_lines}
use Rattle.lines.proofs.put_arcs.Given as goal

abbrev pub invariant-loop-arc : goal.invariant-loop-arc
invariant-loop-arc l = (l.text.at ≤ l.initial.text.at + l.arc-index * 84) × Adds l.initial.text (times_lines l.circuit 4 l.arc-index) l.text
