-- `lines::put_numbers` meets its contract. The invariant: the first number is added, and those after it that the loop has met, each after a space.
use Rattle.std.proofs.Common.{◌+◌, ◌*◌, ◌≤◌, ◌++◌, take}
use Rattle.text.specs.Text.{decimal, Adds}
use Rattle.lines.proofs.Listed.{spaced}
use Rattle.lines.proofs.put_numbers.Given as goal

abbrev pub invariant-loop-number : goal.invariant-loop-number
invariant-loop-number l =
    (l.text.at ≤ l.fn.text.at + 20 + l.number-index * 21) × Adds l.fn.text (decimal l.first ++ spaced (take l.number-index l.rest)) l.text
