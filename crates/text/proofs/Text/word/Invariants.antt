-- `text::Text::word` meets its contract. The invariant: the bytes that the loop has met are added.
use Rattle.std.proofs.Common.{take}
use Rattle.text.specs.Text.{Adds}
use Rattle.text.proofs.Text.word.Given as goal

abbrev pub invariant-loop-byte : goal.invariant-loop-byte
invariant-loop-byte l = Adds l.initial.self (take l.byte-index l.word) l.self
