-- `numbers::with_sign` meets its contract: the bits of a size, complemented, are those of the negative number.
use mir.Syntax.{w32}
use mir.ValLaws.{to_z_pos}
use Rattle.numbers.proofs.Signs.{unflip}
use Rattle.numbers.proofs.with_sign.Goals as goal

pub returns-then-negative : goal.returns-then-negative
returns-then-negative c = rw c.if-negative.true (unflip c.args.size c.requires)

pub returns-else-negative : goal.returns-else-negative
returns-else-negative c = rw c.if-negative.false (to_z_pos w32 c.args.size c.requires)
