-- `text::Text::spell` meets its contract: the last digit stands after those of the tenth part. The measure is the digits left.
use Rattle.text.proofs.Text.+spell.Given as goal

abbrev pub decreases-spell : goal.decreases-spell
decreases-spell l = l.left
