-- `text::Text::number` meets its contract: twenty digits are enough.
use Rattle.text.proofs.Text.number.Goals as goal

pub returns-clause-adds : goal.returns-clause-adds
returns-clause-adds c = c.spell.ensures.adds
