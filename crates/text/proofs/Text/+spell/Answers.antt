-- `text::Text::spell` meets its contract: the last digit stands after those of the tenth part. The measure is the digits left.
use Rattle.text.proofs.Spelling.{spells_none, spells_last, spells_rest}
use Rattle.text.proofs.Text.+spell.Goals as goal
use Rattle.text.proofs.Text.+spell.Goals.{then-value-ge10, else-value-ge10}

pub returns-then-left-eq0-clause-adds : goal.returns-then-left-eq0-clause-adds
returns-then-left-eq0-clause-adds t c = let a = c.args in spells_none a.self.now a.left a.value c.if-left-eq0.true

pub returns-clause-adds : goal.returns-clause-adds
returns-clause-adds t c = let a = c.args in
    elim c.if-value-ge10.branch [
      | then-value-ge10 w ↦ spells_rest a.left a.value c.digit.result c.if-left-eq0.false c.digit.ensures w.if-value-ge10.true (rw w.self-is w.spell.ensures.adds) c.byte.ensures
      | else-value-ge10 w ↦ spells_last a.left a.value c.digit.result c.if-left-eq0.false c.digit.ensures w.if-value-ge10.false (rw (← w.self-is) c.byte.ensures)
    ]
