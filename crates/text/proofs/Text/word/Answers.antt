-- `text::Text::word` meets its contract. The invariant: the bytes that the loop has met are added.
use Rattle.text.proofs.Puts.{adds_more}
use Rattle.text.proofs.Text.word.Goals as goal

pub loop-byte-preserved : goal.loop-byte-preserved
loop-byte-preserved c = adds_more c.args.word.now c.loop-byte.byte-index c.loop-byte-test.true c.loop-byte.invariant c.byte.ensures
