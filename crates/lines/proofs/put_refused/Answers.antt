-- `lines::put_refused` meets its contract: the word, the number, the place, the feed.
use Rattle.text.proofs.Puts.{adds_then}
use Rattle.lines.proofs.put_refused.Goals as goal

pub returns-clause-adds : goal.returns-clause-adds
returns-clause-adds c = rw (← c.from.ensures) (adds_then c.word.ensures (adds_then c.put_spaced.ensures.adds (adds_then c.put_spaced-2.ensures.adds c.byte.ensures)))
