-- `endings::put_ends` meets its contract, word by word.
use Rattle.text.proofs.Puts.{adds_then}
use Rattle.endings.proofs.put_ends.Goals as goal

pub returns-clause-adds : goal.returns-clause-adds
returns-clause-adds c = adds_then c.word.ensures (adds_then c.byte.ensures (adds_then c.put_fraction.ensures.adds (adds_then c.byte-2.ensures (adds_then c.put_highest.ensures.adds c.byte-3.ensures))))
