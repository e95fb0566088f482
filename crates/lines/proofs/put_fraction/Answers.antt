-- `lines::put_fraction` meets its contract: the top, the slash, the bottom.
use Rattle.text.proofs.Puts.{adds_then}
use Rattle.lines.proofs.put_fraction.Goals as goal

pub returns-clause-adds : goal.returns-clause-adds
returns-clause-adds c = adds_then c.number.ensures.adds (adds_then c.byte.ensures c.number-2.ensures.adds)
