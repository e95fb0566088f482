-- `lines::put_circuit` meets its contract: the word, the count, the feed, the arcs.
use Rattle.text.proofs.Puts.{adds_then}
use Rattle.lines.proofs.put_circuit.Goals as goal

pub returns-clause-adds : goal.returns-clause-adds
returns-clause-adds c = adds_then (adds_then c.word.ensures (adds_then c.put_spaced.ensures.adds c.byte.ensures)) c.put_arcs.ensures.adds
