-- `endings::put_none` meets its contract.
use Rattle.text.proofs.Puts.{adds_then}
use Rattle.lines.specs.Lines.{first_word, second_word}
use Rattle.lines.proofs.Listed.{circuit_cut}
use Rattle.endings.proofs.put_none.Goals as goal

pub returns-clause-adds : goal.returns-clause-adds
returns-clause-adds c = let a = c.args in
    let first = rw (circuit_cut first_word a.none.first a.first.now c.requires.3) at c.put_circuit.ensures.adds in
    let second = rw (circuit_cut second_word a.none.second a.second.now c.requires.4) at c.put_circuit-2.ensures.adds in
    adds_then (adds_then c.word.ensures c.byte.ensures) (adds_then first second)
