-- `endings::put_high` meets its contract: high's circuit stands in the part of the buffer that its arcs take.
use Rattle.lines.specs.Lines.{high_word}
use Rattle.lines.proofs.Listed.{circuit_cut}
use Rattle.endings.proofs.put_high.Goals as goal

pub returns-in-Some-clause-adds : goal.returns-in-Some-clause-adds
returns-in-Some-clause-adds c = let room = rw c.in-Some.is at c.requires.1 in
    rw c.in-Some.is (rw (circuit_cut high_word c.in-Some.at.arcs c.args.circuit.now room) at c.put_circuit.ensures.adds)
