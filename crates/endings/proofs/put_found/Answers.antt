-- `endings::put_found` meets its contract.
use mathlib.Core.List.{◌++◌}
use Rattle.text.proofs.Puts.{adds_then}
use Rattle.ends.specs.Answers.{highest}
use Rattle.lines.specs.Lines.{low_word}
use Rattle.lines.specs.Buffers.{ends_text, circuit_text}
use Rattle.lines.proofs.Listed.{circuit_cut}
use Rattle.endings.proofs.put_found.Goals as goal

pub returns-clause-adds : goal.returns-clause-adds
returns-clause-adds c = let a = c.args in
    let ends = ends_text a.low.time.top a.low.time.bottom (highest a.high) in
    let low = circuit_text low_word a.first.now a.low.arcs in
    let first = adds_then {a = ends} c.put_ends.ensures.adds (rw (circuit_cut low_word a.low.arcs a.first.now c.requires.3) at c.put_circuit.ensures.adds) in
    adds_then {a = ends ++ low} first c.put_high.ensures.adds
