-- `lines::put_plan` meets its contract: the word, q, rounds, the feed, the positions.
use mathlib.Core.Path.{refl}
use Rattle.text.proofs.Puts.{adds_then}
use Rattle.lines.proofs.Listed.{rows_cut}
use Rattle.lines.proofs.put_plan.Goals as goal

pub returns-clause-adds : goal.returns-clause-adds
returns-clause-adds c = let a = c.args in
    let first = adds_then c.word.ensures (adds_then c.put_spaced.ensures.adds (adds_then c.put_spaced-2.ensures.adds c.byte.ensures)) in
    adds_then first (rw (rows_cut a.n a.positions _ a.plan.now c.requires.1 refl c.requires.4) at c.put_positions.ensures.adds)
