-- `lines::put_positions` meets its contract. The invariant: the lines of the positions that the loop has met are added.
use mathlib.Core.Path.{◌∙◌}
use mathlib.Core.List.{[], ◌∷◌}
use native.Mathlib.Omega.{arith}
use lib.ListN.{length-append}
use Rattle.text.proofs.Puts.{nothing_adds}
use Rattle.lines.proofs.Listed.{rows_more, met_none, met_row, met_more, met_all}
use Rattle.lines.proofs.put_positions.Goals as goal

pub loop-times-init : goal.loop-times-init
unfolding Rattle.lines.specs.Buffers.times_lines
loop-times-init c = let new = c.chunks_exact-times-items.ensures in
    rw (c.into_iter-times-iterator.ensures.into_iter_gives) (new.size, rw (new.rest) (met_none _ _), omega arith, nothing_adds _)

pub put_numbers-requires : goal.put_numbers-requires
put_numbers-requires c = let i = c.loop-times.invariant in
    let s = c.in-Some.ensures.steps in
    (omega (arith, i.2, i.1.inside, c.requires), omega (arith, s.1.1, i.0, c.requires))

pub loop-times-preserved : goal.loop-times-preserved
loop-times-preserved c = let i = c.loop-times.invariant in
    let s = c.in-Some.ensures.steps in
    let e = c.put_numbers.ensures in
    let x = c.in-Some.times.now in
    let long = s.1.1 ∙ i.0 in
    rw (length-append c.loop-times.yielded (c.in-Some.times ∷ [])) (
      s.0 ∙ i.0,
      met_more i.1 x _ s.1.0 long,
      omega (arith, e.short, i.2, long),
      rows_more _ _ _ i.3 (rw (← met_row i.1 x _ s.1.0 long) e.adds),
    )

pub returns-clause-adds : goal.returns-clause-adds
returns-clause-adds c = let i = c.loop-times.invariant in rw (met_all i.1 (omega (arith, c.in-None.ensures.steps, i.0))) i.3
