-- `lines::put_arcs` meets its contract. The invariant: the lines of the arcs that the loop has met are added.
use mathlib.Core.Path.{◌≡◌}
use Prim.Native.Nat.{◌*◌, ◌/◌}
use native.Mathlib.Omega.{arith}
use native.Mathlib.Nat.{div-mul-le_self, mul-div-le}
use lib.ListN.{length, take, drop}
use Rattle.text.proofs.Puts.{nothing_adds}
use Rattle.lines.proofs.Listed.{row_copied, rows_more, arcs_rows}
use Rattle.lines.proofs.put_arcs.Goals as goal

pub loop-arc-init : goal.loop-arc-init
unfolding Rattle.lines.specs.Buffers.times_lines
loop-arc-init c = (omega arith, nothing_adds _)

pub put_numbers-requires : goal.put_numbers-requires
put_numbers-requires c = (omega (arith, c.loop-arc.invariant.0, c.loop-arc-test.true, c.as_chunks.ensures.front_len, c.requires), omega (arith, c.map.ensures.items.long))

pub loop-arc-preserved : goal.loop-arc-preserved
loop-arc-preserved c = let i = c.loop-arc.invariant in
    let e = c.put_numbers.ensures in
    let m = c.map.ensures.items in
    let all = c.args.circuit.now in
    let k = c.loop-arc.arc-index in
    let row : c.map.result ≡ take 4 (drop (k * 4) all) =
    row_copied 4 k (length all / 4) all c.map.result _ c.as_chunks.ensures.front (omega (arith, c.loop-arc-test.true, c.as_chunks.ensures.front_len)) (div-mul-le_self _ _) m.long (λ j h. (m.at j 0 0 h).2.met) in
    (omega (arith, i.0, e.short, m.long), rows_more 4 k all i.1 (rw (← row) e.adds))

pub returns-clause-adds : goal.returns-clause-adds
returns-clause-adds c = let all = c.args.circuit.now in
    let counted : c.loop-arc.arc-index ≡ length all / 4 = omega (arith, c.loop-arc-test.false, c.loop-arc.auto.arc-index-end, c.as_chunks.ensures.front_len) in
    rw (arcs_rows (length all / 4) all (mul-div-le _ _), ← counted) c.loop-arc.invariant.1
