-- `writer::Numbers::windows` meets its contract. The invariant: the windows that the loop has not met are left.
use mathlib.Core.Path.{◌≡◌}
use native.Mathlib.Omega.{arith}
use borrow.Author.Rules.{rules}
use lib.IntN.{pos}
use lib.ListN.{get_or}
use mir.Syntax.{w32}
use mir.Val.{to_z, of_z}
use Rattle.writer.proofs.Runs.{leaves_all}
use Rattle.writer.proofs.Rows.{windows_next, windows_done}
use Rattle.writer.proofs.Numbers.windows.Goals as goal

pub loop-k-init : goal.loop-k-init
loop-k-init c = (omega arith, leaves_all _ _)

pub loop-k-preserved : goal.loop-k-preserved
loop-k-preserved c = let part = c.args.part.now in let l = c.loop-k in
    let v = get_or part l.k (pos 0) in
    let back : to_z w32 (of_z w32 v) ≡ v = search rules in
    (omega (arith, c.cell.ensures.near, l.invariant.0), windows_next part l.k c.args.n l.invariant.1 c.loop-k-test.true (rw back at c.cell.ensures.adds))

pub returns-clause-adds : goal.returns-clause-adds
returns-clause-adds c = windows_done c.args.part.now c.loop-k.k c.args.n c.loop-k.invariant.1 c.loop-k-test.false
