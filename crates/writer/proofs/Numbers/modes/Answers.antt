-- `writer::Numbers::modes` meets its contract. The invariant: the modes that the loop has not met are left.
use mathlib.Core.Path.{◌≡◌}
use Prim.Native.Nat.{ℕ, ◌+◌, ◌-◌, ◌*◌}
use native.Mathlib.Omega.{arith}
use Rattle.writer.proofs.Rows.{modes_first, modes_next, modes_done}
use Rattle.writer.proofs.Numbers.modes.Goals as goal

-- the part's own length
size_is : (b k : ℕ) → b + k - b ≡ k
size_is b k = omega arith

pub loop-t-init : goal.loop-t-init
loop-t-init c = let a = c.args in (omega arith, modes_first a.self.now a.sheet.now.tables.now a.sheet.now.n a.sheet.now.m)

pub loop-t-preserved : goal.loop-t-preserved
loop-t-preserved c = let a = c.args in let l = c.loop-t in
    let k = 4 * (a.sheet.now.n * a.sheet.now.n) in
    (omega (arith, c.mode.ensures.near, l.invariant.0), modes_next a.sheet.now.tables.now a.sheet.now.n a.sheet.now.m l.t l.invariant.1 c.loop-t-test.true (rw (size_is (l.t * k) k) at c.mode.ensures.adds))

pub returns : goal.returns
returns c = let a = c.args in let l = c.loop-t in modes_done a.sheet.now.tables.now a.sheet.now.n a.sheet.now.m l.t l.invariant.1 c.loop-t-test.false
