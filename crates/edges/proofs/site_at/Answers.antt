-- Each branch is a case of `site_of`.
use Prim.Native.Nat.{ℕ, ◌*◌, ◌+◌, ◌≤◌}
use native.Mathlib.Omega.{arith}
use native.Mathlib.Nat.{mul-le-mul}
use borrow.Author.Tests.{eq-eqb, ne_eqb}
use Rattle.edges.specs.Edges.{site_of}
use Rattle.edges.proofs.site_at.Goals as goal

small : (g n : ℕ) → g ≤ 16 → n ≤ 12 → g * n ≤ 192
small g n h k = mul-le-mul h k

pub overflow_mul-here : goal.overflow_mul-here
overflow_mul-here c = omega (arith, small c.args.g c.args.sheet.now.n (omega arith) c.requires.2)

pub returns-then-g-sheet : goal.returns-then-g-sheet
unfolding site_of
returns-then-g-sheet c = rw (eq-eqb _ _ c.if-g-sheet.true)

pub overflow_mul-result : goal.overflow_mul-result
overflow_mul-result c = omega (arith, small (c.args.g + 1) c.args.sheet.now.n (omega arith) c.requires.2)

pub returns : goal.returns
unfolding site_of
returns c = rw (ne_eqb _ _ c.if-g-sheet.false)
