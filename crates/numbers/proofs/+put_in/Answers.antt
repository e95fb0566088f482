-- `numbers::put_in` meets its contract: the first group is stored, and the rest is written after it; the groups that are left fall.
use Rattle.numbers.specs.Groups.{grouped}
use Rattle.numbers.proofs.Writing.{sets_out, put_one, put_more}
use mathlib.Core.Path.{sym, ◌∙◌}
use native.Mathlib.Omega.{arith}
use lib.ListN.{length-set}
use Rattle.numbers.proofs.+put_in.Goals as goal

pub returns-then-left-eq0 : goal.returns-then-left-eq0
unfolding grouped
returns-then-left-eq0 t c = rw c.if-left-eq0.true

pub returns-then-out-at : goal.returns-then-out-at
returns-then-out-at t c = let a = c.args in sym (sets_out a.out.now a.at (grouped a.left a.value) c.if-out-at.true)

pub returns-then-value-lt128 : goal.returns-then-value-lt128
returns-then-value-lt128 t c = let a = c.args in
    put_one a.out.now a.at a.left a.value c.if-left-eq0.false c.if-value-lt128.true

pub overflow_sub-left : goal.overflow_sub-left
overflow_sub-left t c = omega (arith, c.if-left-eq0.false)

pub put_in-requires : goal.put_in-requires
put_in-requires t c = (omega (arith, c.if-left-eq0.false, c.decreases), tt)

pub shape_of-out : goal.shape_of-out
shape_of-out t c = c.put_in.auto.out ∙ simp length-set

pub returns : goal.returns
returns t c = let a = c.args in
    c.put_in.ensures
    ∙ put_more a.out.now a.at a.left a.value c.if-left-eq0.false c.if-value-lt128.false
