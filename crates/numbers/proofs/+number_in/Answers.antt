-- `numbers::number_in` meets its contract. It is its definition, unrolled once; the groups that are left fall.
use Rattle.numbers.specs.Groups.{number_in, group, followed}
use Rattle.numbers.proofs.Reading.{unroll, three, group_one, group_more}
use borrow.Author.Tests.{le-ltb}
use mathlib.Core.Path.{sym, ap, ◌∙◌}
use native.Mathlib.Omega.{arith}
use Prim.Native.Nat.{◌-◌, ◌+◌, ◌%◌}
use Rattle.numbers.proofs.+number_in.Goals as goal

pub returns-then-left-eq0 : goal.returns-then-left-eq0
unfolding number_in
returns-then-left-eq0 t c = rw c.if-left-eq0.true

pub returns-then-file-at : goal.returns-then-file-at
unfolding group
returns-then-file-at t c = rw (unroll _ _ _ c.if-left-eq0.false, le-ltb _ _ c.if-file-at.true)

pub returns-then-byte-lt128 : goal.returns-then-byte-lt128
returns-then-byte-lt128 t c = let a = c.args in
    group_one a.file.now a.at c.from-byte.result _ (omega arith) c.from-byte.ensures c.if-byte-lt128.true ∙ sym (unroll a.left a.file.now a.at c.if-left-eq0.false)

pub number_in-requires : goal.number_in-requires
number_in-requires t c = omega (arith, c.if-left-eq0.false)

pub follow-requires : goal.follow-requires
follow-requires t c = let a = c.args in
    record { low = omega arith; rest = rw c.number_in.ensures (three (a.left - 1) a.file.now (a.at + 1) (omega (arith, c.requires))) }

pub returns : goal.returns
returns t c = let a = c.args in
    c.follow.ensures
    ∙ ap (followed a.at (c.from-byte.result % 128)) c.number_in.ensures
    ∙ group_more a.file.now a.at c.from-byte.result (number_in (a.left - 1) a.file.now (a.at + 1)) (omega arith) c.from-byte.ensures c.if-byte-lt128.false
    ∙ sym (unroll a.left a.file.now a.at c.if-left-eq0.false)
