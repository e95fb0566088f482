-- `keeping::proposals::lifted` meets its contract: the sum is the integers', and in reach it is not below zero.
use mathlib.Core.Path.{◌≡◌, refl}
use native.Mathlib.Omega.{arith}
use lib.IntN.{pos, ◌+ℤ◌}
use mir.ValLaws.{to_z-of_z}
use mir.Syntax.{w64}
use mir.Val.{SFits}
use Rattle.keeping.specs.Breaks.{lift}
use Rattle.keeping.proofs.Reach.{lifts}
use Rattle.keeping.proofs.proposals.lifted.Goals as goal

pub overflow_add-result : goal.overflow_add-result
overflow_add-result c =
    let sum : c.args.time +ℤ pos 382000000000 ≡ pos (lift c.args.time) = (lifts c.args.time c.requires).0 in
    let fits : SFits w64 (c.args.time +ℤ pos 382000000000) = rw sum (record { sfits = omega (arith, (lifts c.args.time c.requires).1) }) in
    rw (to_z-of_z w64 c.args.time c.ranges.time) fits

pub overflow_cast-result : goal.overflow_cast-result
overflow_cast-result c =
    let sum : c.args.time +ℤ pos 382000000000 ≡ pos (lift c.args.time) = (lifts c.args.time c.requires).0 in
    let fits : SFits w64 (c.args.time +ℤ pos 382000000000) = rw sum (record { sfits = omega (arith, (lifts c.args.time c.requires).1) }) in
    rw (to_z-of_z w64 c.args.time c.ranges.time, to_z-of_z w64 _ fits, sum) (tt, record { fits = omega (arith, (lifts c.args.time c.requires).1) })

pub returns : goal.returns
returns c =
    let sum : c.args.time +ℤ pos 382000000000 ≡ pos (lift c.args.time) = (lifts c.args.time c.requires).0 in
    let fits : SFits w64 (c.args.time +ℤ pos 382000000000) = rw sum (record { sfits = omega (arith, (lifts c.args.time c.requires).1) }) in
    rw (to_z-of_z w64 c.args.time c.ranges.time, to_z-of_z w64 _ fits, sum) (refl, (lifts c.args.time c.requires).1)
