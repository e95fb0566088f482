-- Times in reach, and lifted: the machine's tests are those of the integer, and a time in reach, lifted, is not below zero.
use mathlib.Core.Path.{◌≡◌, refl, sym}
use mathlib.Core.Bool.{true, false}
use Prim.Native.Nat.{◌≤◌}
use native.Mathlib.Omega.{arith}
use borrow.Author.Tests.{leb-true, ltb-true, ltb-false, lt-ltb, le-ltb}
use lib.IntN.{ℤ, pos, negsuc, ◌+ℤ◌}
use lib.Signed.{lt_z, le_z}
use mir.Syntax.{w64}
use mir.Val.{SFits, to_z, of_z}
use mir.ValLaws.{to_z-of_z}
use Rattle.tables.proofs.Laws.{clash}
use Rattle.windows.proofs.Parts.{sum_parts, same_parts}
use Rattle.calls.specs.ProposedTimes.{in_reach}
use Rattle.calls.proofs.ProposedTimes.Refusals.{in_reach_lem}
use Rattle.keeping.specs.Breaks.{lift}

pub reach_low : (z : ℤ) → lt_z z (negsuc 381999999999) ≡ true → false ≡ in_reach z
reach_low (pos n) t = absurd (clash (sym t))
reach_low (negsuc n) t = sym (le-ltb n 382000000000 (omega (arith, ltb-true 381999999999 n t)))

pub reach_high : (z : ℤ) → lt_z z (negsuc 381999999999) ≡ false → le_z z (pos 382000000000) ≡ in_reach z
reach_high (pos n) t = refl
reach_high (negsuc n) t = sym (lt-ltb n 382000000000 (omega (arith, ltb-false 381999999999 n t)))

-- lifted it is a natural number
pub lifts : (z : ℤ) → in_reach z ≡ true → (z +ℤ pos 382000000000 ≡ pos (lift z)) × (lift z ≤ 764000000000)
lifts z e =
    let r = (in_reach_lem z).0 e in (
      same_parts (z +ℤ pos 382000000000) (pos (lift z)) (omega (arith, r.0, r.1, sum_parts z (pos 382000000000))),
      omega (arith, r.0, r.1),
    )

-- the machine's value of a time in reach is the time
pub fits : (z : ℤ) → in_reach z ≡ true → SFits w64 z
fits (pos n) e = record { sfits = omega (arith, leb-true n 382000000000 e) }
fits (negsuc n) e = record { sfits = omega (arith, ltb-true n 382000000000 e) }

pub passed : (z : ℤ) → in_reach z ≡ true → to_z w64 (of_z w64 z) ≡ z
passed z e = to_z-of_z w64 z (fits z e)
