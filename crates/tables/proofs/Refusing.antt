-- Refusals one after the other, of which the first that fits is the answer: none fits where all are passed.
use mathlib.Core.Path.{◌≡◌, refl, sym}
use mathlib.Core.Logic.{◌≢◌}
use mathlib.Core.Bool.{Bool, true, false}
use Prim.Native.Nat.{ℕ, zero, suc, ◌≤◌, ◌<◌}
use native.Mathlib.Omega.{arith}
use Rattle.tables.specs.Sheets.{unless, otherwise}

pub unless_none : (b : Bool) (k rest : ℕ) → 0 < k → unless b k rest ≡ 0 → (b ≡ true) × (rest ≡ 0)
unless_none true k rest some e = (refl, e)
unless_none false k rest some e = absurd (omega arith)

pub otherwise_none : (a rest : ℕ) → otherwise a rest ≡ 0 → (a ≡ 0) × (rest ≡ 0)
otherwise_none zero rest e = (refl, e)
otherwise_none (suc a) rest e = absurd (omega arith)

-- a refusal that fits is the answer, whatever follows it
pub otherwise_first : (a k rest : ℕ) → k ≡ a → k ≢ 0 → otherwise a rest ≡ k
otherwise_first zero k rest e some = absurd (some e)
otherwise_first (suc a) k rest e some = sym e

-- no refusal is above the largest of their numbers
pub unless_few : (b : Bool) (k rest most : ℕ) → k ≤ most → rest ≤ most → unless b k rest ≤ most
unless_few true k rest most here there = there
unless_few false k rest most here there = here

pub otherwise_few : (a rest most : ℕ) → a ≤ most → rest ≤ most → otherwise a rest ≤ most
otherwise_few zero rest most here there = there
otherwise_few (suc a) rest most here there = here

-- ---- what is judged first: a sheet, and then p and q
-- where one of the two is refused, so is a call, whatever it tests after them
pub front_refused : (a : ℕ) (t : Bool) (rest k : ℕ) → k ≡ otherwise a (unless t 10 0) → k ≢ 0 → otherwise a (unless t 10 rest) ≡ k
front_refused zero true rest k e some = absurd (some e)
front_refused zero false rest k e some = sym e
front_refused (suc a) t rest k e some = sym e

-- and where neither is
pub front_granted : (a : ℕ) (t : Bool) → 0 ≡ otherwise a (unless t 10 0) → (a ≡ 0) × (t ≡ true)
front_granted zero true e = (refl, refl)
front_granted zero false e = absurd (omega arith)
front_granted (suc a) t e = absurd (omega arith)
