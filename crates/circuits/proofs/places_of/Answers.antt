-- Each arm gives the nodes of its kind.
use mathlib.Core.Path.{◌≡◌, refl, sym, ap}
use Prim.Native.Nat.{ℕ, zero, suc, ◌≤◌}
use native.Mathlib.Omega.{arith}
use Rattle.circuits.specs.Ways.{at, places_of}
use Rattle.circuits.proofs.places_of.Goals as goal

other : (k u v : ℕ) → 4 ≤ k → at 0 0 0 ≡ places_of k u v
unfolding places_of
other zero u v h = absurd (omega arith)
other (suc zero) u v h = absurd (omega arith)
other (suc (suc zero)) u v h = absurd (omega arith)
other (suc (suc (suc zero))) u v h = absurd (omega arith)
other (suc (suc (suc (suc k)))) u v h = refl

-- the arm of a kind
arm : (k kind u v : ℕ) → kind ≡ k → places_of k u v ≡ places_of kind u v
arm k kind u v e = ap (λ (j : ℕ). places_of j u v) (sym e)

pub returns-in-0 : goal.returns-in-0
unfolding places_of
returns-in-0 c = let a = c.args in arm 0 a.kind a.u a.v c.in-0.is

pub returns-in-1 : goal.returns-in-1
unfolding places_of
returns-in-1 c = let a = c.args in arm 1 a.kind a.u a.v c.in-1.is

pub returns-in-2 : goal.returns-in-2
unfolding places_of
returns-in-2 c = let a = c.args in arm 2 a.kind a.u a.v c.in-2.is

pub returns-in-3 : goal.returns-in-3
unfolding places_of
returns-in-3 c = let a = c.args in arm 3 a.kind a.u a.v c.in-3.is

pub returns-in-4-to-65535 : goal.returns-in-4-to-65535
returns-in-4-to-65535 c = let a = c.args in
    other a.kind a.u a.v (omega arith)
