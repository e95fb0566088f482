-- What is left of a count: one fewer after a turn, and nothing at the end.
use mathlib.Core.Path.{◌≡◌}
use Prim.Native.Nat.{ℕ, suc, ◌+◌, ◌-◌, ◌≤◌, ◌<◌}
use native.Mathlib.Omega.{arith}

pub one : (n k : ℕ) → k < n → n - k ≡ suc (n - (k + 1))
one n k h = omega arith

pub none : (n k : ℕ) → n ≤ k → n - k ≡ 0
none n k h = omega arith
