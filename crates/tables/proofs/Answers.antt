-- Equal answers have the same number, the same values and as many of them.
use mathlib.Core.Path.{◌≡◌, ap}
use Prim.Native.Nat.{ℕ}
use lib.ListN.{get_or, length}
use Rattle.tables.specs.Answers.{Answer}

pub number_same : {a b : Answer} → a ≡ b → a.number ≡ b.number
number_same e = ap (λ (x : Answer). x.number) e

pub value_same : {a b : Answer} (k : ℕ) → a ≡ b → get_or a.values k 0 ≡ get_or b.values k 0
value_same k e = ap (λ (x : Answer). get_or x.values k 0) e

pub many_same : {a b : Answer} → a ≡ b → length a.values ≡ length b.values
many_same e = ap (λ (x : Answer). length x.values) e
