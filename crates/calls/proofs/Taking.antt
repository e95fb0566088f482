-- Whether a list is long enough is told by the places that are needed.
use mathlib.Core.Path.{◌≡◌, refl}
use mathlib.Core.Bool.{Bool, true, false}
use mathlib.Core.List.{List}
use Prim.Native.Nat.{ℕ}
use native.Mathlib.Omega.{arith}
use borrow.Author.Tests.{leb-true, leb-false, le-leb, lt-leb}
use lib.Dec.{leb}
use lib.ListN.{length, take, length-take}

pub long_same : {A : Type 0} (k : ℕ) (l : List A) → leb k (length (take k l)) ≡ leb k (length l)
long_same k l = go (leb k (length l)) refl
  where
    go : (b : Bool) → leb k (length l) ≡ b → leb k (length (take k l)) ≡ b
    go true e = le-leb k (length (take k l)) (omega (arith, length-take k l, leb-true k (length l) e))
    go false e = lt-leb k (length (take k l)) (omega (arith, length-take k l, leb-false k (length l) e))
