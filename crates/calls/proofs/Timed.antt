-- The refusals that every call at a cycle time begins with: the sheet's 4, 5, 6 and then 10 for p and q, before what the call itself refuses.
use mathlib.Core.Path.{◌≡◌}
use mathlib.Core.Bool.{true}
use Prim.Native.Nat.{ℕ, ◌≤◌}
use native.Mathlib.Omega.{arith}
use borrow.Author.Tests.{leb-true}
use lib.Dec.{leb}
use Rattle.tables.specs.Sheets.{Sheet, within, timed, unless, sized, scheduled, admitted, refusal, otherwise}
use Rattle.tables.proofs.Refusing.{unless_none, unless_few, otherwise_none, otherwise_few}
use Rattle.tables.specs.Admitted.{Admitted}
use Rattle.tables.proofs.Laws.{both, within_is, accepted}

module _ (s : Sheet) (p q rest : ℕ) where
  -- none of these fits, nor the rest
  pub record Timely : Type 0 where
    pub admitted : refusal s ≡ 0
    pub in_time : timed p q ≡ true
    pub sheet_ok : Admitted s
    pub q_some : 1 ≤ q
    pub q_small : q ≤ 1000
    pub p_small : p ≤ 1000000000
    pub rest_none : rest ≡ 0

  pub timely : otherwise (refusal s) (unless (timed p q) 10 rest) ≡ 0 → Timely
  timely e =
      let a = otherwise_none (refusal s) (unless (timed p q) 10 rest) e in
      let b = unless_none (timed p q) 10 rest (omega arith) a.1 in
      let t = both (within 1000 q) (leb p 1000000000) b.0 in
      let w = within_is 1000 q t.0 in
      record { admitted = a.0; in_time = b.0; sheet_ok = accepted s a.0; q_some = w.0; q_small = w.1; p_small = leb-true p 1000000000 t.1; rest_none = b.1 }

  -- none of their numbers is above the largest
  pub refusals_few : (most : ℕ) → 10 ≤ most → rest ≤ most → otherwise (refusal s) (unless (timed p q) 10 rest) ≤ most
  unfolding refusal
  refusals_few most ten few =
      otherwise_few (refusal s) (unless (timed p q) 10 rest) most
      (unless_few (sized s) 4 _ most (omega arith) (unless_few (scheduled s) 5 _ most (omega arith) (unless_few (admitted s) 6 0 most (omega arith) (omega arith))))
      (unless_few (timed p q) 10 rest most ten few)
