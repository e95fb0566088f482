-- The refusals of proposed arcs in their order, and what a list that is not refused gives: there are arcs, and all are whole.
use mathlib.Core.Path.{◌≡◌}
use mathlib.Core.Logic.{◌≢◌}
use mathlib.Core.Bool.{true, false}
use mathlib.Core.List.{List}
use Prim.Native.Nat.{ℕ, ◌%◌, ◌≤◌, ◌<◌}
use native.Mathlib.Omega.{arith}
use borrow.Author.Tests.{leb-true, eqb-true}
use lib.Dec.{leb, eqb}
use lib.ListN.{length}
use Rattle.tables.specs.Sheets.{Sheet, timed, refusal}
use Rattle.tables.proofs.Refusing.{unless_none, unless_few, otherwise_first}
use Rattle.tables.specs.Admitted.{Admitted}
use Rattle.tables.proofs.Laws.{both}
use Rattle.calls.specs.ProposedArcs.{whole, arcs_refusal}
use Rattle.calls.proofs.Timed.{timely, refusals_few}

module _ (s : Sheet) (p q : ℕ) (list : List ℕ) where
  pub refused_sheet : (k : ℕ) → k ≡ refusal s → k ≢ 0 → arcs_refusal s p q list ≡ k
  refused_sheet k e some = otherwise_first (refusal s) k _ e some

  pub refused_10 : 0 ≡ refusal s → timed p q ≡ false → arcs_refusal s p q list ≡ 10
  refused_10 e t = rw (← e, t)

  pub refused_11 : 0 ≡ refusal s → timed p q ≡ true → whole list ≡ false → arcs_refusal s p q list ≡ 11
  refused_11 e t w = rw (← e, t, w)

  pub refused_none : 0 ≡ refusal s → timed p q ≡ true → whole list ≡ true → arcs_refusal s p q list ≡ 0
  refused_none e t w = rw (← e, t, w)

  -- THEOREM: a refusal's number is at most 11, and so none of 103 to 107
  pub refused_few : arcs_refusal s p q list ≤ 11
  refused_few = refusals_few s p q _ 11 (omega arith) (unless_few (whole list) 11 0 11 (omega arith) (omega arith))

  -- no refusal fits
  pub record ArcsGranted : Type 0 where
    pub sheet_ok : Admitted s
    pub q_some : 1 ≤ q
    pub q_small : q ≤ 1000
    pub p_small : p ≤ 1000000000
    pub some : 0 < length list
    pub fours : length list % 4 ≡ 0

  -- THEOREM: a list that is not refused has arcs, all of four numbers
  pub arcs_granted : arcs_refusal s p q list ≡ 0 → ArcsGranted
  arcs_granted e =
      let t = timely s p q _ e in
      let w = both (leb 1 (length list)) (eqb (length list % 4) 0) (unless_none (whole list) 11 _ (omega arith) t.rest_none).0 in
      record { sheet_ok = t.sheet_ok; q_some = t.q_some; q_small = t.q_small; p_small = t.p_small; some = leb-true 1 (length list) w.0; fours = eqb-true (length list % 4) 0 w.1 }
