-- The refusals in their order, and what a call that is not refused may rest on.
use mathlib.Core.Path.{◌≡◌}
use mathlib.Core.Logic.{◌≢◌}
use mathlib.Core.Bool.{true, false}
use mathlib.Core.List.{List}
use Prim.Native.Nat.{ℕ, ◌*◌, ◌≤◌}
use native.Mathlib.Omega.{arith}
use borrow.Author.Tests.{leb-true}
use lib.Dec.{leb}
use lib.ListN.{length}
use Rattle.tables.specs.Sheets.{Sheet, refusal, unless}
use Rattle.tables.proofs.Refusing.{unless_none, otherwise_none, otherwise_first}
use Rattle.tables.proofs.Laws.{both}
use Rattle.windows.specs.Arcs.{nodes}
use Rattle.calls.specs.Ends.{roomy, ends_refusal}

pub record Granted (s : Sheet) (first second : List ℕ) : Type 0 where
  pub admitted : refusal s ≡ 0
  pub first_room : 4 * nodes s ≤ length first
  pub second_room : 4 * nodes s ≤ length second

pub granted : (s : Sheet) (first second : List ℕ) → ends_refusal s first second ≡ 0 → Granted s first second
granted s first second e =
    let p = otherwise_none (refusal s) (unless (roomy s first second) 9 0) e in
    let r = both (leb (4 * nodes s) (length first)) (leb (4 * nodes s) (length second)) (unless_none (roomy s first second) 9 0 (omega arith) p.1).0 in
    record { admitted = p.0; first_room = leb-true _ _ r.0; second_room = leb-true _ _ r.1 }

module _ (s : Sheet) (first second : List ℕ) where
  pub refused_sheet : (k : ℕ) → k ≡ refusal s → k ≢ 0 → ends_refusal s first second ≡ k
  refused_sheet k e some = otherwise_first (refusal s) k (unless (roomy s first second) 9 0) e some

  pub refused_9 : 0 ≡ refusal s → roomy s first second ≡ false → ends_refusal s first second ≡ 9
  refused_9 e r = rw (← e, r)

  pub refused_none : 0 ≡ refusal s → roomy s first second ≡ true → ends_refusal s first second ≡ 0
  refused_none e r = rw (← e, r)
