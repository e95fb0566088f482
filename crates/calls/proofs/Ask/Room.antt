-- Room for 192 nodes is room for every admitted sheet: an admitted sheet, asked there within the limits of p and q, is not refused.
use mathlib.Core.Path.{◌≡◌, sym}
use mathlib.Core.Bool.{true}
use mathlib.Core.List.{List}
use Prim.Native.Nat.{ℕ, ◌*◌, ◌≤◌}
use native.Mathlib.Omega.{arith}
use borrow.Author.Tests.{le-leb}
use lib.ListN.{length}
use Rattle.tables.specs.Sheets.{Sheet, refusal}
use Rattle.tables.proofs.Laws.{accepted}
use Rattle.windows.specs.Arcs.{nodes}
use Rattle.windows.proofs.Limits.{nodes_few}
use Rattle.calls.specs.Ask.{roomy, ask_refusal}
use Rattle.calls.proofs.Ask.Refusals.{refused_none}

module _ (s : Sheet) (admitted : refusal s ≡ 0) (plan circuit : List ℕ) (long : length plan ≡ 192) (wide : length circuit ≡ 768) where
  pub room : roomy s plan circuit ≡ true
  room =
      let few = nodes_few s (accepted s admitted) in
      rw (le-leb (nodes s) (length plan) (omega arith), le-leb (4 * nodes s) (length circuit) (omega arith))

  -- THEOREM: no refusal fits
  pub unrefused : (p q : ℕ) → 1 ≤ q → q ≤ 1000 → p ≤ 1000000000 → ask_refusal s p q plan circuit ≡ 0
  unrefused p q some few small = refused_none s p q plan circuit (sym admitted) (rw (le-leb 1 q some, le-leb q 1000 few, le-leb p 1000000000 small)) room
