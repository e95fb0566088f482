-- The refusals in their order, and what a call that is not refused may rest on.
use mathlib.Core.Path.{◌≡◌}
use mathlib.Core.Logic.{◌≢◌}
use mathlib.Core.Bool.{true, false}
use mathlib.Core.List.{List}
use Prim.Native.Nat.{ℕ, ◌*◌, ◌≤◌}
use native.Mathlib.Omega.{arith}
use borrow.Author.Tests.{leb-true}
use lib.Dec.{leb}
use lib.ListN.{length}
use Rattle.tables.specs.Sheets.{Sheet, timed, refusal}
use Rattle.tables.proofs.Refusing.{unless_none, unless_few, otherwise_first}
use Rattle.tables.specs.Admitted.{Admitted}
use Rattle.tables.proofs.Laws.{both}
use Rattle.windows.specs.Arcs.{nodes}
use Rattle.calls.specs.Ask.{roomy, ask_refusal}
use Rattle.calls.proofs.Timed.{timely, refusals_few}

module _ (s : Sheet) (p q : ℕ) (plan circuit : List ℕ) where
  -- no refusal fits
  pub record Granted : Type 0 where
    pub sheet_ok : Admitted s
    pub q_small : q ≤ 1000
    pub p_small : p ≤ 1000000000
    pub plan_long : nodes s ≤ length plan
    pub circuit_long : 4 * nodes s ≤ length circuit

  pub granted : ask_refusal s p q plan circuit ≡ 0 → Granted
  granted e =
      let t = timely s p q _ e in
      let r = both (leb (nodes s) (length plan)) (leb (4 * nodes s) (length circuit)) (unless_none (roomy s plan circuit) 9 _ (omega arith) t.rest_none).0 in
      record {
        sheet_ok = t.sheet_ok;
        q_small = t.q_small;
        p_small = t.p_small;
        plan_long = leb-true (nodes s) (length plan) r.0;
        circuit_long = leb-true (4 * nodes s) (length circuit) r.1;
      }

  pub refused_sheet : (k : ℕ) → k ≡ refusal s → k ≢ 0 → ask_refusal s p q plan circuit ≡ k
  refused_sheet k e some = otherwise_first (refusal s) k _ e some

  pub refused_10 : 0 ≡ refusal s → timed p q ≡ false → ask_refusal s p q plan circuit ≡ 10
  refused_10 e t = rw (← e, t)

  pub refused_9 : 0 ≡ refusal s → timed p q ≡ true → roomy s plan circuit ≡ false → ask_refusal s p q plan circuit ≡ 9
  refused_9 e t r = rw (← e, t, r)

  pub refused_none : 0 ≡ refusal s → timed p q ≡ true → roomy s plan circuit ≡ true → ask_refusal s p q plan circuit ≡ 0
  refused_none e t r = rw (← e, t, r)

  -- THEOREM: a refusal's number is at most 10, and so neither 100 nor 101
  pub refused_few : ask_refusal s p q plan circuit ≤ 10
  refused_few = refusals_few s p q _ 10 (omega arith) (unless_few (roomy s plan circuit) 9 0 10 (omega arith) (omega arith))
