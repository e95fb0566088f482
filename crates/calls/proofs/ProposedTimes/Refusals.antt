-- The refusals of proposed times in their order, and what times that are not refused give: there are N of them, and all are in reach.
use mathlib.Core.Path.{◌≡◌, refl}
use mathlib.Core.Logic.{◌≢◌, ◌↔◌}
use mathlib.Core.Bool.{Bool, true, false}
use mathlib.Core.List.{List, [], ◌∷◌}
use Prim.Native.Nat.{ℕ, zero, suc, ◌≤◌, ◌<◌}
use native.Mathlib.Omega.{arith}
use borrow.Author.Tests.{leb-true, ltb-true, le-leb, lt-ltb}
use lib.Dec.{leb}
use lib.ListN.{get_or, length, take}
use lib.IntN.{ℤ, pos, negsuc}
use Rattle.tables.specs.Sheets.{Sheet, all, timed, refusal}
use Rattle.tables.proofs.Refusing.{unless_none, unless_few, otherwise_first}
use Rattle.tables.specs.Admitted.{Admitted}
use Rattle.tables.proofs.Laws.{both, yes, all_at}
use Rattle.windows.specs.Arcs.{up, down, nodes}
use Rattle.calls.specs.ProposedTimes.{in_reach, reached, times_refusal}
use Rattle.calls.proofs.Timed.{timely, refusals_few}

-- THEOREM: the times in reach are those from -382,000,000,000 to 382,000,000,000
pub in_reach_lem : (z : ℤ) → (in_reach z ≡ true) ↔ ((up z ≤ 382000000000) × (down z ≤ 382000000000))
in_reach_lem (pos a) = (λ e. (leb-true a 382000000000 e, omega arith), λ h. le-leb a 382000000000 h.0)
in_reach_lem (negsuc a) = (λ e. (omega arith, ltb-true a 382000000000 e), λ h. lt-ltb a 382000000000 h.1)

-- a test that holds of each of the first holds of all of them
all_each : {A : Type 0} (f : A → Bool) (l : List A) (n : ℕ) (d : A) → ((k : ℕ) → k < n → f (get_or l k d) ≡ true) → all f (take n l) ≡ true
unfolding all
all_each f l zero d each = refl
all_each f [] (suc n) d each = refl
all_each f (a ∷ l) (suc n) d each = yes (f a) (all f (take n l)) (each 0 (omega arith)) (all_each f l n d (λ k below. each (suc k) (omega arith)))

-- THEOREM: times are reached exactly if there are N and the first N are in reach
pub reached_is : (s : Sheet) (times : List ℤ)
    → (reached s times ≡ true) ↔ ((nodes s ≤ length times) × ((v : ℕ) → v < nodes s → (up (get_or times v (pos 0)) ≤ 382000000000) × (down (get_or times v (pos 0)) ≤ 382000000000)))
reached_is s times = (there, λ h. yes _ _ (le-leb (nodes s) (length times) h.0) (all_each in_reach times (nodes s) (pos 0) (λ v below. (in_reach_lem (get_or times v (pos 0))).1 (h.1 v below))))
  where
    there : reached s times ≡ true → (nodes s ≤ length times) × ((v : ℕ) → v < nodes s → (up (get_or times v (pos 0)) ≤ 382000000000) × (down (get_or times v (pos 0)) ≤ 382000000000))
    there e =
        let r = both (leb (nodes s) (length times)) (all in_reach (take (nodes s) times)) e in
        let long = leb-true (nodes s) (length times) r.0 in
        (long, λ v below. (in_reach_lem (get_or times v (pos 0))).0 (all_at in_reach times (nodes s) v (pos 0) r.1 below (omega arith)))

module _ (s : Sheet) (p q : ℕ) (times : List ℤ) where
  pub refused_sheet : (k : ℕ) → k ≡ refusal s → k ≢ 0 → times_refusal s p q times ≡ k
  refused_sheet k e some = otherwise_first (refusal s) k _ e some

  pub refused_10 : 0 ≡ refusal s → timed p q ≡ false → times_refusal s p q times ≡ 10
  refused_10 e t = rw (← e, t)

  pub refused_11 : 0 ≡ refusal s → timed p q ≡ true → reached s times ≡ false → times_refusal s p q times ≡ 11
  refused_11 e t r = rw (← e, t, r)

  pub refused_none : 0 ≡ refusal s → timed p q ≡ true → reached s times ≡ true → times_refusal s p q times ≡ 0
  refused_none e t r = rw (← e, t, r)

  -- THEOREM: a refusal's number is at most 11, and so not 102
  pub refused_few : times_refusal s p q times ≤ 11
  refused_few = refusals_few s p q _ 11 (omega arith) (unless_few (reached s times) 11 0 11 (omega arith) (omega arith))

  -- no refusal fits
  pub record TimesGranted : Type 0 where
    pub sheet_ok : Admitted s
    pub q_some : 1 ≤ q
    pub q_small : q ≤ 1000
    pub p_small : p ≤ 1000000000
    pub long : nodes s ≤ length times
    pub reach : (v : ℕ) → v < nodes s → (up (get_or times v (pos 0)) ≤ 382000000000) × (down (get_or times v (pos 0)) ≤ 382000000000)

  -- THEOREM: times that are not refused are at least N, and the first N are in reach
  pub times_granted : times_refusal s p q times ≡ 0 → TimesGranted
  times_granted e =
      let t = timely s p q _ e in
      let r = (reached_is s times).0 (unless_none (reached s times) 11 _ (omega arith) t.rest_none).0 in
      record { sheet_ok = t.sheet_ok; q_some = t.q_some; q_small = t.q_small; p_small = t.p_small; long = r.0; reach = r.1 }
