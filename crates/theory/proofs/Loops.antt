-- A circuit has at most N arcs. Where round N still raises a time there is one with total above zero, so the tables stand still by round N-1
-- exactly if a plan exists, and the rounds are fewer than N.
use mathlib.Core.Path.{◌≡◌, refl, ap}
use mathlib.Core.Logic.{◌⊎◌, inl, inr}
use mathlib.Core.List.{List, [], ◌∷◌}
use Prim.Native.Nat.{ℕ, zero, suc, pred, ◌≤◌, ◌<◌}
use native.Mathlib.Omega.{arith}
use native.Mathlib.Decide.{dec_lt}
use lib.ListN.{length}
use Rattle.theory.specs.Arcs.{Arc, Works, table, Still, Rounds, Within}
use Rattle.theory.specs.Circuits.{Walk, departures, Circuit, Refuted}
use Rattle.theory.proofs.Pigeon.{Below, pigeon}
use Rattle.theory.proofs.Rounds.{still_or_rises, still_plan, still_later}
use Rattle.theory.proofs.Walks.{refuted_never}
use Rattle.theory.proofs.Parents.{has_row}
use Rattle.theory.proofs.Backs.{round_refuted}

pub departures_length : (w : List Arc) → length (departures w) ≡ length w
departures_length [] = refl
departures_length (a ∷ w) = ap suc (departures_length w)

module _ (arcs : List Arc) where
  pub departures_below : (N : ℕ) → Within N arcs → (u : ℕ) (w : List Arc) (v : ℕ) → Walk arcs u w v → Below N (departures w)
  departures_below N within u [] v h = tt
  departures_below N within u (a ∷ w) v h = ((within a h.0).0, departures_below N within a.arrival w v h.2)

  -- a circuit has at most N arcs
  pub circuit_length : (N : ℕ) → Within N arcs → (c : List Arc) → Circuit arcs c → length c ≤ N
  circuit_length N within c r =
      omega (arith, pigeon N (departures c) r.distinct (departures_below N within r.node c r.node r.closed), departures_length c)

module _ (arcs : List Arc) (p q : ℕ) where
  -- where round N still raised a time there is a circuit above zero: the way back along a row of parents meets one
  pub rise_refuted : (n : ℕ) → Within (suc n) arcs → (v : ℕ) → v < suc n → table arcs p q n v < table arcs p q (suc n) v → Refuted arcs p q
  rise_refuted n within v below rises = let row = has_row arcs p q (suc n) in round_refuted arcs p q (suc n) (suc n) n (omega arith) refl within row.0 row.1 v below rises

  -- THEOREM: the tables stand still by round N-1, or there is a circuit with total above zero
  pub still_or_refuted : (N : ℕ) → Within N arcs → Still arcs p q N (pred N) ⊎ Refuted arcs p q
  still_or_refuted zero within = inl (λ v l. omega arith)
  still_or_refuted (suc n) within =
      elim (still_or_rises arcs p q n (suc n)) [
        | inl same ↦ inl same
        | inr e ↦ inr (rise_refuted n within e.0 e.1 e.2)
      ]

  -- THEOREM: never both
  pub still_not_refuted : (N r : ℕ) → Within N arcs → Still arcs p q N r → Refuted arcs p q → ⊥
  still_not_refuted N r within same c = refuted_never arcs p q c (table arcs p q r) (still_plan arcs p q N within r same)

  -- THEOREM: the tables stand still by round N-1 exactly if a plan exists
  pub works_still : (N : ℕ) → Within N arcs → Works arcs p q → Still arcs p q N (pred N)
  works_still N within x =
      elim (still_or_refuted N within) [
        | inl same ↦ same
        | inr c ↦ absurd (refuted_never arcs p q c x.0 x.1)
      ]

  pub still_works : (N r : ℕ) → Within N arcs → Still arcs p q N r → Works arcs p q
  still_works N r within same = (table arcs p q r, still_plan arcs p q N within r same)

  pub works_or_refuted : (N : ℕ) → Within N arcs → Works arcs p q ⊎ Refuted arcs p q
  works_or_refuted N within =
      elim (still_or_refuted N within) [
        | inl same ↦ inl (still_works N (pred N) within same)
        | inr c ↦ inr c
      ]

  -- THEOREM: two counts of rounds are equal
  pub rounds_same : (N r k : ℕ) → Rounds arcs p q N r → Rounds arcs p q N k → r ≡ k
  rounds_same N r k a b = omega (arith, a.least k b.still, b.least r a.still)

  -- THEOREM: the count lies below N: "from 0 to N-1"
  pub rounds_few : (N r : ℕ) → 0 < N → Within N arcs → Rounds arcs p q N r → r < N
  rounds_few N r some within a =
      omega (arith, a.least (pred N) (works_still N within (still_works N r within a.still)))

  -- THEOREM: where the tables stand still there is a least such round
  pub rounds_found : (N r : ℕ) → Within N arcs → Still arcs p q N r → (k : ℕ) × Rounds arcs p q N k
  rounds_found N zero within s = (0, record { still = s; least = λ k t. omega arith })
  rounds_found N (suc r) within s =
      elim (still_or_rises arcs p q r N) [
        | inl t ↦ rounds_found N r within t
        | inr e ↦ (
          suc r,
          record {
            still = s;
            least = λ k t. elim (dec_lt r k) [
              | yes h ↦ h
              | no h ↦ absurd (omega (arith, still_later arcs p q N within k r (omega arith) t e.0 e.1, e.2))
            ];
          },
        )
      ]
