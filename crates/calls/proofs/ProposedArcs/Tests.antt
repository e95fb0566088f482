-- The four tests of proposed arcs by index, as a loop over the arcs makes them. `d` is what a list gives past its end, and plays no part.
use mathlib.Core.Path.{◌≡◌, refl, sym, ap, ◌∙◌}
use mathlib.Core.Logic.{◌≢◌, ◌↔◌}
use mathlib.Core.List.{List, [], ◌∷◌}
use Prim.Native.Nat.{ℕ, zero, suc, ◌+◌, ◌≤◌, ◌<◌}
use native.Mathlib.Omega.{arith}
use native.Mathlib.Numerals.{add-one}
use lib.ListN.{get_or, length}
use Rattle.theory.specs.Arcs.{Arc}
use Rattle.theory.specs.Circuits.{Fresh, Distinct, total, departures, Smallest, FirstSmallest}
use Rattle.theory.proofs.Pigeon.{Below, pigeon}
use Rattle.theory.proofs.Loops.{departures_length}
use Rattle.calls.specs.ProposedArcs.{arriving, Closed}

-- g 0 + g 1 + .. + g (k - 1)
abbrev pub sum_to : (ℕ → ℕ) → ℕ → ℕ
sum_to g zero = 0
sum_to g (suc k) = sum_to g k + g k

pub sum_more : (g : ℕ → ℕ) (k : ℕ) → sum_to g (k + 1) ≡ sum_to g k + g k
sum_more g k = ap (sum_to g) (add-one k)

sum_first : (g : ℕ → ℕ) (k : ℕ) → sum_to g (suc k) ≡ g 0 + sum_to (λ i. g (suc i)) k
sum_first g zero = omega arith
sum_first g (suc k) = omega (arith, sum_first g k)

module _ (d : Arc) where
  -- ---- closing

  arriving_last : (u : ℕ) (arcs : List Arc) (last : ℕ) → last + 1 ≡ length arcs → arriving u arcs ≡ (get_or arcs last d).arrival
  arriving_last u [] last e = absurd (omega arith)
  arriving_last u (a ∷ []) zero e = refl
  arriving_last u (a ∷ []) (suc k) e = absurd (omega arith)
  arriving_last u (a ∷ b ∷ arcs) zero e = absurd (omega arith)
  arriving_last u (a ∷ b ∷ arcs) (suc k) e = arriving_last a.arrival (b ∷ arcs) k (omega arith)

  -- THEOREM: arcs close exactly if the last arrives where the first leaves
  pub closed_at : (arcs : List Arc) (last : ℕ) → last + 1 ≡ length arcs → Closed arcs ↔ ((get_or arcs last d).arrival ≡ (get_or arcs 0 d).departure)
  closed_at [] last e = absurd (omega arith)
  closed_at (a ∷ arcs) last e = let same = arriving_last 0 (a ∷ arcs) last e in (λ closed. sym same ∙ closed, λ closed. same ∙ closed)

  -- ---- a node left twice

  -- what is so of the first and of each other is so of each
  each_at : (P : Arc → Type 0) (a : Arc) (arcs : List Arc) → P a → ((j : ℕ) → j < length arcs → P (get_or arcs j d)) → (j : ℕ) → j < length (a ∷ arcs) → P (get_or (a ∷ arcs) j d)
  each_at P a arcs first rest zero below = first
  each_at P a arcs first rest (suc j) below = rest j (omega arith)

  fresh_at : (n : ℕ) (arcs : List Arc) → Fresh n (departures arcs) ↔ ((j : ℕ) → j < length arcs → n ≢ (get_or arcs j d).departure)
  fresh_at n [] = (λ f j below. absurd (omega arith), λ f. tt)
  fresh_at n (a ∷ arcs) = (
    λ f. each_at (λ b. n ≢ b.departure) a arcs f.0 ((fresh_at n arcs).0 f.1),
    λ f. (f 0 (omega arith), (fresh_at n arcs).1 (λ j below. f (suc j) (omega arith))),
  )

  -- THEOREM: no node is left twice exactly if no two arcs leave the same
  pub distinct_at : (arcs : List Arc) → Distinct (departures arcs) ↔ ((i j : ℕ) → i < j → j < length arcs → (get_or arcs i d).departure ≢ (get_or arcs j d).departure)
  distinct_at [] = (λ once i j before below. absurd (omega arith), λ apart. tt)
  distinct_at (a ∷ arcs) = (
    λ once. there ((fresh_at a.departure arcs).0 once.0) ((distinct_at arcs).0 once.1),
    λ apart. ((fresh_at a.departure arcs).1 (λ j below. apart 0 (suc j) (omega arith) (omega arith)), (distinct_at arcs).1 (λ i j before below. apart (suc i) (suc j) (omega arith) (omega arith))),
  )
    where
      there : ((j : ℕ) → j < length arcs → a.departure ≢ (get_or arcs j d).departure) → ((i j : ℕ) → i < j → j < length arcs → (get_or arcs i d).departure ≢ (get_or arcs j d).departure)
          → (i j : ℕ) → i < j → j < length (a ∷ arcs) → (get_or (a ∷ arcs) i d).departure ≢ (get_or (a ∷ arcs) j d).departure
      there first rest i zero before below = absurd (omega arith)
      there first rest zero (suc j) before below = first j (omega arith)
      there first rest (suc i) (suc j) before below = rest i j (omega arith) (omega arith)

  -- ---- the smallest node first

  smallest_at : (n : ℕ) (arcs : List Arc) → Smallest n (departures arcs) ↔ ((j : ℕ) → j < length arcs → n ≤ (get_or arcs j d).departure)
  smallest_at n [] = (λ f j below. absurd (omega arith), λ f. tt)
  smallest_at n (a ∷ arcs) = (
    λ f. each_at (λ b. n ≤ b.departure) a arcs f.0 ((smallest_at n arcs).0 f.1),
    λ f. (f 0 (omega arith), (smallest_at n arcs).1 (λ j below. f (suc j) (omega arith))),
  )

  -- THEOREM: the first arc leaves the smallest node exactly if no arc leaves a smaller
  pub first_at : (arcs : List Arc) → FirstSmallest (departures arcs) ↔ ((j : ℕ) → j < length arcs → (get_or arcs 0 d).departure ≤ (get_or arcs j d).departure)
  first_at [] = (λ first j below. absurd (omega arith), λ f. tt)
  first_at (a ∷ arcs) = (
    λ first. each_at (λ b. a.departure ≤ b.departure) a arcs (omega arith) ((smallest_at a.departure arcs).0 first),
    λ f. (smallest_at a.departure arcs).1 (λ j below. f (suc j) (omega arith)),
  )

  -- ---- the total

  -- THEOREM: a total is the sum over the indices
  pub total_sum : (f : Arc → ℕ) (arcs : List Arc) → total f arcs ≡ sum_to (λ k. f (get_or arcs k d)) (length arcs)
  total_sum f [] = refl
  total_sum f (a ∷ arcs) = omega (arith, total_sum f arcs, sum_first (λ k. f (get_or (a ∷ arcs) k d)) (length arcs))

  -- ---- how many arcs there are

  below_at : (N : ℕ) (arcs : List Arc) → ((k : ℕ) → k < length arcs → (get_or arcs k d).departure < N) → Below N (departures arcs)
  below_at N [] below = tt
  below_at N (a ∷ arcs) below = (below 0 (omega arith), below_at N arcs (λ k l. below (suc k) (omega arith)))

  -- THEOREM: arcs that leave no node of N twice are at most N
  pub distinct_few : (N : ℕ) (arcs : List Arc) → Distinct (departures arcs) → ((k : ℕ) → k < length arcs → (get_or arcs k d).departure < N) → length arcs ≤ N
  distinct_few N arcs once below = omega (arith, departures_length arcs, pigeon N (departures arcs) once (below_at N arcs below))
