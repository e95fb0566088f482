-- Bounds on a circuit's sums: how many arcs it has, how much they add, and how often it crosses the period's end.
use mathlib.Core.Path.{◌≡◌}
use mathlib.Core.Logic.{◌≢◌}
use mathlib.Core.List.{List, [], ◌∷◌}
use Prim.Native.Nat.{ℕ, zero, suc, ◌+◌, ◌*◌, ◌≤◌, ◌<◌}
use native.Mathlib.Omega.{arith}
use native.Mathlib.Nat.{mul-le-mul_left, mul-le-mul_right}
use native.Mathlib.Decide.{dec_le}
use lib.ListN.{length}
use Rattle.theory.specs.Arcs.{Arc, ◌∈◌, rise, fall, Works, Within}
use Rattle.theory.specs.Circuits.{Fresh, Distinct, total, Walk, departures, Circuit, ups, downs, forths, backs}
use Rattle.theory.proofs.Pigeon.{Below, pigeon}
use Rattle.theory.proofs.Loops.{circuit_length}
use Rattle.theory.proofs.Slopes.{works_fits, total_rise, total_fall}

-- ---- sums

module _ (arcs : List Arc) where
  walk_total : (f : Arc → ℕ) (B : ℕ) → ((a : Arc) → a ∈ arcs → f a ≤ B) → (u : ℕ) (c : List Arc) (v : ℕ) → Walk arcs u c v → total f c ≤ length c * B
  walk_total f B small u [] v h = omega arith
  walk_total f B small u (a ∷ c) v h = omega (arith, small a h.0, walk_total f B small a.arrival c v h.2)

  circuit_total : (f : Arc → ℕ) (B N : ℕ) → Within N arcs → ((a : Arc) → a ∈ arcs → f a ≤ B) → (c : List Arc) → Circuit arcs c → total f c ≤ N * B
  circuit_total f B N within small c r =
      omega (arith, walk_total f B small r.node c r.node r.closed, mul-le-mul_right B (circuit_length arcs N within c r))

-- ---- crossings: the arcs with a positive f leave at most K nodes, each named by a slot below K

pub record Slots (f : Arc → ℕ) (K : ℕ) (arcs : List Arc) : Type 0 where
  pub slot : ℕ → ℕ
  pub one : (a : Arc) → a ∈ arcs → f a ≤ 1
  pub few : (a : Arc) → a ∈ arcs → 0 < f a → slot a.departure < K
  pub apart : (a b : Arc) → a ∈ arcs → b ∈ arcs → 0 < f a → 0 < f b → slot a.departure ≡ slot b.departure → a.departure ≡ b.departure

-- x in front where k is above 0
put : ℕ → ℕ → List ℕ → List ℕ
put zero x xs = xs
put (suc k) x xs = x ∷ xs

put_fresh : (s k x : ℕ) (xs : List ℕ) → (0 < k → s ≢ x) → Fresh s xs → Fresh s (put k x xs)
unfolding put
put_fresh s zero x xs new d = d
put_fresh s (suc k) x xs new d = (new (omega arith), d)

put_distinct : (k x : ℕ) (xs : List ℕ) → (0 < k → Fresh x xs) → Distinct xs → Distinct (put k x xs)
unfolding put
put_distinct zero x xs new d = d
put_distinct (suc k) x xs new d = (new (omega arith), d)

put_below : (n k x : ℕ) (xs : List ℕ) → (0 < k → x < n) → Below n xs → Below n (put k x xs)
unfolding put
put_below n zero x xs small b = b
put_below n (suc k) x xs small b = (small (omega arith), b)

put_length : (k x : ℕ) (xs : List ℕ) → k ≤ 1 → k + length xs ≤ length (put k x xs)
unfolding put
put_length zero x xs one = omega arith
put_length (suc k) x xs one = omega arith

module _ (f : Arc → ℕ) (K : ℕ) (arcs : List Arc) (slots : Slots f K arcs) where
  -- the slots of the nodes that crossing arcs leave
  taken : List Arc → List ℕ
  taken [] = []
  taken (a ∷ c) = put (f a) (slots.slot a.departure) (taken c)

  taken_fresh : (b : Arc) → b ∈ arcs → 0 < f b → (u : ℕ) (c : List Arc) (v : ℕ) → Walk arcs u c v → Fresh b.departure (departures c) → Fresh (slots.slot b.departure) (taken c)
  unfolding taken
  taken_fresh b m pos u [] v h d = tt
  taken_fresh b m pos u (a ∷ c) v h d =
      put_fresh (slots.slot b.departure) (f a) (slots.slot a.departure) (taken c)
      (λ crosses same. d.0 (slots.apart b a m h.0 pos crosses same)) (taken_fresh b m pos a.arrival c v h.2 d.1)

  taken_distinct : (u : ℕ) (c : List Arc) (v : ℕ) → Walk arcs u c v → Distinct (departures c) → Distinct (taken c)
  unfolding taken
  taken_distinct u [] v h d = tt
  taken_distinct u (a ∷ c) v h d =
      put_distinct (f a) (slots.slot a.departure) (taken c) (λ crosses. taken_fresh a h.0 crosses a.arrival c v h.2 d.0) (taken_distinct a.arrival c v h.2 d.1)

  taken_below : (u : ℕ) (c : List Arc) (v : ℕ) → Walk arcs u c v → Below K (taken c)
  unfolding taken
  taken_below u [] v h = tt
  taken_below u (a ∷ c) v h = put_below K (f a) (slots.slot a.departure) (taken c) (slots.few a h.0) (taken_below a.arrival c v h.2)

  taken_length : (u : ℕ) (c : List Arc) (v : ℕ) → Walk arcs u c v → total f c ≤ length (taken c)
  unfolding taken
  taken_length u [] v h = omega arith
  taken_length u (a ∷ c) v h = omega (arith, put_length (f a) (slots.slot a.departure) (taken c) (slots.one a h.0), taken_length a.arrival c v h.2)

  circuit_crosses : (c : List Arc) → Circuit arcs c → total f c ≤ K
  circuit_crosses c r =
      omega (
        arith,
        taken_length r.node c r.node r.closed,
        pigeon K (taken c) (taken_distinct r.node c r.node r.closed r.distinct) (taken_below r.node c r.node r.closed),
      )

-- What is known of arcs over N nodes, with limits up to B, that leave at most K nodes across the period's end either way.
pub record Laid (N B K : ℕ) (arcs : List Arc) : Type 0 where
  pub within : Within N arcs
  pub ups_small : (a : Arc) → a ∈ arcs → a.up ≤ B
  pub downs_small : (a : Arc) → a ∈ arcs → a.down ≤ B
  pub back_slots : Slots (λ a. a.back) K arcs
  pub forth_slots : Slots (λ a. a.forth) K arcs

module _ (N B K : ℕ) (arcs : List Arc) (laid : Laid N B K arcs) where
  module _ (c : List Arc) (r : Circuit arcs c) where
    pub backs_few : backs c ≤ K
    backs_few = circuit_crosses (λ a. a.back) K arcs laid.back_slots c r

    pub forths_few : forths c ≤ K
    forths_few = circuit_crosses (λ a. a.forth) K arcs laid.forth_slots c r

    pub ups_few : ups c ≤ N * B
    ups_few = circuit_total arcs (λ a. a.up) B N laid.within laid.ups_small c r

    pub downs_few : downs c ≤ N * B
    downs_few = circuit_total arcs (λ a. a.down) B N laid.within laid.downs_small c r

  -- what works at a cycle time above every sum works at every later one
  pub big_falls : (P : ℕ) → N * B < P → Works arcs P 1 → (c : List Arc) → Circuit arcs c → forths c ≤ backs c
  big_falls P big works c r =
      elim (dec_le (forths c) (backs c)) [
        | yes e ↦ e
        | no e ↦ absurd (omega (arith, total_rise P 1 c, total_fall P 1 c, works_fits arcs P 1 works c r, downs_few c r, mul-le-mul_left {m = suc (backs c)} {n = forths c} P (omega arith)))
      ]

  -- what an arc adds or takes away at p/q
  pub rise_bound : (p q : ℕ) (a : Arc) → a ∈ arcs → rise p q a ≤ q * B + p
  rise_bound p q a m = omega (arith, mul-le-mul_left q (laid.ups_small a m), mul-le-mul_left p (laid.forth_slots.one a m))

  pub fall_bound : (p q : ℕ) (a : Arc) → a ∈ arcs → fall p q a ≤ q * B + p
  fall_bound p q a m = omega (arith, mul-le-mul_left q (laid.downs_small a m), mul-le-mul_left p (laid.back_slots.one a m))
