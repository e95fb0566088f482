-- The tables of rounds: a round keeps each time, meets each arc from the table before it, and a time that it raised has a cause.
-- Everything else about tables follows from these three facts.
use mathlib.Core.Path.{◌≡◌, refl, ap}
use mathlib.Core.Logic.{◌⊎◌, inl, inr}
use mathlib.Core.List.Memᴰ
use mathlib.Core.List.{List, [], ◌∷◌}
use Prim.Native.Nat.{ℕ, zero, suc, ◌+◌, ◌*◌, ◌≤◌, ◌<◌}
use native.Mathlib.Omega.{arith}
use native.Mathlib.Decide.{ℕ_discrete, dec_le, dec_lt, le_ind}
use Rattle.theory.specs.Arcs.{Arc, ◌∈◌, rise, fall, Plan, demand, only, most, table, Still, Within}

-- ---- what the arcs ask

pub only_yes : {A : Type 0} (d : Dec A) (n : ℕ) → A → only d n ≡ n
only_yes (yes p) n a = refl
only_yes (no p) n a = absurd (p a)

pub only_no : {A : Type 0} (d : Dec A) (n : ℕ) → (A → ⊥) → only d n ≡ 0
only_no (yes p) n a = absurd (a p)
only_no (no p) n a = refl

-- An arc that explains the time n at v from the times t.
pub record Cause (arcs : List Arc) (p q : ℕ) (t : ℕ → ℕ) (v n : ℕ) : Type 0 where
  pub arc : Arc
  pub member : arc ∈ arcs
  pub arrives : arc.arrival ≡ v
  pub exact : n + fall p q arc ≡ t arc.departure + rise p q arc

module _ (p q : ℕ) (t : ℕ → ℕ) where
  -- each arc's demand is met
  most_meets : {a : Arc} {arcs : List Arc} → a ∈ arcs → demand p q t a ≤ most arcs p q t a.arrival
  unfolding most
  most_meets {a} {arcs} (Memᴰ.head {x = b} {xs = rest} e) =
      rw (← e) (omega (arith, only_yes (ℕ_discrete a.arrival a.arrival) (demand p q t a) refl))
  most_meets (Memᴰ.tail m) = omega (arith, most_meets m)

  -- and nothing more is asked
  most_cause : (arcs : List Arc) (v n : ℕ) → most arcs p q t v ≡ n → 0 < n → Cause arcs p q t v n
  unfolding most
  most_cause [] v n e h = absurd (omega arith)
  most_cause (a ∷ rest) v n e h =
      elim (dec_le n (most rest p q t v)) [
        | yes k ↦ later (most_cause rest v n (omega arith) h)
        | no k ↦ elim (ℕ_discrete a.arrival v) [
          | yes d ↦ record { arc = a; member = Memᴰ.head refl; arrives = d; exact = omega (arith, only_yes (ℕ_discrete a.arrival v) (demand p q t a) d) }
          | no d ↦ absurd (omega (arith, only_no (ℕ_discrete a.arrival v) (demand p q t a) d))
        ]
      ]
    where
      later : Cause rest p q t v n → Cause (a ∷ rest) p q t v n
      later c = record { arc = c.arc; member = Memᴰ.tail c.member; arrives = c.arrives; exact = c.exact }

-- ---- the three facts of a round

module _ (arcs : List Arc) (p q : ℕ) where
  pub table_grows : (r v : ℕ) → table arcs p q r v ≤ table arcs p q (suc r) v
  unfolding table
  table_grows r v = omega arith

  pub table_meets : (r : ℕ) {a : Arc} → a ∈ arcs → table arcs p q r a.departure + rise p q a ≤ table arcs p q (suc r) a.arrival + fall p q a
  unfolding table
  table_meets r m = omega (arith, most_meets p q (table arcs p q r) m)

  pub table_cause : (r v : ℕ) → table arcs p q r v < table arcs p q (suc r) v → Cause arcs p q (table arcs p q r) v (table arcs p q (suc r) v)
  unfolding table
  table_cause r v h = most_cause p q (table arcs p q r) arcs v _ (omega arith) (omega arith)

  -- ---- tables and plans

  pub table_mono : (v : ℕ) {r k : ℕ} → r ≤ k → table arcs p q r v ≤ table arcs p q k v
  table_mono v {r} {k} h = le_ind (λ k. table arcs p q r v ≤ table arcs p q k v) (omega arith) (λ m l ih. omega (arith, table_grows m v)) k h

  -- THEOREM: no plan has a time below any table
  pub table_least : (y : ℕ → ℕ) → Plan arcs p q y → (r v : ℕ) → table arcs p q r v ≤ y v
  unfolding table
  table_least y plan zero v = omega arith
  table_least y plan (suc r) v =
      elim (dec_lt (table arcs p q r v) (table arcs p q (suc r) v)) [
        | yes k ↦
            let c = table_cause r v k in
            omega (arith, c.exact, plan c.arc c.member, table_least y plan r c.arc.departure, ap y c.arrives)
        | no k ↦ omega (arith, table_least y plan r v)
      ]

  module _ (N : ℕ) (within : Within N arcs) where
    -- a table that stands still is a plan
    pub still_plan : (r : ℕ) → Still arcs p q N r → Plan arcs p q (table arcs p q r)
    still_plan r same a m = omega (arith, table_meets r m, same a.arrival (within a m).1)

    -- and stands still for good
    pub still_next : (r : ℕ) → Still arcs p q N r → Still arcs p q N (suc r)
    still_next r same v below =
        omega (arith, same v below, table_grows (suc r) v, table_least (table arcs p q r) (still_plan r same) (suc (suc r)) v)

    pub still_later : (r k : ℕ) → r ≤ k → Still arcs p q N r → Still arcs p q N k
    still_later r k h s = le_ind (λ k. Still arcs p q N k) s (λ m l ih. still_next m ih) k h

    -- THEOREM: the table where the rounds stand still is the earliest plan, and the only one
    pub earliest : (r : ℕ) → Still arcs p q N r → (x : ℕ → ℕ) → Plan arcs p q x
        → ((y : ℕ → ℕ) → Plan arcs p q y → (v : ℕ) → v < N → x v ≤ y v) → (v : ℕ) → v < N → x v ≡ table arcs p q r v
    earliest r same x plan first v below =
        omega (arith, table_least x plan r v, first (table arcs p q r) (still_plan r same) v below)

    -- times that agree at the N nodes are both plans or neither
    pub plan_agree : (x y : ℕ → ℕ) → ((v : ℕ) → v < N → x v ≡ y v) → Plan arcs p q x → Plan arcs p q y
    plan_agree x y same plan a m = omega (arith, plan a m, same a.departure (within a m).0, same a.arrival (within a m).1)

    -- no node outside has a time
    pub table_outside : (r v : ℕ) → N ≤ v → table arcs p q r v ≡ 0
    unfolding table
    table_outside zero v h = refl
    table_outside (suc r) v h =
        elim (dec_lt (table arcs p q r v) (table arcs p q (suc r) v)) [
          | yes k ↦ let c = table_cause r v k in absurd (omega (arith, c.arrives, (within c.arc c.member).1))
          | no k ↦ omega (arith, table_outside r v h)
        ]

  -- the first N nodes all stand still in round r+1, or one rises
  pub still_or_rises : (r N : ℕ) → Still arcs p q N r ⊎ ((v : ℕ) × (v < N) × (table arcs p q r v < table arcs p q (suc r) v))
  still_or_rises r zero = inl (λ v l. omega arith)
  still_or_rises r (suc N) =
      elim (still_or_rises r N) [
        | inr e ↦ inr (e.0, omega arith, e.2)
        | inl same ↦ elim (dec_lt (table arcs p q r N) (table arcs p q (suc r) N)) [
          | yes k ↦ inr (N, omega arith, k)
          | no k ↦ inl (λ v l. elim (ℕ_discrete v N) [
            | yes e ↦ rw e (omega (arith, table_grows r N))
            | no e ↦ same v (omega arith)
          ])
        ]
      ]

  -- THEOREM: where no arc adds more than B, no entry of table r passes r·B
  pub table_bound : (B : ℕ) → ((a : Arc) → a ∈ arcs → rise p q a ≤ B) → (r v : ℕ) → table arcs p q r v ≤ r * B
  unfolding table
  table_bound B bounded zero v = omega arith
  table_bound B bounded (suc r) v =
      elim (dec_lt (table arcs p q r v) (table arcs p q (suc r) v)) [
        | yes k ↦
            let c = table_cause r v k in
            omega (arith, c.exact, bounded c.arc c.member, table_bound B bounded r c.arc.departure)
        | no k ↦ omega (arith, table_bound B bounded r v)
      ]
