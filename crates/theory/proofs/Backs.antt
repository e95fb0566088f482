-- The way back along a row: where it first returns to a node it has gone round, and along a row of arcs the arcs met are a circuit.
-- N steps over N nodes meet a node again; and along the parents of a time that round N or a later one raised, N steps can be made.
use mathlib.Core.Path.{◌≡◌, refl, sym, ap, subst, ◌∙◌}
use mathlib.Core.Logic.{◌≢◌, ◌⊎◌, inl, inr}
use mathlib.Core.List.Memᴰ
use mathlib.Core.List.{List, ◌∷◌, map, Memᴰ}
use Prim.Native.Nat.{ℕ, zero, suc, ◌+◌, ◌-◌, ◌≤◌, ◌<◌}
use native.Mathlib.Omega.{arith}
use native.Mathlib.Decide.{ℕ_discrete, dec_lt}
use lib.ListN.{length}
use Rattle.theory.specs.Arcs.{Arc, ◌∈◌, table, Within}
use Rattle.theory.specs.Circuits.{Fresh, Distinct, Walk, departures, Circuit, Smallest, FirstSmallest, Above, Refuted}
use Rattle.theory.specs.Parents.{Last, Parent, Came, Parents, Row}
use Rattle.theory.specs.Backs.{back, trail, Returns, leaving, Follows}
use Rattle.theory.proofs.Pigeon.{apart_few}
use Rattle.theory.proofs.Rounds.{table_mono}
use Rattle.theory.proofs.Parents.{last_same, last_after, parent_leaves, parents_above}

-- ---- n + 1 numbers below n are not apart

-- f is at j, first of all, where it has been before, at i.
pub record Meets (f : ℕ → ℕ) (i j : ℕ) : Type 0 where
  pub some : i < j
  pub same : f i ≡ f j
  pub apart : (a b : ℕ) → a < b → b < j → f a ≢ f b

-- x is one of f 0, .., f (n - 1), or none
seek : (f : ℕ → ℕ) (x n : ℕ) → ((j : ℕ) → j < n → f j ≢ x) ⊎ ((j : ℕ) × (j < n) × (f j ≡ x))
seek f x zero = inl (λ j l. absurd (omega arith))
seek f x (suc n) =
    elim (ℕ_discrete (f n) x) [
      | yes e ↦ inr (n, omega arith, e)
      | no e ↦ elim (seek f x n) [
        | inr s ↦ inr (s.0, omega (arith, s.1), s.2)
        | inl h ↦ inl (λ j l. elim (dec_lt j n) [
          | yes m ↦ h j m
          | no m ↦ let same : n ≡ j = omega arith in subst (λ (i : ℕ). f i ≢ x) same e
        ])
      ]
    ]

apart_more : (f : ℕ → ℕ) (n : ℕ) → ((a b : ℕ) → a < b → b < n → f a ≢ f b) → ((j : ℕ) → j < n → f j ≢ f n) → (a b : ℕ) → a < b → b < suc n → f a ≢ f b
apart_more f n h k a b l m =
    elim (dec_lt b n) [
      | yes s ↦ h a b l s
      | no s ↦ let same : n ≡ b = omega arith in subst (λ (i : ℕ). f a ≢ f i) same (k a (omega arith))
    ]

apart_or_meets : (f : ℕ → ℕ) (n : ℕ) → ((a b : ℕ) → a < b → b < n → f a ≢ f b) ⊎ ((i j : ℕ) × (j < n) × Meets f i j)
apart_or_meets f zero = inl (λ a b l m. absurd (omega arith))
apart_or_meets f (suc n) =
    elim (apart_or_meets f n) [
      | inr m ↦ inr (m.0, m.1, omega (arith, m.2), m.3)
      | inl h ↦ elim (seek f (f n) n) [
        | inl k ↦ inl (apart_more f n h k)
        | inr s ↦ inr (s.0, n, omega arith, record { some = s.1; same = s.2; apart = h })
      ]
    ]

-- THEOREM: among N + 1 numbers below N two are equal
pub meets : (f : ℕ → ℕ) (N : ℕ) → ((j : ℕ) → j ≤ N → f j < N) → (i j : ℕ) × (j ≤ N) × Meets f i j
meets f N below =
    elim (apart_or_meets f (suc N)) [
      | inl h ↦ absurd (omega (arith, apart_few f N (suc N) (λ j l. below j (omega arith)) h))
      | inr m ↦ (m.0, m.1, omega (arith, m.2), m.3)
    ]

-- ---- steps back

pub back_none : (step : ℕ → ℕ) (u : ℕ) → back step u 0 ≡ u
unfolding back
back_none step u = refl

-- two steps back that agree on the way of the one go the same way
pub back_agree : (f g : ℕ → ℕ) (u k : ℕ) → ((j : ℕ) → j < k → f (back g u j) ≡ g (back g u j)) → (j : ℕ) → j ≤ k → back f u j ≡ back g u j
unfolding back
back_agree f g u k h zero l = refl
back_agree f g u k h (suc j) l = ap f (back_agree f g u k h j (omega arith)) ∙ h j (omega arith)

module _ (before : ℕ → ℕ) where
  pub back_add : (u i m n : ℕ) → m + i ≡ n → back before (back before u i) m ≡ back before u n
  unfolding back
  back_add u i zero n e = let same : i ≡ n = omega arith in ap (back before u) same
  back_add u i (suc m) n e =
      let same : suc (m + i) ≡ n = omega arith in
      ap before (back_add u i m (m + i) refl) ∙ ap (back before u) same

  -- a way that first returns after k steps comes to no node twice before
  returns_apart : (u k : ℕ) → Returns before u k → (i j : ℕ) → 0 < i → i < j → j ≤ k → back before u j ≢ back before u i
  returns_apart u k t i j a b c =
      λ (e : back before u j ≡ back before u i).
      t.first ((k - j) + i) (omega arith) (omega arith)
      (sym (back_add u i (k - j) ((k - j) + i) refl) ∙ ap (λ (x : ℕ). back before x (k - j)) (sym e) ∙ back_add u j (k - j) k (omega arith) ∙ t.closed)

  -- where the way back from v first meets a node again, it returns to that node
  pub meets_returns : (v i j : ℕ) → Meets (back before v) i j → Returns before (back before v i) (j - i)
  meets_returns v i j m =
      record {
        some = omega (arith, m.some);
        closed = back_add v i (j - i) j (omega (arith, m.some)) ∙ sym m.same;
        first = λ s a b. λ (e : back before (back before v i) s ≡ back before v i). m.apart i (s + i) (omega arith) (omega arith) (sym e ∙ back_add v i s (s + i) refl);
      }

  -- a way that returns to u returns to the node before u: k - 1 steps more lead from there to u
  returns_step : (u k : ℕ) → Returns before u k → Returns before (back before u 1) k
  returns_step u k t =
      record {
        some = t.some;
        closed = back_add u 1 k (k + 1) refl ∙ sym (back_add u k 1 (k + 1) (omega arith)) ∙ ap (λ (x : ℕ). back before x 1) t.closed;
        first = λ j a b. λ (e : back before (back before u 1) j ≡ back before u 1).
            let home : back before (back before u 1) (k - 1) ≡ u = back_add u 1 (k - 1) k (omega arith) ∙ t.closed in
            let there : back before (back before (back before u 1) j) (k - 1) ≡ back before u j =
            back_add (back before u 1) j (k - 1) ((k - 1) + j) refl ∙ back_add u 1 ((k - 1) + j) (j + k) (omega arith)
            ∙ sym (back_add u k j (j + k) refl) ∙ ap (λ (x : ℕ). back before x j) t.closed in
            t.first j a b (sym there ∙ ap (λ (x : ℕ). back before x (k - 1)) e ∙ home);
      }

  -- THEOREM: a way that returns to u after k steps returns to each node of it after k steps
  pub returns_turn : (u k : ℕ) → Returns before u k → (i : ℕ) → Returns before (back before u i) k
  unfolding back
  returns_turn u k t zero = t
  returns_turn u k t (suc i) = returns_step (back before u i) k (returns_turn u k t i)

-- a way that returns comes to no other node than before it returned
pub returns_within : (step : ℕ → ℕ) (u k : ℕ) → Returns step u k → (j : ℕ) → (i : ℕ) × (i < k) × (back step u i ≡ back step u j)
unfolding back
returns_within step u k t zero = (0, t.some, refl)
returns_within step u k t (suc j) =
    let r = returns_within step u k t j in
    elim (dec_lt (suc r.0) k) [
      | yes h ↦ (suc r.0, h, ap step r.2)
      | no h ↦ let e : k ≡ suc r.0 = omega (arith, r.1) in (0, t.some, sym t.closed ∙ ap (back step u) e ∙ ap step r.2)
    ]

-- two ways that return from one node first do so after as many steps
pub returns_same : (step : ℕ → ℕ) (u k m : ℕ) → Returns step u k → Returns step u m → k ≤ m
returns_same step u k m s t = elim (dec_lt m k) [ yes h ↦ absurd (s.first m t.some h t.closed) | no h ↦ omega arith ]

-- ---- what a row has at the nodes of the way

module _ {A : Type 0} (row : ℕ → A) (before : ℕ → ℕ) where
  pub trail_length : (u k : ℕ) → length (trail row before u k) ≡ k
  unfolding trail
  trail_length u zero = refl
  trail_length u (suc k) = ap suc (trail_length u k)

  pub trail_from : (u k : ℕ) (a : A) → Memᴰ a (trail row before u k) → (j : ℕ) × (j < k) × (row (back before u j) ≡ a)
  unfolding trail
  trail_from u zero a m = absurd (Memᴰ.not-nil m)
  trail_from u (suc k) a (Memᴰ.head e) = (k, omega arith, sym e)
  trail_from u (suc k) a (Memᴰ.tail m) = let f = trail_from u k a m in (f.0, omega (arith, f.1), f.2)

  pub trail_map : {B : Type 0} (g : A → B) (u k : ℕ) → map g (trail row before u k) ≡ trail (λ v. g (row v)) before u k
  unfolding trail
  trail_map g u zero = refl
  trail_map {B = B} g u (suc k) = ap (λ (l : List B). g (row (back before u k)) ∷ l) (trail_map g u k)

-- and what stands on the way is the same
pub trail_agree : {X : Type 0} (row : ℕ → X) (f g : ℕ → ℕ) (u k : ℕ) → ((j : ℕ) → j < k → back f u j ≡ back g u j) → trail row f u k ≡ trail row g u k
unfolding trail
trail_agree row f g u zero h = refl
trail_agree row f g u (suc k) h = rw (h k (omega arith), trail_agree row f g u k (λ j l. h j (omega arith)))

-- ---- along a row of arcs

-- The way back from u has an arc of the list at each of its first k nodes, which arrives there.
abbrev pub Leads : List Arc → (ℕ → Arc) → ℕ → ℕ → Type 0
Leads arcs par u k = (j : ℕ) → j < k → (par (back (leaving par) u j) ∈ arcs) × ((par (back (leaving par) u j)).arrival ≡ back (leaving par) u j)

module _ (par : ℕ → Arc) where
  -- the trail leaves the nodes that are 1 to k steps back
  trail_fresh : (x u k : ℕ) → ((j : ℕ) → 0 < j → j ≤ k → x ≢ back (leaving par) u j) → Fresh x (departures (trail par (leaving par) u k))
  unfolding trail back
  trail_fresh x u zero h = tt
  trail_fresh x u (suc k) h = (h (suc k) (omega arith) (omega arith), trail_fresh x u k (λ j l m. h j l (omega arith)))

  trail_distinct : (u k : ℕ) → ((i j : ℕ) → 0 < i → i < j → j ≤ k → back (leaving par) u j ≢ back (leaving par) u i) → Distinct (departures (trail par (leaving par) u k))
  unfolding trail back
  trail_distinct u zero h = tt
  trail_distinct u (suc k) h =
      (trail_fresh (back (leaving par) u (suc k)) u k (λ j l m. h j (suc k) l (omega arith) (omega arith)), trail_distinct u k (λ i j a b c. h i j a b (omega arith)))

  trail_smallest : (x u k : ℕ) → ((j : ℕ) → 0 < j → j ≤ k → x ≤ back (leaving par) u j) → Smallest x (departures (trail par (leaving par) u k))
  unfolding trail back
  trail_smallest x u zero h = tt
  trail_smallest x u (suc k) h = (h (suc k) (omega arith) (omega arith), trail_smallest x u k (λ j l m. h j l (omega arith)))

  -- THEOREM: where the way back returns to the smallest node that it meets, the first of the arcs leaves that node
  pub trail_first : (u k : ℕ) → Returns (leaving par) u k → ((j : ℕ) → j < k → u ≤ back (leaving par) u j) → FirstSmallest (departures (trail par (leaving par) u k))
  unfolding trail back
  trail_first u zero t least = tt
  trail_first u (suc k) t least = trail_smallest (back (leaving par) u (suc k)) u k (λ j l m. omega (arith, t.closed, least j (omega arith)))

  module _ (arcs : List Arc) where
    pub trail_walk : (u k : ℕ) → Leads arcs par u k → Walk arcs (back (leaving par) u k) (trail par (leaving par) u k) u
    unfolding back trail
    trail_walk u zero h = refl
    trail_walk u (suc k) h =
        let l = h k (omega arith) in
        (l.0, refl, rw l.1 (trail_walk u k (λ j m. h j (omega arith))))

    -- THEOREM: where the way back first returns to a node, the arcs met are a circuit
    pub trail_circuit : (u k : ℕ) → Leads arcs par u k → Returns (leaving par) u k → Circuit arcs (trail par (leaving par) u k)
    trail_circuit u k h t =
        record {
          node = u;
          closed = subst (λ (x : ℕ). Walk arcs x (trail par (leaving par) u k) u) t.closed (trail_walk u k h);
          nonempty = omega (arith, t.some, trail_length par (leaving par) u k);
          distinct = trail_distinct u k (returns_apart (leaving par) u k t);
        }

-- ---- the way back along parents

module _ (arcs : List Arc) (p q r : ℕ) (par : ℕ → Arc) where
  pub follows_leads : (u k : ℕ) → Follows arcs p q r par u k → Leads arcs par u k
  follows_leads u k f j l = let c = (f j l).1 in (c.gives.member, c.gives.arrives)

  pub follows_parents : (u k : ℕ) → Follows arcs p q r par u k → Parents arcs p q r (trail par (leaving par) u k)
  follows_parents u k f a m =
      let t = trail_from par (leaving par) u k a m in
      own (subst (Came arcs p q r (back (leaving par) u t.0)) t.2 (f t.0 t.1))
    where
      own : {v : ℕ} {a : Arc} → Came arcs p q r v a → Came arcs p q r a.arrival a
      own {a = a} c = subst (λ (x : ℕ). Came arcs p q r x a) (sym c.1.gives.arrives) c

  -- a part of the way
  pub follows_part : (v i j : ℕ) → Follows arcs p q r par v j → i ≤ j → Follows arcs p q r par (back (leaving par) v i) (j - i)
  follows_part v i j f h m l = rw (back_add (leaving par) v i m (m + i) refl) (f (m + i) (omega arith))

  -- where the way back along parents first returns to a node, the arcs met are a circuit with its total above zero
  module _ (u k : ℕ) (f : Follows arcs p q r par u k) (t : Returns (leaving par) u k) where
    -- THEOREM: a circuit
    pub return_circuit : Circuit arcs (trail par (leaving par) u k)
    return_circuit = trail_circuit par arcs u k (follows_leads u k f) t

    -- THEOREM: with its total above zero
    pub return_above : Above p q (trail par (leaving par) u k)
    return_above = parents_above arcs p q r (trail par (leaving par) u k) return_circuit (follows_parents u k f)

    pub return_refuted : Refuted arcs p q
    return_refuted = record { by = trail par (leaving par) u k; circuit = return_circuit; above = return_above }

  -- and so where it first meets a node again
  pub meets_refuted : (v i j : ℕ) → Follows arcs p q r par v j → Meets (back (leaving par) v) i j → Refuted arcs p q
  meets_refuted v i j f m = return_refuted (back (leaving par) v i) (j - i) (follows_part v i j f (omega (arith, m.some))) (meets_returns (leaving par) v i j m)

  module _ (row : Row arcs p q r par) where
    -- one step back from a node that was raised last in round k+1, to one that was raised last in round k or later
    onward : (u k l j : ℕ) → Parent arcs p q r k u (par u) → l ≤ k + j → suc j ≤ l
        → (m : ℕ) × (l ≤ m + suc j) × Parent arcs p q r m (par u).departure (par (par u).departure)
    onward u zero l j c h s = absurd (omega arith)
    onward u (suc k) l j c h s =
        let from = (par u).departure in
        let early = c.last.early in
        let rises = parent_leaves arcs p q c in
        let d = row from (omega (arith, table_mono arcs p q from {r = suc k} {k = r} (omega arith))) in
        let later = last_after arcs p q d.1.last (omega arith) rises in
        (d.0, omega arith, d.1)

    steps : (v k : ℕ) → Last arcs p q r k v → (j : ℕ) → j ≤ k → (m : ℕ) × (k ≤ m + j) × Parent arcs p q r m (back (leaving par) v j) (par (back (leaving par) v j))
    unfolding back
    steps v k s zero h =
        let c = row v (omega arith) in
        (c.0, omega (arith, last_same arcs p q s c.1.last), c.1)
    steps v k s (suc j) h =
        let c = steps v k s j (omega arith) in
        onward (back (leaving par) v j) c.0 k j c.2 c.1 h

    -- THEOREM: where round k+1 was the last to raise v, the way back from v has parents for k+1 steps
    pub last_follows : (v k : ℕ) → Last arcs p q r k v → Follows arcs p q r par v (suc k)
    last_follows v k s j h = let c = steps v k s j (omega arith) in (c.0, c.2)

    -- over N nodes, where one of the rounds from N on raised v last, the way back meets a node again within N steps
    module _ (N : ℕ) (within : Within N arcs) (v k : ℕ) (below : v < N) (late : N ≤ suc k) (s : Last arcs p q r k v) where
      pub back_follows : Follows arcs p q r par v N
      back_follows j h = last_follows v k s j (omega arith)

      pub back_inside : (j : ℕ) → j ≤ N → back (leaving par) v j < N
      unfolding back
      back_inside zero h = below
      back_inside (suc j) h = (within (par (back (leaving par) v j)) (back_follows j (omega arith)).1.gives.member).0

      pub back_meets : (i j : ℕ) × (j ≤ N) × Meets (back (leaving par) v) i j
      back_meets = meets (back (leaving par) v) N back_inside

      pub back_refuted : Refuted arcs p q
      back_refuted = let m = back_meets in meets_refuted v m.0 m.1 (λ j h. back_follows j (omega (arith, m.2))) m.3

-- where round r, from N on, raised v
module _ (arcs : List Arc) (p q N r k : ℕ) (late : N ≤ r) (next : r ≡ suc k) (within : Within N arcs) (par : ℕ → Arc) (row : Row arcs p q r par) (v : ℕ) (below : v < N)
    (rises : table arcs p q k v < table arcs p q r v) where
  round_last : Last arcs p q r k v
  round_last = record { early = omega arith; raised = subst (λ (x : ℕ). table arcs p q k v < table arcs p q x v) next rises; kept = ap (λ (x : ℕ). table arcs p q x v) next }

  -- THEOREM: the way back from v along the row has a parent at each of N steps
  pub round_follows : Follows arcs p q r par v N
  round_follows = back_follows arcs p q r par row N within v k below (omega arith) round_last

  -- THEOREM: it stays among the nodes
  pub round_inside : (j : ℕ) → j ≤ N → back (leaving par) v j < N
  round_inside = back_inside arcs p q r par row N within v k below (omega arith) round_last

  -- THEOREM: it meets a node again
  pub round_meets : (i j : ℕ) × (j ≤ N) × Meets (back (leaving par) v) i j
  round_meets = back_meets arcs p q r par row N within v k below (omega arith) round_last

  -- THEOREM: and the circuit there refutes
  pub round_refuted : Refuted arcs p q
  round_refuted = back_refuted arcs p q r par row N within v k below (omega arith) round_last

-- ---- a way back that colours its nodes

-- The colour c marks the first i nodes of the way back from u, no node twice, and no other node.
pub record Coloured (colour : ℕ → ℕ) (c : ℕ) (before : ℕ → ℕ) (u i : ℕ) : Type 0 where
  pub marked : (j : ℕ) → j < i → colour (back before u j) ≡ c
  pub only : (x : ℕ) → colour x ≡ c → (j : ℕ) × (j < i) × (back before u j ≡ x)
  pub apart : (a b : ℕ) → a < b → b < i → back before u a ≢ back before u b

module _ (colour : ℕ → ℕ) (c : ℕ) (before : ℕ → ℕ) (u : ℕ) where
  pub coloured_none : ((x : ℕ) → colour x ≢ c) → Coloured colour c before u 0
  coloured_none h =
      record { marked = λ j l. absurd (omega arith); only = λ x e. absurd (h x e); apart = λ a b l m. absurd (omega arith) }

  module _ (i : ℕ) (s : Coloured colour c before u i) where
    -- THEOREM: a node of this colour is one met before
    pub coloured_meets : colour (back before u i) ≡ c → (j : ℕ) × Meets (back before u) j i
    coloured_meets e =
        let o = s.only (back before u i) e in
        (o.0, record { some = o.1; same = o.2; apart = s.apart })

    -- a node of another colour is new
    module _ (new : colour (back before u i) ≢ c) where
      new_here : (j : ℕ) → j < i → back before u j ≢ back before u i
      new_here j l = λ (e : back before u j ≡ back before u i). new (sym (ap colour e) ∙ s.marked j l)

      new_apart : (a b : ℕ) → a < b → b < suc i → back before u a ≢ back before u b
      new_apart = apart_more (back before u) i s.apart new_here

      -- so there are not yet N
      pub coloured_room : (N : ℕ) → ((j : ℕ) → j ≤ i → back before u j < N) → i < N
      coloured_room N below = apart_few (back before u) N (suc i) (λ j l. below j (omega arith)) new_apart

      -- and it takes this colour
      pub coloured_more : (colour' : ℕ → ℕ) → colour' (back before u i) ≡ c → ((x : ℕ) → x ≢ back before u i → colour' x ≡ colour x) → Coloured colour' c before u (suc i)
      coloured_more colour' here other =
          record {
            marked = λ j l. elim (dec_lt j i) [
              | yes m ↦ other (back before u j) (new_here j m) ∙ s.marked j m
              | no m ↦ let same : i ≡ j = omega arith in subst (λ (j : ℕ). colour' (back before u j) ≡ c) same here
            ];
            only = λ x e. elim (ℕ_discrete x (back before u i)) [
              | yes h ↦ (i, omega arith, sym h)
              | no h ↦ let o = s.only x (sym (other x h) ∙ e) in (o.0, omega (arith, o.1), o.2)
            ];
            apart = new_apart;
          }
