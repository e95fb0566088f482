-- Parents: every time above 0 has one, a round keeps it or names a new one, and a circuit of parents has its total above zero,
-- after any number of rounds. So one row of parents, kept from round to round, is enough to find a refutation.
use mathlib.Core.Path.{◌≡◌, refl, ap, subst}
use mathlib.Core.Logic.{◌⊎◌, inl, inr}
use mathlib.Core.List.Memᴰ
use mathlib.Core.List.{List, [], ◌∷◌}
use Prim.Native.Nat.{ℕ, zero, suc, ◌+◌, ◌≤◌, ◌<◌}
use native.Mathlib.Omega.{arith}
use native.Mathlib.Decide.{dec_lt}
use lib.ListN.{length}
use Rattle.theory.specs.Arcs.{Arc, ◌∈◌, rise, fall, table}
use Rattle.theory.specs.Circuits.{total, Walk, Circuit, Above, Refuted}
use Rattle.theory.specs.Parents.{Last, Gives, Parent, Came, Parents, Row}
use Rattle.theory.proofs.Rounds.{table_grows, table_meets, table_cause, table_mono}

-- the node where a walk ends is where one of its arcs arrives
pub walk_end : (arcs w : List Arc) (u v : ℕ) → Walk arcs u w v → 0 < length w → (a : Arc) × (a ∈ w) × (a.arrival ≡ v)
walk_end arcs [] u v h some = absurd (omega arith)
walk_end arcs (a ∷ []) u v h some = (a, Memᴰ.head refl, h.2)
walk_end arcs (a ∷ b ∷ w) u v h some = let e = walk_end arcs (b ∷ w) a.arrival v h.2 (omega arith) in (e.0, Memᴰ.tail e.1, e.2)

module _ (arcs : List Arc) (p q : ℕ) where
  -- ---- the round that raised a node last

  last_not_before : {r j k v : ℕ} → Last arcs p q r j v → Last arcs p q r k v → j < k → ⊥
  last_not_before {j = j} {k = k} {v = v} a b h = omega (arith, table_mono arcs p q v {r = suc j} {k = k} h)

  pub last_same : {r j k v : ℕ} → Last arcs p q r j v → Last arcs p q r k v → j ≡ k
  last_same {j = j} {k = k} a b =
      elim (dec_lt j k) [
        | yes h ↦ absurd (last_not_before a b h)
        | no h ↦ elim (dec_lt k j) [ yes l ↦ absurd (last_not_before b a l) | no l ↦ omega arith ]
      ]

  -- a round that raised the node was not after its last
  pub last_after : {r j k v : ℕ} → Last arcs p q r k v → j < r → table arcs p q j v < table arcs p q (suc j) v → j ≤ k
  last_after {r} {j} {k} {v} a h rises =
      elim (dec_lt k j) [
        | yes l ↦ absurd (omega (arith, table_mono arcs p q v {r = suc k} {k = j} l, table_mono arcs p q v {r = suc j} {k = r} h))
        | no l ↦ omega arith
      ]

  -- ---- from round to round

  pub parent_kept : {r k v : ℕ} {a : Arc} → Parent arcs p q r k v a → table arcs p q (suc r) v ≡ table arcs p q r v → Parent arcs p q (suc r) k v a
  parent_kept c same = record { last = record { early = omega arith; raised = c.last.raised; kept = omega arith }; gives = c.gives }

  pub came_kept : {r v : ℕ} {a : Arc} → Came arcs p q r v a → table arcs p q (suc r) v ≡ table arcs p q r v → Came arcs p q (suc r) v a
  came_kept c same = (c.0, parent_kept c.1 same)

  pub parent_new : {r v : ℕ} {a : Arc} → table arcs p q r v < table arcs p q (suc r) v → Gives arcs p q (table arcs p q r) v (table arcs p q (suc r) v) a
      → Parent arcs p q (suc r) r v a
  parent_new rises g = record { last = record { early = omega arith; raised = rises; kept = refl }; gives = g }

  -- THEOREM: a time above 0 has a parent
  pub has_parent : (r v : ℕ) → 0 < table arcs p q r v → (a : Arc) × Came arcs p q r v a
  unfolding table
  has_parent zero v h = absurd (omega arith)
  has_parent (suc r) v h =
      elim (dec_lt (table arcs p q r v) (table arcs p q (suc r) v)) [
        | yes l ↦
            let c = table_cause arcs p q r v l in
            (c.arc, (r, parent_new l (record { member = c.member; arrives = c.arrives; exact = c.exact })))
        | no l ↦
            let same : table arcs p q (suc r) v ≡ table arcs p q r v = omega (arith, table_grows arcs p q r v) in
            let c = has_parent r v (omega arith) in
            (c.0, came_kept {a = c.0} c.1 same)
      ]

  -- the parent of a node that was raised last in round k+2 leaves one that was raised in round k+1
  pub parent_leaves : {r k v : ℕ} {a : Arc} → Parent arcs p q r (suc k) v a → table arcs p q k a.departure < table arcs p q (suc k) a.departure
  parent_leaves {k = k} c = let g = c.gives in omega (arith, c.last.raised, g.exact, table_meets arcs p q k g.member, ap (table arcs p q (suc k)) g.arrives)

  -- ---- a row of parents

  -- a parent, or any arc where the time is 0
  parent_or_any : (r v : ℕ) → (a : Arc) × (0 < table arcs p q r v → Came arcs p q r v a)
  parent_or_any r v =
      elim (dec_lt 0 (table arcs p q r v)) [
        | yes h ↦ let c = has_parent r v h in (c.0, λ l. c.1)
        | no h ↦ (record { departure = 0; arrival = 0; up = 0; down = 0; forth = 0; back = 0 }, λ l. absurd (h l))
      ]

  -- THEOREM: after any number of rounds there is a row of parents
  pub has_row : (r : ℕ) → (par : ℕ → Arc) × Row arcs p q r par
  has_row r = ((λ v. (parent_or_any r v).0), λ v. (parent_or_any r v).1)

  -- ---- a circuit of parents

  module _ (r : ℕ) where
    -- a parent holds with room to spare, or the node that it leaves was raised earlier
    room_or_tie : (a : Arc) (j k : ℕ) → Last arcs p q r j a.departure → Parent arcs p q r k a.arrival a
        → (table arcs p q r a.arrival + fall p q a < table arcs p q r a.departure + rise p q a)
        ⊎ ((table arcs p q r a.arrival + fall p q a ≤ table arcs p q r a.departure + rise p q a) × (j < k))
    room_or_tie a j k s c =
        let grown = table_mono arcs p q a.departure {r = k} {k = r} (omega (arith, c.last.early)) in
        elim (dec_lt (table arcs p q k a.departure) (table arcs p q r a.departure)) [
          | yes h ↦ inl (omega arith)
          | no h ↦ elim (dec_lt j k) [
            | yes l ↦ inr (omega arith, l)
            | no l ↦ absurd (omega (arith, table_mono arcs p q a.departure {r = k} {k = j} (omega arith)))
          ]
        ]

    walk_room_or_tie : (w : List Arc) (u v j k : ℕ) → Walk arcs u w v → Parents arcs p q r w → Last arcs p q r j u → Last arcs p q r k v
        → (table arcs p q r v + total (fall p q) w < table arcs p q r u + total (rise p q) w)
        ⊎ ((table arcs p q r v + total (fall p q) w ≤ table arcs p q r u + total (rise p q) w) × (j + length w ≤ k))
    walk_room_or_tie [] u v j k h all s e =
        inr (omega (arith, ap (table arcs p q r) h), omega (arith, last_same (subst (λ (x : ℕ). Last arcs p q r j x) h s) e))
    walk_room_or_tie (a ∷ w) u v j k h all s e =
        let c = all a (Memᴰ.head refl) in
        let here = room_or_tie a j c.0 (rw h.1 s) c.1 in
        let rest = walk_room_or_tie w a.arrival v c.0 k h.2 (λ b m. all b (Memᴰ.tail m)) c.1.last e in
        rw (← h.1) (elim here [
          | inl x ↦ elim rest [ inl y ↦ inl (omega arith) | inr y ↦ inl (omega arith) ]
          | inr x ↦ elim rest [ inl y ↦ inl (omega arith) | inr y ↦ inr (omega arith, omega arith) ]
        ])

    -- THEOREM: a circuit of parents has its total above zero
    pub parents_above : (c : List Arc) → Circuit arcs c → Parents arcs p q r c → Above p q c
    parents_above c ring all =
        let end = walk_end arcs c ring.node ring.node ring.closed ring.nonempty in
        let k = (all end.0 end.1).0 in
        let s : Last arcs p q r k ring.node = subst (λ (x : ℕ). Last arcs p q r k x) end.2 (all end.0 end.1).1.last in
        elim (walk_room_or_tie c ring.node ring.node k k ring.closed all s s) [
          | inl x ↦ omega arith
          | inr x ↦ absurd (omega (arith, ring.nonempty))
        ]

    -- THEOREM: so it refutes
    pub parents_refuted : (c : List Arc) → Circuit arcs c → Parents arcs p q r c → Refuted arcs p q
    parents_refuted c ring all = record { by = c; circuit = ring; above = parents_above c ring all }
