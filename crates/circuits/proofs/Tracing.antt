-- The row of marks that the rounds leave is a row of parents: each node's mark names the step of the sheet whose arc raised it last. So
-- the way back from a node that round N raised is the theory's, and never leaves the nodes.
use mathlib.Core.Path.{◌≡◌, refl, sym, ap, ap₂, subst, ◌∙◌}
use mathlib.Core.Logic.{◌≢◌}
use mathlib.Core.Bool.{Bool, true, false, cond}
use mathlib.Core.List.{List}
use Prim.Native.Nat.{ℕ, suc, ◌+◌, ◌-◌, ◌*◌, ◌/◌, ◌%◌, ◌≤◌, ◌<◌}
use native.Mathlib.Omega.{arith}
use native.Mathlib.Decide.{dec_lt}
use native.Mathlib.Nat.{mod-eq_of_lt, div-eq_of_lt, mul-add-div_right, mul-add-mod_self_right}
use lib.Dec.{eqb}
use lib.IntN.{ℤ}
use lib.ListN.{length, get_or}
use Rattle.theory.specs.Arcs.{Arc, table, Within}
use Rattle.theory.specs.Parents.{Came, Row}
use Rattle.theory.specs.Backs.{back, leaving, Follows}
use Rattle.theory.proofs.Rounds.{table_outside}
use Rattle.theory.proofs.Backs.{back_agree, round_follows, round_inside}
use Rattle.tables.specs.Sheets.{Sheet}
use Rattle.tables.specs.Admitted.{Admitted}
use Rattle.windows.specs.Windows.{Kind, A0, B0, A1, B1, number, Has, mode}
use Rattle.windows.specs.Arcs.{arc, arc_of, arcs, nodes}
use Rattle.windows.specs.Circuits.{Step, step_arc, Valid}
use Rattle.windows.proofs.Laying.{arcs_within}
use Rattle.windows.proofs.Limits.{number_small, nodes_few}
use Rattle.windows.proofs.Steps.{kind_of, kind_number, valid_in}
use Rattle.edges.specs.declared.Edge.{Edge}
use Rattle.edges.specs.declared.Record.{Record}
use Rattle.edges.specs.Edges.{by_kind, site_of}
use Rattle.edges.proofs.Places.{as_record}
use Rattle.edges.proofs.Edges.{weighed}
use Rattle.layout.proofs.Laying.{Modes}
use Rattle.edges.specs.declared.Site.{Site}
use Rattle.turns.specs.Rounds.{Named, named, walked, table_of, MarkTold, Rose}
use Rattle.turns.proofs.Sheets.{Source, source, table_is}
use Rattle.circuits.specs.Ways.{before, places_of, Led}

-- ---- the step that a mark names

-- the step of an arc of the kind k from u to v, and that of the marked arc that arrives at v
abbrev step_by : ℕ → ℕ → ℕ → ℕ → Step
step_by n k u v = let e = places_of k u v in record { kind = kind_of k; position = e.here / n + 1; to = e.to % n + 1; from = e.from % n + 1 }

abbrev pub step_of : ℕ → ℕ → ℕ → Step
step_of n v mark = step_by n (mark % 8) (mark / 8) v

-- ---- an arc's window and position, back from its nodes
abbrev made : Kind → ℕ → ℕ → ℕ → Step
made k h i j = record { kind = k; position = h; to = i; from = j }

same : (k : Kind) (h h' i i' j j' : ℕ) → h ≡ h' → i ≡ i' → j ≡ j' → made k h i j ≡ made k h' i' j'
same k h h' i i' j j' a b c = rw (a, b, c)

-- the event e of the position g + 1
module _ (n x g e : ℕ) (is : x ≡ g * n) (first : 1 ≤ e) (last : e ≤ n) where
  apart : x + e - 1 ≡ g * n + (e - 1)
  apart = omega arith

  position_at : (x + e - 1) / n + 1 ≡ suc g
  position_at = omega (arith, ap (λ (y : ℕ). y / n) apart, mul-add-div_right {m = n} (omega arith) g (e - 1), div-eq_of_lt {n = e - 1} {m = n} (omega arith))

  event_at : (x + e - 1) % n + 1 ≡ e
  event_at = omega (arith, ap (λ (y : ℕ). y % n) apart, mul-add-mod_self_right g n (e - 1), mod-eq_of_lt {n = e - 1} {m = n} (omega arith))

-- THEOREM: the step by an arc's nodes is the window at its position
step_by_lem : (k : Kind) (a : Record) (n q here next cross g f : ℕ) → here ≡ g * n → next ≡ f * n → 1 ≤ a.to → a.to ≤ n → 1 ≤ a.from → a.from ≤ n → let e = by_kind (number k) a q here next cross in
    step_by n (number k) e.departure e.arrival ≡ made k (suc g) a.to a.from
unfolding by_kind places_of
step_by_lem A0 a n q here next cross g f h x t t' u u' = same A0 _ _ _ _ _ _ (position_at n here g a.to h t t') (event_at n here g a.to h t t') (event_at n here g a.from h u u')
step_by_lem B0 a n q here next cross g f h x t t' u u' = same B0 _ _ _ _ _ _ (position_at n here g a.from h u u') (event_at n here g a.to h t t') (event_at n here g a.from h u u')
step_by_lem A1 a n q here next cross g f h x t t' u u' = same A1 _ _ _ _ _ _ (position_at n here g a.from h u u') (event_at n next f a.to x t t') (event_at n here g a.from h u u')
step_by_lem B1 a n q here next cross g f h x t t' u u' = same B1 _ _ _ _ _ _ (position_at n here g a.from h u u') (event_at n next f a.to x t t') (event_at n here g a.from h u u')

-- where a position and the next one stand
site_places : (g n positions p q : ℕ) → let at = site_of g n positions p q in (at.here ≡ g * n) × ((f : ℕ) × (at.next ≡ f * n))
unfolding site_of
site_places g n positions p q = go (eqb (g + 1) positions)
  where
    go : (b : Bool) → let at = cond {A = Site} b (record { here = g * n; next = 0; cross = p; q = q }) (record { here = g * n; next = (g + 1) * n; cross = 0; q = q }) in (at.here ≡ g * n) × ((f : ℕ) × (at.next ≡ f * n))
    go true = (refl, (0, omega arith))
    go false = (refl, (g + 1, refl))

-- a mark, read back
module _ (d k : ℕ) (few : k < 8) where
  mark_departure : (d * 8 + k) / 8 ≡ d
  mark_departure = omega arith

  mark_kind : (d * 8 + k) % 8 ≡ k
  mark_kind = omega arith

module _ (s : Sheet) where
  -- the mark of v names a step of the sheet
  pub record Shown (v mark : ℕ) : Type 0 where
    pub valid : Valid s (step_of s.n v mark)
    pub kind : number (step_of s.n v mark).kind ≡ mark % 8
    pub leave : mark / 8 ≡ (step_arc s (step_of s.n v mark)).departure

  -- the arc that the row has at a node
  abbrev pub parent : List ℕ → ℕ → Arc
  parent row v = step_arc s (step_of s.n v (get_or row v 0))

  -- the arcs of a round
  abbrev pub round_arcs : ℕ → ℕ → List Record → List ℕ → List Named
  round_arcs p q l start = walked l start s.schedule s.n s.positions p q s.positions

  module _ (ok : Admitted s) (p q : ℕ) (l : List Record) (start : List ℕ) (laid : Modes s.tables s.n l start s.m) where
    -- the step that names the source's window
    module _ (a : Named) (o : Source s ok p q l start laid a) where
      k : ℕ
      k = number o.of.kind

      e : Edge
      e = (named (as_record o.of) (site_of o.position s.n s.positions p q)).edge

      edge_made : a.edge ≡ e
      unfolding e
      edge_made = ap (λ (x : Named). x.edge) o.made

      mark_is : a.mark ≡ e.departure * 8 + k
      unfolding e k
      mark_is = ap (λ (x : Named). x.mark) o.made

      kind_is : a.mark % 8 ≡ k
      unfolding k
      kind_is = ap (λ (m : ℕ). m % 8) mark_is ∙ mark_kind e.departure k (omega (arith, number_small o.of.kind))

      departure_is : a.mark / 8 ≡ e.departure
      unfolding k
      departure_is = ap (λ (m : ℕ). m / 8) mark_is ∙ mark_departure e.departure k (omega (arith, number_small o.of.kind))

      named_step : Step
      named_step = made o.of.kind (suc o.position) o.of.to o.of.from

      step_is : step_of s.n a.edge.arrival a.mark ≡ named_step
      unfolding named_step e k
      step_is =
          let at = site_of o.position s.n s.positions p q in
          let x = site_places o.position s.n s.positions p q in
          let h = o.has in
          ap (λ (v : ℕ). step_of s.n v a.mark) (ap (λ (y : Edge). y.arrival) edge_made)
          ∙ ap₂ (λ (i u : ℕ). step_by s.n i u e.arrival) kind_is departure_is
          ∙ step_by_lem o.of.kind (as_record o.of) s.n at.q at.here at.next at.cross o.position x.1.0 x.0 x.1.1 h.to_event.0 h.to_event.1 h.from_event.0 h.from_event.1

      at_mode : Has s (mode s (suc o.position)) o.of
      at_mode = subst (λ (t : ℕ). Has s t o.of) (sym (ap (λ (x : ℕ). get_or s.schedule x 0) (mod-eq_of_lt o.below))) o.has

      arc_is : step_arc s (step_of s.n a.edge.arrival a.mark) ≡ arc_of s (suc o.position) o.of
      unfolding named_step
      arc_is = ap (step_arc s) step_is ∙ ap (λ (z : ℤ). arc s (suc o.position) o.of.kind o.of.to o.of.from z) at_mode.stands

      valid_step : Valid s named_step
      unfolding named_step
      valid_step =
          record { from_first = omega arith; to_last = o.below; to_event = at_mode.to_event; from_event = at_mode.from_event; present = subst (λ (z : ℤ). z ≢ _) (sym at_mode.stands) at_mode.present }

      shown : Shown a.edge.arrival a.mark
      unfolding k
      shown =
          record {
            valid = subst (Valid s) (sym step_is) valid_step;
            kind = ap (λ (i : ℕ). number (kind_of i)) kind_is ∙ ap number (kind_number o.of.kind) ∙ sym kind_is;
            leave = departure_is ∙ sym (ap (λ (x : Edge). x.departure) edge_made) ∙ ap (λ (x : Edge). x.departure) o.edge ∙ sym (ap (λ (x : Arc). x.departure) arc_is);
          }

      -- the arc's numbers are the step's
      edge_of : a.edge ≡ weighed p q (step_arc s (step_of s.n a.edge.arrival a.mark))
      edge_of = o.edge ∙ ap (weighed p q) (sym arc_is)

    -- ---- the row
    module _ (row : List ℕ) (r v : ℕ) (t : MarkTold (round_arcs p q l start) row r v) where
      told_source : Source s ok p q l start laid t.by
      told_source = source s ok p q l start laid s.positions (omega arith) t.member

      told_shown : Shown v (get_or row v 0)
      told_shown = rw t.marked (subst (λ (u : ℕ). Shown u t.by.mark) t.arrives (shown t.by told_source))

      told_edge : t.by.edge ≡ weighed p q (parent row v)
      told_edge = edge_of t.by told_source ∙ ap₂ (λ (u m : ℕ). weighed p q (step_arc s (step_of s.n u m))) t.arrives (sym t.marked)

      -- THEOREM: a mark that is told names the parent
      told_came : Came (arcs s) p q r v (parent row v)
      told_came =
          let k = t.round in
          let e = told_edge in
          let now = table_is s ok p q l start laid (suc k) v in (
            k,
            record {
              last = record { early = t.early; raised = omega (arith, t.raised, now, table_is s ok p q l start laid k v); kept = sym (table_is s ok p q l start laid r v) ∙ t.kept ∙ now };
              gives = record {
                member = valid_in s (step_of s.n v (get_or row v 0)) told_shown.valid;
                arrives = sym (ap (λ (x : Edge). x.arrival) e) ∙ t.arrives;
                exact = omega (
                  arith,
                  t.exact,
                  now,
                  ap (λ (x : Edge). x.fall) e,
                  ap (λ (x : Edge). x.rise) e,
                  table_is s ok p q l start laid k t.by.edge.departure,
                  ap (λ (x : Edge). table (arcs s) p q k x.departure) e,
                );
              };
            },
          )

-- ---- the way back from a node that round N raised
module _ (s : Sheet) (ok : Admitted s) (p q : ℕ) (l : List Record) (start : List ℕ) (laid : Modes s.tables s.n l start s.m) (row : List ℕ) (N v : ℕ) (all : N ≡ nodes s)
    (told : (u : ℕ) → u < N → 0 < table_of (round_arcs s p q l start) N u → MarkTold (round_arcs s p q l start) row N u) (below : v < N) (last : Rose (round_arcs s p q l start) (N - 1) v) where
  abbrev T : ℕ → ℕ → ℕ
  T r u = table (arcs s) p q r u

  here : (u : ℕ) → u < N → 0 < T N u → MarkTold (round_arcs s p q l start) row N u
  here u h k = told u h (omega (arith, table_is s ok p q l start laid N u))

  parents : Row (arcs s) p q N (parent s row)
  parents u k =
      elim (dec_lt u N) [
        | yes h ↦ told_came s ok p q l start laid row N u (here u h k)
        | no h ↦ absurd (omega (arith, table_outside (arcs s) p q (nodes s) (arcs_within s ok.size.some_positions) N u (omega arith)))
      ]

  again : N ≡ suc (N - 1)
  again = omega arith

  rises : T (N - 1) v < T N v
  rises = omega (arith, last, table_is s ok p q l start laid (N - 1) v, table_is s ok p q l start laid (suc (N - 1)) v, ap (λ (r : ℕ). T r v) again)

  inside_nodes : Within N (arcs s)
  inside_nodes a m = let w = arcs_within s ok.size.some_positions a m in (omega (arith, w.0), omega (arith, w.1))

  pub follows : Follows (arcs s) p q N (parent s row) v N
  follows = round_follows (arcs s) p q N N (N - 1) (omega arith) again inside_nodes (parent s row) parents v below rises

  inside : (j : ℕ) → j ≤ N → back (leaving (parent s row)) v j < N
  inside = round_inside (arcs s) p q N N (N - 1) (omega arith) again inside_nodes (parent s row) parents v below rises

  -- each mark on the way names a step
  shown_on : (j : ℕ) → j < N → Shown s (back (leaving (parent s row)) v j) (get_or row (back (leaving (parent s row)) v j) 0)
  shown_on j h =
      let u = back (leaving (parent s row)) v j in
      let c = (follows j h).1.last in
      told_shown s ok p q l start laid row N u (here u (inside j (omega arith)) (omega (arith, c.raised, c.kept)))

  -- the way back by the marks is that by the parents
  pub same_way : (j : ℕ) → j ≤ N → back (before row) v j ≡ back (leaving (parent s row)) v j
  same_way = back_agree (before row) (leaving (parent s row)) v N (λ j h. (shown_on j h).leave)

  pub shown_at : (j : ℕ) → j < N → Shown s (back (before row) v j) (get_or row (back (before row) v j) 0)
  shown_at j h = rw (same_way j (omega arith)) (shown_on j h)

  -- THEOREM: the way back leads
  pub led : N ≤ length row → Led row s.n s.positions v
  led long =
      record {
        rowed = record { some = ok.size.some_events; few = nodes_few s ok; long = omega arith };
        inside = λ j h. omega (arith, same_way j (omega arith), inside j (omega arith));
      }
