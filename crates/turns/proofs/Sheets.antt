-- The rounds over a sheet's list of records are the rounds over the sheet's arcs: each position's part of the list is the windows of its
-- mode, and the arc of a record in numbers is the window's arc at p/q. So the tables are the theory's, and a mark names a window.
use mathlib.Core.Path.{◌≡◌, refl, sym, ap, ap₂, ◌∙◌, subst}
use mathlib.Core.Logic.{inl, inr}
use mathlib.Core.List.Memᴰ
use mathlib.Core.List.{List, [], ◌∷◌, ◌++◌, map, Memᴰ}
use Prim.Native.Nat.{ℕ, zero, suc, ◌+◌, ◌-◌, ◌*◌, ◌≤◌, ◌<◌, max}
use native.Mathlib.Omega.{arith}
use native.Mathlib.Nat.{mod-eq_of_lt, mul-le-mul_right}
use native.Mathlib.Decide.{ℕ_discrete, dec_lt}
use native.Mathlib.Numerals.{add-one}
use lib.IntN.{pos}
use lib.ListN.{length, get_or, length-map, get_or-map}
use Rattle.theory.specs.Arcs.{Arc, rise, fall, only, most, table}
use Rattle.tables.specs.Sheets.{Sheet, no_window, place, places, admits}
use Rattle.tables.specs.Admitted.{Admitted}
use Rattle.tables.proofs.Laws.{few_places}
use Rattle.windows.specs.Windows.{number, Window, Event, Has, mode}
use Rattle.windows.specs.Arcs.{up, down, arc_of, one_to, each, windows, arcs_at, arcs}
use Rattle.windows.proofs.Listed.{each_more, windows_of_lem}
use Rattle.windows.proofs.Limits.{number_small, place_below, get_or_any, admits_limit}
use Rattle.edges.specs.declared.Edge.{Edge}
use Rattle.edges.specs.declared.Record.{Record}
use Rattle.layout.specs.Records.{listed, mode_records}
use Rattle.edges.specs.Edges.{site_of, edge_of}
use Rattle.edges.proofs.Places.{as_record, nothing}
use Rattle.edges.proofs.Edges.{weighed, edge_is}
use Rattle.edges.proofs.Sites.{edge_there}
use Rattle.layout.proofs.Laying.{Modes}
use Rattle.layout.proofs.Windows.{mode_records_lem}
use Rattle.turns.specs.Rounds.{Named, named, asks, span, walked, most_of, table_of, Fine, Parts}

-- ---- the arcs of the list and the arcs of the theory
-- the named arcs are the theory's, one by one
abbrev Match : ℕ → ℕ → List Named → List Arc → Type 0
Match p q [] [] = Unit {0}
Match p q [] (b ∷ bs) = ⊥
Match p q (a ∷ rest) [] = ⊥
Match p q (a ∷ rest) (b ∷ bs) = (a.edge ≡ weighed p q b) × Match p q rest bs

module _ (p q : ℕ) where
  match_append : (us : List Named) (bs : List Arc) (cs : List Named) (ds : List Arc) → Match p q us bs → Match p q cs ds → Match p q (us ++ cs) (bs ++ ds)
  match_append [] [] cs ds m n = n
  match_append [] (b ∷ bs) cs ds m n = absurd m
  match_append (a ∷ rest) [] cs ds m n = absurd m
  match_append (a ∷ rest) (b ∷ bs) cs ds m n = (m.0, match_append rest bs cs ds m.1 n)

  match_span : (f : ℕ → Named) (g : Window → Arc) (ws : List Window) (a : ℕ) → ((i : ℕ) → i < length ws → (f (a + i)).edge ≡ weighed p q (g (get_or ws i nothing)))
      → Match p q (span f a (length ws)) (map g ws)
  unfolding span
  match_span f g [] a h = tt
  match_span f g (w ∷ ws) a h =
      let z : a + 0 ≡ a = omega arith in
      (ap (λ (k : ℕ). (f k).edge) (sym z) ∙ h 0 (omega arith), match_span f g ws (suc a) (λ i l. ap (λ (k : ℕ). (f k).edge) (next a i) ∙ h (suc i) (omega arith)))
    where
      next : (a i : ℕ) → suc a + i ≡ a + suc i
      next a i = omega arith

  match_most : (us : List Named) (bs : List Arc) → Match p q us bs → (t : ℕ → ℕ) (v : ℕ) → most_of us t v ≡ most bs p q t v
  unfolding most_of most
  match_most [] [] m t v = refl
  match_most [] (b ∷ bs) m t v = absurd m
  match_most (a ∷ rest) [] m t v = absurd m
  match_most (a ∷ rest) (b ∷ bs) m t v =
      ap₂ max (ap (λ (e : Edge). only (ℕ_discrete e.arrival v) (asks t e)) m.0) (match_most rest bs m.1 t v)

  most_same : (bs : List Arc) (t u : ℕ → ℕ) → ((v : ℕ) → t v ≡ u v) → (v : ℕ) → most bs p q t v ≡ most bs p q u v
  unfolding most
  most_same [] t u h v = refl
  most_same (b ∷ bs) t u h v =
      ap₂ max (ap (λ (x : ℕ). only (ℕ_discrete b.arrival v) (x + rise p q b - fall p q b)) (h b.departure)) (most_same bs t u h v)

  match_table : (us : List Named) (bs : List Arc) → Match p q us bs → (r v : ℕ) → table_of us r v ≡ table bs p q r v
  unfolding table_of table
  match_table us bs m zero v = refl
  match_table us bs m (suc r) v =
      ap₂ max (match_table us bs m r v) (match_most us bs m (table_of us r) v ∙ most_same bs (table_of us r) (table bs p q r) (match_table us bs m r) v)

-- ---- a record at a position is the window's arc there
site_edge : (s : Sheet) (p q g : ℕ) → g < s.positions → (a : Window) → 1 ≤ a.to → 1 ≤ a.from → let at = site_of g s.n s.positions p q in
    edge_of (as_record a) at.q at.here at.next at.cross ≡ weighed p q (arc_of s (suc g) a)
site_edge s p q g h a to from = edge_there g s.n s.positions p q (as_record a) ∙ edge_is s p q g h a to from

-- ---- the list of a sheet
get_d_in : {A : Type 0} (l : List A) (i : ℕ) (d : A) → i < length l → Memᴰ (get_or l i d) l
get_d_in [] i d h = absurd (omega arith)
get_d_in (a ∷ l) zero d h = Memᴰ.head refl
get_d_in (a ∷ l) (suc i) d h = Memᴰ.tail (get_d_in l i d (omega arith))

module _ (s : Sheet) (ok : Admitted s) (p q : ℕ) (l : List Record) (start : List ℕ) (laid : Modes s.tables s.n l start s.m) where
  same : (t : ℕ) → t < s.m → mode_records s.tables s.n t ≡ map as_record (windows s t)
  same t h = mode_records_lem s t h ok.size.long_tables

  pub starts : (t : ℕ) → t < s.m → get_or start (t + 1) 0 ≡ get_or start t 0 + length (windows s t)
  starts t h = ap (λ (x : ℕ). get_or start x 0) (add-one t) ∙ laid.next t h ∙ ap (λ (x : ℕ). get_or start t 0 + x) (ap length (same t h) ∙ length-map (windows s t) as_record)

  pub records : (t i : ℕ) → t < s.m → i < length (windows s t) → listed l (get_or start t 0 + i) ≡ as_record (get_or (windows s t) i nothing)
  records t i h k =
      laid.inside t i h (omega (arith, ap length (same t h), length-map (windows s t) as_record))
      ∙ ap (λ (x : List Record). listed x i) (same t h)
      ∙ get_or-map as_record (windows s t) i nothing

  mode_is : (g : ℕ) → g < s.positions → mode s (suc g) ≡ get_or s.schedule g 0
  mode_is g h = ap (λ (x : ℕ). get_or s.schedule x 0) (mod-eq_of_lt h)

  has : (g i : ℕ) → g < s.positions → i < length (windows s (get_or s.schedule g 0)) → Has s (get_or s.schedule g 0) (get_or (windows s (get_or s.schedule g 0)) i nothing)
  has g i h k = windows_of_lem s (get_or s.schedule g 0) _ (get_d_in (windows s (get_or s.schedule g 0)) i nothing k)

  here : (g : ℕ) → g < s.positions → (i : ℕ) → i < length (windows s (get_or s.schedule g 0))
      → (named (listed l (get_or start (get_or s.schedule g 0) 0 + i)) (site_of g s.n s.positions p q)).edge
      ≡ weighed p q (arc_of s (suc g) (get_or (windows s (get_or s.schedule g 0)) i nothing))
  here g k i j =
      let t = get_or s.schedule g 0 in
      let a = get_or (windows s t) i nothing in
      let at = site_of g s.n s.positions p q in
      let e = has g i k j in
      ap (λ (x : Record). edge_of x at.q at.here at.next at.cross) (records t i (ok.modes g k) j)
      ∙ site_edge s p q g k a e.to_event.0 e.from_event.0

  -- THEOREM: the arcs that a round walks are the sheet's arcs
  walked_match : (g : ℕ) → g ≤ s.positions → Match p q (walked l start s.schedule s.n s.positions p q g) (each (one_to g) (arcs_at s))
  unfolding walked
  walked_match zero h = tt
  walked_match (suc g) h =
      let k : g < s.positions = omega arith in
      let t = get_or s.schedule g 0 in
      let below = ok.modes g k in
      let count : get_or start (t + 1) 0 - get_or start t 0 ≡ length (windows s t) = omega (arith, starts t below) in
      let part = match_span p q (λ x. named (listed l x) (site_of g s.n s.positions p q)) (arc_of s (suc g)) (windows s t) (get_or start t 0) (λ i j. here g k i j) in
      subst (Match p q (walked l start s.schedule s.n s.positions p q (suc g))) (sym (each_more g (arcs_at s)))
      (match_append p q (walked l start s.schedule s.n s.positions p q g) (each (one_to g) (arcs_at s)) (span (λ x. named (listed l x) (site_of g s.n s.positions p q)) (get_or start t 0) (get_or start (t + 1) 0 - get_or start t 0)) (arcs_at s (suc g))
      (walked_match g (omega arith)) (rw (count, mode_is g k) part))

  -- THEOREM: the tables of the rounds are the tables of the sheet's arcs
  pub table_is : (r v : ℕ) → table_of (walked l start s.schedule s.n s.positions p q s.positions) r v ≡ table (arcs s) p q r v
  unfolding arcs
  table_is r v = match_table p q (walked l start s.schedule s.n s.positions p q s.positions) (each (one_to s.positions) (arcs_at s)) (walked_match s.positions (omega arith)) r v

  -- ---- what the rounds are handed

  -- every record is a window of a mode
  placed : (t : ℕ) → t ≤ s.m → (k : ℕ) → k < get_or start t 0 → (j i : ℕ) × (j < s.m) × (i < length (windows s j)) × (k ≡ get_or start j 0 + i)
  placed zero h k x = absurd (omega (arith, laid.first))
  placed (suc t) h k x =
      elim (dec_lt k (get_or start t 0)) [
        | yes a ↦ placed t (omega arith) k a
        | no a ↦ (t, k - get_or start t 0, omega arith, omega (arith, starts t (omega arith), ap (λ (y : ℕ). get_or start y 0) (add-one t)), omega arith)
      ]

  small : (t : ℕ) → t < s.m → (a : Window) → Has s t a → (up a.w ≤ 1000000) × (down a.w ≤ 1000000)
  small t h a has =
      let k = place s.n t (number a.kind) a.to a.from in
      let below : k < places s.n s.m = place_below s.n s.m t (number a.kind) a.to a.from h (number_small a.kind) has.to_event.0 has.to_event.1 has.from_event.0 has.from_event.1 in
      let is : get_or s.tables k (pos 0) ≡ a.w = get_or_any s.tables k (pos 0) no_window (omega (arith, ok.size.long_tables)) ∙ has.stands in
      admits_limit a.w (ap admits (sym is) ∙ ok.values k below) has.present

  -- the record k is fine
  record Good (k : ℕ) : Type 0 where
    kind_few : (listed l k).kind < 8
    to_event : Event s (listed l k).to
    from_event : Event s (listed l k).from
    up_small : up (listed l k).w ≤ 1000000
    down_small : down (listed l k).w ≤ 1000000

  good : (t : ℕ) → t ≤ s.m → (k : ℕ) → k < get_or start t 0 → Good k
  good t h k x =
      let j = placed t h k x in
      let a = get_or (windows s j.0) j.1 nothing in
      let b = windows_of_lem s j.0 a (get_d_in (windows s j.0) j.1 nothing j.3) in
      let m = small j.0 j.2 a b in
      let e : listed l k ≡ as_record a = ap (listed l) j.4 ∙ records j.0 j.1 j.2 j.3 in
      record {
        kind_few = rw e (omega (arith, number_small a.kind));
        to_event = rw e b.to_event;
        from_event = rw e b.from_event;
        up_small = rw e m.0;
        down_small = rw e m.1;
      }

  start_few : (t : ℕ) → t ≤ s.m → get_or start t 0 ≤ 4608
  start_few t h = omega (arith, laid.few t h, mul-le-mul_right (4 * (s.n * s.n)) h, few_places s.n s.m ok.size.few_events ok.size.few_modes)

  fine : (t : ℕ) → t ≤ s.m → Fine l s.n (get_or start t 0)
  fine t h =
      record {
        few = start_few t h;
        kind_few = λ k x. (good t h k x).kind_few;
        to_first = λ k x. (good t h k x).to_event.0;
        to_last = λ k x. (good t h k x).to_event.1;
        from_first = λ k x. (good t h k x).from_event.0;
        from_last = λ k x. (good t h k x).from_event.1;
        up_small = λ k x. (good t h k x).up_small;
        down_small = λ k x. (good t h k x).down_small;
      }

  -- THEOREM: a sheet's list is what the rounds ask for
  pub parts : Parts l s.n start s.schedule s.positions
  parts =
      record {
        rising = λ g h. omega (arith, starts (get_or s.schedule g 0) (ok.modes g h));
        fine = λ g h. fine (get_or s.schedule g 0 + 1) (omega (arith, ok.modes g h));
      }

  -- ---- what a mark names

  pub record Source (a : Named) : Type 0 where
    pub position : ℕ
    pub below : position < s.positions
    pub of : Window
    pub has : Has s (get_or s.schedule position 0) of
    pub made : a ≡ named (as_record of) (site_of position s.n s.positions p q)
    pub edge : a.edge ≡ weighed p q (arc_of s (suc position) of)

  source_at : (g : ℕ) → g < s.positions → (k : ℕ) → get_or start (get_or s.schedule g 0) 0 ≤ k → k < get_or start (get_or s.schedule g 0 + 1) 0 → Source (named (listed l k) (site_of g s.n s.positions p q))
  source_at g h k x y =
      let t = get_or s.schedule g 0 in
      let i = k - get_or start t 0 in
      let j : i < length (windows s t) = omega (arith, starts t (ok.modes g h)) in
      let e : get_or start t 0 + i ≡ k = omega arith in
      let a = get_or (windows s t) i nothing in
      record {
        position = g;
        below = h;
        of = a;
        has = has g i h j;
        made = ap (λ (w : Record). named w (site_of g s.n s.positions p q)) (ap (listed l) (sym e) ∙ records t i (ok.modes g h) j);
        edge = ap (λ (z : ℕ). (named (listed l z) (site_of g s.n s.positions p q)).edge) (sym e) ∙ here g h i j;
      }

  span_of : {A : Type 0} (f : ℕ → A) (m a : ℕ) {x : A} → Memᴰ x (span f a m) → (k : ℕ) × (a ≤ k) × (k < a + m) × (x ≡ f k)
  unfolding span
  span_of f zero a m = absurd (Memᴰ.not-nil m)
  span_of f (suc n) a (Memᴰ.head e) = (a, omega arith, omega arith, e)
  span_of f (suc n) a (Memᴰ.tail m) = let r = span_of f n (suc a) m in (r.0, omega (arith, r.1), omega (arith, r.2), r.3)

  -- THEOREM: every arc that a round walks is a window at a position, which its mark names
  pub source : (g : ℕ) → g ≤ s.positions → {a : Named} → Memᴰ a (walked l start s.schedule s.n s.positions p q g) → Source a
  unfolding walked
  source zero h m = absurd (Memᴰ.not-nil m)
  source (suc g) h m =
      let t = get_or s.schedule g 0 in
      let k : g < s.positions = omega arith in
      elim (Memᴰ.append_cases (walked l start s.schedule s.n s.positions p q g) m) [
        | inl e ↦ source g (omega arith) e
        | inr e ↦
            let r = span_of (λ x. named (listed l x) (site_of g s.n s.positions p q)) (get_or start (t + 1) 0 - get_or start t 0) (get_or start t 0) e in
            rw r.3 (source_at g k r.0 r.1 (omega (arith, r.2, starts t (ok.modes g k))))
      ]
