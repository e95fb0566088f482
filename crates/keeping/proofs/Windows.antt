-- The places of a mode's part are the windows of the sheet's mode, in the order of kind, to and from; a place's test is what its window says of the proposed
-- times, all of them lifted by the reach. So the first place broken is the first window broken, and where no place is broken the times keep every window.
use mathlib.Core.Path.{◌≡◌, refl, sym, ap, ap₂, ◌∙◌, subst}
use mathlib.Core.Logic.{◌↔◌, inl, inr}
use mathlib.Core.Bool.{Bool, true, false, not}
use mathlib.Core.List.{List, [], ◌∷◌}
use Prim.Native.Nat.{ℕ, zero, suc, ◌+◌, ◌*◌, ◌/◌, ◌%◌, ◌≤◌, ◌<◌}
use native.Mathlib.Omega.{arith}
use native.Mathlib.Nat.{mod-lt, mod-eq_of_lt, div-add-mod', mul-le-mul_right}
use native.Mathlib.Numerals.{add-one}
use borrow.Author.Tests.{leb-true, le-leb}
use lib.Dec.{leb}
use lib.IntN.{ℤ, pos}
use lib.ListN.{get_or, take, length}
use Rattle.std.proofs.lemmas.List.{length-drop, length-take-le}
use Rattle.theory.specs.Arcs.{rise, fall, Holds}
use Rattle.theory.proofs.Sums.{rise_bound, fall_bound}
use Rattle.tables.proofs.Laws.{clash}
use Rattle.tables.specs.Sheets.{Sheet, absent}
use Rattle.tables.specs.Answers.{answer}
use Rattle.tables.specs.Lent.{lent}
use Rattle.windows.specs.Windows.{Kind, A0, B0, A1, B1, number, Window, entry, Has, mode}
use Rattle.windows.specs.Inequalities.{Says}
use Rattle.windows.specs.Arcs.{node, nodes, period, arc_of, arcs}
use Rattle.windows.specs.Circuits.{Step}
use Rattle.windows.proofs.Parts.{sum_parts}
use Rattle.windows.proofs.Endless.{Moved, moved_all, onwards, arc_says}
use Rattle.windows.proofs.Listed.{arcs_in, absent_some, some_absent}
use Rattle.windows.proofs.Laying.{node_inside, arcs_within}
use Rattle.windows.proofs.Limits.{number_small, sheet_laid, nodes_few}
use Rattle.edges.specs.declared.Edge.{Edge}
use Rattle.edges.specs.declared.lines.Line.{Line}
use Rattle.edges.specs.Edges.{from_place}
use Rattle.edges.proofs.Places.{as_record, sizes, kind_few, kind_at, to_at, from_at, value_at}
use Rattle.edges.proofs.Edges.{weighed, edge_is}
use Rattle.calls.specs.ProposedTimes as proposal
use Rattle.calls.specs.ProposedTimes.{times_refusal, Before, proposed, Broken, Outcome}
use Rattle.calls.proofs.ProposedTimes.Kept.{none_kept}
use Rattle.calls.proofs.ProposedTimes.Refusals.{in_reach_lem, times_granted, TimesGranted}
use Rattle.keeping.specs.Answers.{answer_held}
use Rattle.keeping.specs.Breaks.{lifted_at, arc_at, keeps_at, breaks_at, part_at, breaks, Reach, First, broken_at}
use Rattle.keeping.specs.declared.TimesHeld.TheVariants.{Accepted}

-- ---- the window of a place

-- the kind of a number
kind_of : (x : ℕ) → x < 4 → (k : Kind) × (number k ≡ x)
kind_of zero h = (A0, refl)
kind_of (suc zero) h = (B0, refl)
kind_of (suc (suc zero)) h = (A1, refl)
kind_of (suc (suc (suc zero))) h = (B1, refl)
kind_of (suc (suc (suc (suc x)))) h = absurd (omega arith)

-- the place of kind, to and from
abbrev place_of : ℕ → Kind → ℕ → ℕ → ℕ
place_of n k i j = number k * (n * n) + (i * n + j)

record Placed (n k : ℕ) : Type 0 where
  kind : Kind
  to : ℕ
  from : ℕ
  to_few : to < n
  from_few : from < n
  is : k ≡ place_of n kind to from

-- every place is some window's
placed : (n k : ℕ) → 0 < n → k < 4 * (n * n) → Placed n k
placed n k some h = record { kind = kind.0; to = k / n % n; from = k % n; to_few = mod-lt (k / n) some; from_few = mod-lt k some; is = is ∙ ap (λ (x : ℕ). x * (n * n) + (k / n % n * n + k % n)) (sym kind.1) }
  where
    is : k ≡ k / n / n * (n * n) + (k / n % n * n + k % n)
    is = omega (arith, div-add-mod' k n, ap (λ (x : ℕ). x * n) (div-add-mod' (k / n) n))

    few : k / n / n < 4
    few = omega (arith, kind_few n k some h, ap (λ (x : ℕ). x / (n * n)) is, kind_at n (k / n / n) (k / n % n) (k % n) (mod-lt (k / n) some) (mod-lt k some))

    kind : (c : Kind) × (number c ≡ k / n / n)
    kind = kind_of (k / n / n) few

-- it lies in the part
place_few : (n : ℕ) (k : Kind) (i j : ℕ) → i < n → j < n → place_of n k i j < 4 * (n * n)
place_few n k i j to from = omega (arith, mul-le-mul_right (n * n) (number_small k), mul-le-mul_right {m = suc i} {n = n} n to)

-- the record of a place
record_is : (n : ℕ) (k : Kind) (i j : ℕ) (w : ℤ) → i < n → j < n → from_place n (place_of n k i j) w ≡ as_record (record { kind = k; to = suc i; from = suc j; w = w })
record_is n k i j w to from = rw (kind_at n (number k) i j to from, to_at n (number k) i j to from, from_at n (number k) i j to from, add-one i, add-one j)

-- ---- a proposal that is not refused
module _ (line : Line) (times : List ℤ) (none : times_refusal (lent line.sheet) line.time.top line.time.bottom times ≡ 0) where
  abbrev pub s : Sheet
  s = lent line.sheet

  abbrev n : ℕ
  n = line.sheet.n

  pub granted : TimesGranted s line.time.top line.time.bottom times
  granted = times_granted s line.time.top line.time.bottom times none

  some_positions : 0 < line.sheet.positions
  some_positions = granted.sheet_ok.size.some_positions

  -- the test of a place
  abbrev test : ℕ → ℕ → Bool
  test g k = breaks line times g k

  module _ (g : ℕ) (h : g < line.sheet.positions) where
    mode_is : mode s (suc g) ≡ get_or line.sheet.schedule.now g 0
    mode_is = ap (λ (x : ℕ). get_or line.sheet.schedule.now x 0) (mod-eq_of_lt h)

    -- THEOREM: the part lies in the tables
    pub part_few : get_or line.sheet.schedule.now g 0 * (4 * (n * n)) + 4 * (n * n) ≤ 4608
    part_few = let fit = sizes (get_or line.sheet.schedule.now g 0) line.sheet.m n granted.sheet_ok.size.few_events granted.sheet_ok.size.few_modes (granted.sheet_ok.modes g h) in omega (arith, fit.part, fit.whole)

    pub part_inside : get_or line.sheet.schedule.now g 0 * (4 * (n * n)) + 4 * (n * n) ≤ length line.sheet.tables.now
    part_inside = let fit = sizes (get_or line.sheet.schedule.now g 0) line.sheet.m n granted.sheet_ok.size.few_events granted.sheet_ok.size.few_modes (granted.sheet_ok.modes g h) in omega (arith, fit.part, granted.sheet_ok.size.long_tables)

    pub part_long : length (take (4 * (n * n)) (part_at line g)) ≡ 4 * (n * n)
    part_long = length-take-le (4 * (n * n)) (part_at line g) (rw (length-drop (get_or line.sheet.schedule.now g 0 * (4 * (n * n))) line.sheet.tables.now) (omega (arith, part_inside)))

    module _ (k : Kind) (i j : ℕ) (to : i < n) (from : j < n) where
      abbrev w : ℤ
      w = entry s (mode s (suc g)) k (suc i) (suc j)

      abbrev window : Window
      window = record { kind = k; to = suc i; from = suc j; w = w }

      abbrev step : Step
      step = record { kind = k; position = suc g; to = suc i; from = suc j }

      value_is : get_or (part_at line g) (place_of n k i j) (pos 0) ≡ w
      value_is = value_at s (get_or line.sheet.schedule.now g 0) (granted.sheet_ok.modes g h) granted.sheet_ok.size.long_tables k i j to from ∙ ap (λ (t : ℕ). entry s t k (suc i) (suc j)) (sym mode_is)

      arc_is : arc_at line g (from_place n (place_of n k i j) w) ≡ weighed line.time.top line.time.bottom (arc_of s (suc g) window)
      arc_is = ap (arc_at line g) (record_is n k i j w to from) ∙ edge_is s line.time.top line.time.bottom g h window (omega arith) (omega arith)

      has : absent w ≡ false → Has s (mode s (suc g)) window
      has e = record { to_event = (omega arith, to); from_event = (omega arith, from); stands = refl; present = absent_some w e }

      -- what a window's test rests on
      reach : absent w ≡ false → Reach (weighed line.time.top line.time.bottom (arc_of s (suc g) window)) times
      reach e =
          let m = arcs_in s (suc g) (omega arith) h window (has e) in
          let inside = arcs_within s some_positions (arc_of s (suc g) window) m in
          let laid = sheet_laid s granted.sheet_ok in
          let few = nodes_few s granted.sheet_ok in
          let most : line.time.bottom * 1000000 + line.time.top ≤ 2000000000 = omega (arith, granted.q_small, granted.p_small) in
          record {
            departs_few = omega (arith, inside.0);
            arrives_few = omega (arith, inside.1);
            departs = omega (arith, inside.0, granted.long);
            arrives = omega (arith, inside.1, granted.long);
            leaves_in = (in_reach_lem (get_or times (arc_of s (suc g) window).departure (pos 0))).1 (granted.reach _ inside.0);
            comes_in = (in_reach_lem (get_or times (arc_of s (suc g) window).arrival (pos 0))).1 (granted.reach _ inside.1);
            rise_small = omega (arith, rise_bound (nodes s) 1000000 n (arcs s) laid line.time.top line.time.bottom (arc_of s (suc g) window) m);
            fall_small = omega (arith, fall_bound (nodes s) 1000000 n (arcs s) laid line.time.top line.time.bottom (arc_of s (suc g) window) m);
          }

      -- the times lifted say the same
      moved : (h : ℕ) → Moved s (onwards s line.time.top (lifted_at times)) h (proposed s line.time.top line.time.bottom times) h 382000000000 0
      moved h i event =
          let v = node s h i in
          let r = granted.reach v (node_inside s some_positions h i event) in
          omega (
            arith,
            sum_parts (get_or times v (pos 0)) (pos (line.time.top * period s h)),
            sum_parts (pos (lifted_at times v)) (pos (line.time.top * period s h)),
            r.0,
            r.1,
          )

      back : (h : ℕ) → Moved s (proposed s line.time.top line.time.bottom times) h (onwards s line.time.top (lifted_at times)) h 0 382000000000
      back h i event = omega (arith, moved h i event)

      says : absent w ≡ false → Holds line.time.top line.time.bottom (lifted_at times) (arc_of s (suc g) window) ↔ Says line.time.bottom (proposed s line.time.top line.time.bottom times) (suc g) k (suc i) (suc j) w
      says e =
          let x = arc_says s some_positions line.time.top line.time.bottom (lifted_at times) (suc g) k (suc i) (suc j) w in (
            λ holds. moved_all s line.time.bottom (onwards s line.time.top (lifted_at times)) (suc g) (proposed s line.time.top line.time.bottom times) (suc g) 382000000000 0 (moved (suc g)) (moved (suc (suc g))) (mode s (suc g)) window (has e) (x.0 holds),
            λ said. x.1 (moved_all s line.time.bottom (proposed s line.time.top line.time.bottom times) (suc g) (onwards s line.time.top (lifted_at times)) (suc g) 0 382000000000 (back (suc g)) (back (suc (suc g))) (mode s (suc g)) window (has e) said),
          )

      -- the test of the place, by the window's arc
      test_is : absent w ≡ false → let a = arc_of s (suc g) window in
          test g (place_of n k i j) ≡ not (leb (lifted_at times a.departure + rise line.time.top line.time.bottom a) (lifted_at times a.arrival + fall line.time.top line.time.bottom a))
      unfolding breaks_at keeps_at
      test_is e =
          ap (λ (v : ℤ). breaks_at line g (place_of n k i j) v times) value_is
          ∙ rw e (ap (λ (a : Edge). not (leb (lifted_at times a.departure + a.rise) (lifted_at times a.arrival + a.fall))) arc_is)

      test_absent : absent w ≡ true → test g (place_of n k i j) ≡ false
      unfolding breaks_at
      test_absent e = ap (λ (v : ℤ). breaks_at line g (place_of n k i j) v times) value_is ∙ rw e

      -- THEOREM: the place is broken exactly if its window is
      pub told : (test g (place_of n k i j) ≡ true) ↔ Broken s line.time.top line.time.bottom times step
      told = (there (absent w) refl, back_again)
        where
          there : (b : Bool) → absent w ≡ b → test g (place_of n k i j) ≡ true → Broken s line.time.top line.time.bottom times step
          there true e t = absurd (clash (sym t ∙ test_absent e))
          there false e t =
              record {
                present = record { from_first = omega arith; to_last = h; to_event = (omega arith, to); from_event = (omega arith, from); present = absent_some w e };
                breaks = λ said. clash (sym t ∙ test_is e ∙ ap not (le-leb _ _ ((says e).1 said)));
              }

          over : (b : Bool) → let a = arc_of s (suc g) window in leb (lifted_at times a.departure + rise line.time.top line.time.bottom a) (lifted_at times a.arrival + fall line.time.top line.time.bottom a) ≡ b
              → absent w ≡ false → (Says line.time.bottom (proposed s line.time.top line.time.bottom times) (suc g) k (suc i) (suc j) w → ⊥) → b ≡ false
          over true t e breaks = absurd (breaks ((says e).0 (leb-true _ _ t)))
          over false t e breaks = refl

          back_again : Broken s line.time.top line.time.bottom times step → test g (place_of n k i j) ≡ true
          back_again b = let e = some_absent w b.present.present in test_is e ∙ ap not (over _ refl e b.breaks)

    -- THEOREM: the test of a place rests on times in reach
    pub spreads : (k : ℕ) → k < 4 * (n * n) → absent (get_or (part_at line g) k (pos 0)) ≡ false → Reach (arc_at line g (from_place n k (get_or (part_at line g) k (pos 0)))) times
    spreads k below e =
        let x = placed n k granted.sheet_ok.size.some_events below in
        let v = ap (λ (i : ℕ). get_or (part_at line g) i (pos 0)) x.is ∙ value_is x.kind x.to x.from x.to_few x.from_few in
        subst (λ (a : Edge). Reach a times) (sym (ap₂ (λ (i : ℕ) (z : ℤ). arc_at line g (from_place n i z)) x.is v ∙ arc_is x.kind x.to x.from x.to_few x.from_few))
        (reach x.kind x.to x.from x.to_few x.from_few (sym (ap absent v) ∙ e))

  -- a window that is broken, by its position and its place
  record Found (d : Step) : Type 0 where
    position : ℕ
    to : ℕ
    from : ℕ
    position_is : d.position ≡ suc position
    to_is : d.to ≡ suc to
    from_is : d.from ≡ suc from
    below : position < line.sheet.positions
    to_few : to < n
    from_few : from < n
    holds : test position (place_of n d.kind to from) ≡ true

  find : (d : Step) → Broken s line.time.top line.time.bottom times d → Found d
  find d b = go d.kind d.position d.to d.from b
    where
      go : (k : Kind) (h i j : ℕ) → Broken s line.time.top line.time.bottom times (record { kind = k; position = h; to = i; from = j }) → Found (record { kind = k; position = h; to = i; from = j })
      go k zero i j b = absurd (omega (arith, b.present.from_first))
      go k (suc g) zero j b = absurd (omega (arith, b.present.to_event.0))
      go k (suc g) (suc i) zero b = absurd (omega (arith, b.present.from_event.0))
      go k (suc g) (suc i) (suc j) b =
          let h = b.present.to_last in
          let to = b.present.to_event.1 in
          let from = b.present.from_event.1 in
          record { position = g; to = i; from = j; position_is = refl; to_is = refl; from_is = refl; below = h; to_few = to; from_few = from; holds = (told g h k i j to from).1 b }

  -- what comes before in the order of windows has a smaller place
  smaller_kind : (k k' : Kind) (i i' j j' : ℕ) → i < n → j < n → number k < number k' → place_of n k i j < place_of n k' i' j'
  smaller_kind k k' i i' j j' to from l = omega (arith, mul-le-mul_right {m = suc (number k)} {n = number k'} (n * n) l, mul-le-mul_right {m = suc i} {n = n} n to)

  smaller_to : (k : Kind) (i i' j j' : ℕ) → j < n → i < i' → place_of n k i j < place_of n k i' j'
  smaller_to k i i' j j' from l = omega (arith, mul-le-mul_right {m = suc i} {n = i'} n l)

  -- THEOREM: the first place broken is the first window broken
  pub first_broken : (g k : ℕ) → g < line.sheet.positions → ((h : ℕ) → h < g → (j : ℕ) → j < 4 * (n * n) → test h j ≡ false) → First (test g) (4 * (n * n)) k
      → Outcome s line.time.top line.time.bottom times (answer_held (broken_at n g k))
  first_broken g k below earlier first =
      let x = placed n k granted.sheet_ok.size.some_events first.inside in
      proposal.broken (record { kind = x.kind; position = suc g; to = suc x.to; from = suc x.from }) (named x) none
      (record { broken = (told g below x.kind x.to x.from x.to_few x.from_few).0 (ap (test g) (sym x.is) ∙ first.here); first = before x })
    where
      named : (x : Placed n k) → answer_held (broken_at n g k) ≡ answer 102 (suc g ∷ number x.kind ∷ suc x.to ∷ suc x.from ∷ [])
      named x =
          rw (
            x.is,
            kind_at n (number x.kind) x.to x.from x.to_few x.from_few,
            to_at n (number x.kind) x.to x.from x.to_few x.from_few,
            from_at n (number x.kind) x.to x.from x.to_few x.from_few,
            add-one g,
            add-one x.to,
            add-one x.from,
          )

      -- a place before is not broken
      not_before : (d : Step) (f : Found d) → f.position ≡ g → place_of n d.kind f.to f.from < k → ⊥
      not_before d f e l = clash (sym f.holds ∙ ap (λ (h : ℕ). test h (place_of n d.kind f.to f.from)) e ∙ first.before _ l)

      before : (x : Placed n k) (d : Step) → Broken s line.time.top line.time.bottom times d → Before d (record { kind = x.kind; position = suc g; to = suc x.to; from = suc x.from }) → ⊥
      before x d b (inl l) =
          let f = find d b in clash (sym f.holds ∙ earlier f.position (omega (arith, f.position_is)) _ (place_few n d.kind f.to f.from f.to_few f.from_few))
      before x d b (inr (inl l)) =
          let f = find d b in not_before d f (omega (arith, f.position_is, l.0)) (omega (arith, x.is, smaller_kind d.kind x.kind f.to x.to f.from x.from f.to_few f.from_few l.1))
      before x d b (inr (inr (inl l))) =
          let f = find d b in
          not_before d f (omega (arith, f.position_is, l.0)) (omega (
            arith,
            x.is,
            ap (λ (t : ℕ). t * (n * n)) l.1,
            smaller_to d.kind f.to x.to f.from x.from f.from_few (omega (arith, f.to_is, l.2)),
          ))
      before x d b (inr (inr (inr l))) =
          let f = find d b in
          let same : f.to ≡ x.to = omega (arith, f.to_is, l.2) in
          not_before d f (omega (arith, f.position_is, l.0)) (omega (arith, x.is, ap (λ (t : ℕ). t * (n * n)) l.1, ap (λ (t : ℕ). t * n) same, f.from_is, l.3))

  -- THEOREM: where no place is broken the times keep every window
  pub none_broken : ((g : ℕ) → g < line.sheet.positions → (k : ℕ) → k < 4 * (n * n) → test g k ≡ false) → Outcome s line.time.top line.time.bottom times (answer_held Accepted)
  none_broken all =
      proposal.accepted refl none
      (none_kept s line.time.top line.time.bottom times some_positions (λ d b. let f = find d b in clash (sym f.holds ∙ all f.position f.below _ (place_few n d.kind f.to f.from f.to_few f.from_few))))
