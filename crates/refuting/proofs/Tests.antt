-- The tests of a list of which no arc is bad, by index and in numbers, say of its arcs what document 02 asks.
use mathlib.Core.Path.{◌≡◌, refl, sym, ap, ◌∙◌}
use mathlib.Core.Bool.{true, false}
use mathlib.Core.List.{List, map}
use Prim.Native.Nat.{ℕ, zero, suc, ◌+◌, ◌-◌, ◌*◌, ◌≤◌, ◌<◌}
use native.Mathlib.Omega.{arith}
use borrow.Author.Tests.{eqb-true, eqb-false, ltb-true, ltb-false}
use lib.Dec.{eqb, ltb}
use lib.ListN.{get_or, length, length-map, get_or-map}
use Rattle.theory.specs.Arcs.{Arc, rise, fall}
use Rattle.theory.specs.Circuits.{Distinct, total, departures, FirstSmallest, Above}
use Rattle.tables.specs.Sheets.{Sheet}
use Rattle.tables.specs.Admitted.{Admitted}
use Rattle.tables.specs.Lent.{lent}
use Rattle.windows.specs.Windows.{A0}
use Rattle.windows.specs.Arcs.{nodes}
use Rattle.windows.specs.Circuits.{Step, step_arc}
use Rattle.windows.proofs.Limits.{nodes_few}
use Rattle.edges.specs.declared.lines.Line.{Line}
use Rattle.edges.specs.declared.Edge.{Edge}
use Rattle.edges.proofs.Edges.{weighed}
use Rattle.calls.specs.ProposedArcs.{arcs_refusal, count, Closed, Sound}
use Rattle.calls.proofs.ProposedArcs.Refusals.{ArcsGranted, arcs_granted}
use Rattle.calls.proofs.ProposedArcs.Steps.{good_sound, sound_count, sound_stands, sound_present}
use Rattle.calls.proofs.ProposedArcs.Tests.{sum_to, sum_more, closed_at, distinct_at, first_at, total_sum, distinct_few}
use Rattle.edges.specs.Naming.{four_at}
use Rattle.refuting.specs.Reading.{present, edge_in, Follows, Apart, TellsOf}
use Rattle.refuting.proofs.Present.{present_step, edge_step, step_small}
use Rattle.refuting.proofs.Following.{tells, good_all}

-- what a list gives past its end
past : Step
past = record { kind = A0; position = 0; to = 0; from = 0 }

-- ---- sums

-- one more
pub sum_step : (g : ℕ → ℕ) (k r x : ℕ) → r ≡ sum_to g k → x ≡ g k → r + x ≡ sum_to g (k + 1)
sum_step g k r x e f = rw (e, f) (sym (sum_more g k))

-- sums of small numbers are small
sum_few : (g : ℕ → ℕ) (most k : ℕ) → ((i : ℕ) → i < k → g i ≤ most) → sum_to g k ≤ k * most
sum_few g most zero h = omega arith
sum_few g most (suc k) h = omega (arith, sum_few g most k (λ i below. h i (omega arith)), h k (omega arith))

-- sums of equal numbers are equal
sum_same : (f g : ℕ → ℕ) (k : ℕ) → ((i : ℕ) → i < k → f i ≡ g i) → sum_to f k ≡ sum_to g k
sum_same f g zero h = refl
sum_same f g (suc k) h = omega (arith, sum_same f g k (λ i below. h i (omega arith)), h k (omega arith))

module _ (line : Line) (list : List ℕ)
    (unrefused : arcs_refusal (lent line.sheet) line.time.top line.time.bottom list ≡ 0)
    (known : (k : ℕ) → k < count list → present (lent line.sheet) (four_at list k) ≡ true)
    (follows : (k : ℕ) → suc k < count list → Follows (lent line.sheet) line.time.top line.time.bottom list k) where
  abbrev S : Sheet
  S = lent line.sheet

  abbrev p : ℕ
  p = line.time.top

  abbrev q : ℕ
  q = line.time.bottom

  abbrev many : ℕ
  many = count list

  abbrev E : ℕ → Edge
  E k = edge_in S p q list k

  pub granted : ArcsGranted S p q list
  granted = arcs_granted S p q list unrefused

  -- there are arcs
  pub some : 0 < count list
  some = let g = granted in omega (arith, g.some, g.fours)

  -- what each adds and what it takes away are small
  pub record EdgeSmall (k : ℕ) : Type 0 where
    pub rises : (E k).rise ≤ 2000000000
    pub falls : (E k).fall ≤ 2000000000

  pub edge_small : (k : ℕ) → k < count list → EdgeSmall k
  edge_small k below =
      let c = present_step S list k (known k below) in
      let g = granted in
      let m = step_small S g.sheet_ok p q g.p_small g.q_small c.0 c.2 in
      let e = edge_step S list k c.0 c.1 c.2 p q in
      record { rises = omega (arith, m.rises, ap (λ (x : Edge). x.rise) e); falls = omega (arith, m.falls, ap (λ (x : Edge). x.fall) e) }

  pub sums_small : (k : ℕ) → k ≤ count list → (sum_to (λ i. (E i).rise) k ≤ k * 2000000000) × (sum_to (λ i. (E i).fall) k ≤ k * 2000000000)
  sums_small k most = (
    sum_few (λ i. (E i).rise) 2000000000 k (λ i below. (edge_small i (omega arith)).rises),
    sum_few (λ i. (E i).fall) 2000000000 k (λ i below. (edge_small i (omega arith)).falls),
  )

  -- THEOREM: the list is the numbers of steps
  pub read_steps : (steps : List Step) × Sound S list steps
  read_steps = good_sound S list granted.fours (good_all S list p q known follows)

  -- ---- the arcs of the steps
  module _ (steps : List Step) (sound : Sound S list steps) where
    abbrev A : List Arc
    A = map (step_arc S) steps

    abbrev D : Arc
    D = step_arc S past

    counted : length steps ≡ many
    counted = sym (sound_count S list steps sound)

    long : length A ≡ many
    long = length-map steps (step_arc S) ∙ counted

    edge_at : (k : ℕ) → k < many → E k ≡ weighed p q (get_or A k D)
    edge_at k below =
        let h : k < length steps = omega (arith, counted) in
        edge_step S list k (get_or steps k past) (sound_stands S list steps sound k past h) (sound_present S list steps sound k past h) p q
        ∙ ap (weighed p q) (sym (get_or-map (step_arc S) steps k past))

    leaves_at : (k : ℕ) → k < many → (E k).departure ≡ (get_or A k D).departure
    leaves_at k below = ap (λ (x : Edge). x.departure) (edge_at k below)

    -- there are at most 192 arcs where no node is left twice
    few_arcs : Distinct (departures A) → many ≤ 192
    few_arcs once =
        let ok = granted.sheet_ok in
        omega (arith, long, nodes_few S ok, distinct_few D (nodes S) A once (λ k below. node ok k (omega (arith, long, counted))))
      where
        node : Admitted S → (k : ℕ) → k < length steps → (get_or A k D).departure < nodes S
        node ok k below =
            let small = step_small S ok p q granted.p_small granted.q_small (get_or steps k past) (sound_present S list steps sound k past below) in
            omega (arith, small.leaves, ap (λ (a : Arc). a.departure) (get_or-map (step_arc S) steps k past))

  -- ---- the tests

  pub closed_tells : (first last : Edge) → first ≡ E 0 → last ≡ E (many - 1) → TellsOf S list Closed (eqb last.arrival first.departure)
  closed_tells first last ef el steps sound =
      let c = closed_at (D steps sound) (A steps sound) (many - 1) (omega (arith, some, long steps sound)) in
      let arrives = ap (λ (x : Edge). x.arrival) (el ∙ edge_at steps sound (many - 1) (omega (arith, some))) in
      let leaves = ap (λ (x : Edge). x.departure) (ef ∙ edge_at steps sound 0 some) in
      tells (eqb last.arrival first.departure)
      (λ e. c.1 (sym arrives ∙ eqb-true _ _ e ∙ leaves))
      (λ e closed. eqb-false _ _ e (arrives ∙ c.0 closed ∙ sym leaves))

  pub once_not : (k : ℕ) → k < many → (Apart S p q list k → ⊥) → TellsOf S list (λ a. Distinct (departures a)) false
  once_not k below again steps sound once =
      again (λ i before e. (distinct_at (D steps sound) (A steps sound)).0 once i k before (omega (arith, long steps sound))
      (sym (leaves_at steps sound i (omega arith)) ∙ e ∙ leaves_at steps sound k below))

  pub once_yes : ((k : ℕ) → k < many → Apart S p q list k) → TellsOf S list (λ a. Distinct (departures a)) true
  once_yes apart steps sound =
      (distinct_at (D steps sound) (A steps sound)).1 (λ i j before below e.
      let h : j < many = omega (arith, long steps sound) in
      apart j h i before (leaves_at steps sound i (omega arith) ∙ e ∙ sym (leaves_at steps sound j h)))

  pub once_few : TellsOf S list (λ a. Distinct (departures a)) true → many ≤ 192
  once_few says = let t = read_steps in few_arcs t.0 t.1 (says t.0 t.1)

  pub smallest_not : (first arc : Edge) (k : ℕ) → k < many → first ≡ E 0 → arc ≡ E k → arc.departure < first.departure → TellsOf S list (λ a. FirstSmallest (departures a)) false
  smallest_not first arc k below ef ea less steps sound smallest =
      omega (
        arith,
        (first_at (D steps sound) (A steps sound)).0 smallest k (omega (arith, long steps sound)),
        ap (λ (x : Edge). x.departure) ef,
        ap (λ (x : Edge). x.departure) ea,
        leaves_at steps sound 0 some,
        leaves_at steps sound k below,
      )

  pub smallest_yes : ((k : ℕ) → k < many → (E 0).departure ≤ (E k).departure) → TellsOf S list (λ a. FirstSmallest (departures a)) true
  smallest_yes least steps sound =
      (first_at (D steps sound) (A steps sound)).1 (λ j below.
      let h : j < many = omega (arith, long steps sound) in
      omega (arith, least j h, leaves_at steps sound 0 some, leaves_at steps sound j h))

  pub above_tells : (rises falls : ℕ) → rises ≡ sum_to (λ i. (E i).rise) many → falls ≡ sum_to (λ i. (E i).fall) many → TellsOf S list (Above p q) (ltb falls rises)
  above_tells rises falls er ef steps sound =
      let up = er ∙ sum_same _ _ many (λ i below. ap (λ (x : Edge). x.rise) (edge_at steps sound i below)) ∙ totals (rise p q) in
      let down = ef ∙ sum_same _ _ many (λ i below. ap (λ (x : Edge). x.fall) (edge_at steps sound i below)) ∙ totals (fall p q) in
      tells (ltb falls rises) (λ e. let h = ltb-true falls rises e in omega (arith, up, down)) (λ e above. let h = ltb-false falls rises e in omega (arith, up, down, above))
    where
      totals : (f : Arc → ℕ) → sum_to (λ i. f (get_or (A steps sound) i (D steps sound))) many ≡ total f (A steps sound)
      totals f = ap (sum_to (λ i. f (get_or (A steps sound) i (D steps sound)))) (sym (long steps sound)) ∙ sym (total_sum (D steps sound) f (A steps sound))
