-- Of a sheet's tables and schedule the outcomes of Ask, of Ends and of held proposals read nothing but limits: of the windows of the mode at a position, between events.
-- Where two sheets have there the same limits, an outcome for the one is an outcome for the other.
use mathlib.Core.Path.{◌≡◌, refl, sym, ap, ap₂, ◌∙◌, subst}
use mathlib.Core.Logic.{inl, inr}
use mathlib.Core.List.{List, [], ◌∷◌, map}
use Prim.Native.Nat.{ℕ, zero, suc}
use lib.IntN.{ℤ}
use Rattle.theory.specs.Arcs.{Arc, Rounds}
use Rattle.theory.specs.Circuits.{Circuit, departures, FirstSmallest, Above}
use Rattle.theory.specs.Ends.{High, Range, LowShown, HighShown, NoneShown}
use Rattle.tables.specs.Sheets.{Sheet, sheet, absent, refusal}
use Rattle.tables.specs.Answers.{Answer}
use Rattle.tables.proofs.Refusing.{otherwise_none}
use Rattle.windows.specs.Windows.{Kind, A0, B0, A1, B1, Window, Event, entry, Has, mode}
use Rattle.windows.specs.Inequalities.{Times, Says, Solves, Runs}
use Rattle.windows.specs.Arcs as laid
use Rattle.windows.specs.Arcs.{one_to, kinds, window_at, windows_to, windows_of, windows, arc_of, arcs_at, arcs, nodes}
use Rattle.windows.specs.Circuits.{Step, limit, step_arc, Valid, AllValid, CircuitOf, Refutes}
use Rattle.windows.proofs.Listed.{each_same, one_to_of}
use Rattle.calls.specs.Circuits.{CircuitOrNone}
use Rattle.calls.specs.Ask as ask
use Rattle.calls.specs.Ends as ends
use Rattle.calls.specs.ProposedTimes as proposed_times
use Rattle.calls.specs.ProposedArcs as proposed_arcs
use Rattle.calls.proofs.ProposedArcs.Steps.{sound_valid}

-- the other: the same n, m and V over other lists
abbrev pub lent : Sheet → List ℤ → List ℕ → Sheet
lent s tables schedule = sheet s.n s.m s.positions tables schedule

-- at every position the same limits
abbrev pub Alike : Sheet → List ℤ → List ℕ → Type 0
Alike s tables schedule =
    (h : ℕ) (k : Kind) (i j : ℕ) → Event s i → Event s j → entry s (mode s h) k i j ≡ entry (lent s tables schedule) (mode (lent s tables schedule) h) k i j

module _ (s : Sheet) (tables : List ℤ) (schedule : List ℕ) (alike : Alike s tables schedule) where
  has_same : (h : ℕ) (a : Window) → Has s (mode s h) a → Has (lent s tables schedule) (mode (lent s tables schedule) h) a
  has_same h a is =
      record {
        to_event = is.to_event;
        from_event = is.from_event;
        stands = sym (alike h a.kind a.to a.from is.to_event is.from_event) ∙ is.stands;
        present = is.present;
      }

  -- a solution for the other is one for the sheet, whose windows are all windows of the other
  solves_from : (p q : ℕ) (x : Times) → Solves (lent s tables schedule) p q x → Solves s p q x
  solves_from p q x is = record { keeps = λ h first a has. is.keeps h first a (has_same h a has); periodic = is.periodic }

module _ (s : Sheet) (tables : List ℤ) (schedule : List ℕ) (alike : Alike s tables schedule) where
  abbrev there : Sheet
  there = lent s tables schedule

  -- and the sheet is so for the other
  alike_back : Alike there s.tables s.schedule
  alike_back h k i j to from = sym (alike h k i j to from)

  solves_there : (p q : ℕ) (x : Times) → Solves s p q x → Solves there p q x
  solves_there = solves_from there s.tables s.schedule alike_back

  -- ---- arcs and circuits

  windows_same : (h : ℕ) → windows s (mode s h) ≡ windows there (mode there h)
  unfolding windows
  windows_same h =
      each_same kinds (windows_of s (mode s h)) (windows_of there (mode there h)) (λ k _.
      each_same (one_to s.n) (windows_to s (mode s h) k) (windows_to there (mode there h) k) (λ i to.
      each_same (one_to s.n) (window_at s (mode s h) k i) (window_at there (mode there h) k i) (λ j from.
      ap (λ (w : ℤ). laid.unless_absent (absent w) (record { kind = k; to = i; from = j; w = w })) (alike h k i j (one_to_of s.n to) (one_to_of s.n from)))))

  arcs_same : arcs s ≡ arcs there
  unfolding arcs
  arcs_same = each_same (one_to s.positions) (arcs_at s) (arcs_at there) (λ h _. ap (λ (l : List Window). map (arc_of s h) l) (windows_same h))

  valid_same : (c : Step) → Valid s c → Valid there c × (step_arc s c ≡ step_arc there c)
  valid_same c v =
      let e = alike c.position c.kind c.to c.from v.to_event v.from_event in (
        record { from_first = v.from_first; to_last = v.to_last; to_event = v.to_event; from_event = v.from_event; present = λ none. v.present (e ∙ none) },
        ap (λ (w : ℤ). laid.arc s c.position c.kind c.to c.from w) e,
      )

  all_valid_same : (cs : List Step) → AllValid s cs → AllValid there cs × (map (step_arc s) cs ≡ map (step_arc there) cs)
  all_valid_same [] v = (tt, refl)
  all_valid_same (c ∷ cs) v =
      let a = valid_same c v.0 in
      let b = all_valid_same cs v.1 in
      ((a.0, b.0), ap₂ (λ (x : Arc) (l : List Arc). x ∷ l) a.1 b.1)

  -- a circuit of the sheet is one of the other, and has the same arcs there
  circuit_same : (cs : List Step) → CircuitOf s cs → CircuitOf there cs × (map (step_arc s) cs ≡ map (step_arc there) cs)
  circuit_same cs c =
      let v = all_valid_same cs c.valid in (
        record {
          valid = v.0;
          circuit = subst (λ (l : List Arc). Circuit l (map (step_arc there) cs)) arcs_same (subst (λ (l : List Arc). Circuit (arcs s) l) v.1 c.circuit);
          first = subst (λ (l : List Arc). FirstSmallest (departures l)) v.1 c.first;
        },
        v.1,
      )

  -- ---- outcomes of Ask and of Ends

  accepts_same : (p q : ℕ) (plan₀ circuit₀ : List ℕ) (rounds : ℕ) (plan circuit : List ℕ) → ask.Accepts s p q plan₀ circuit₀ rounds plan circuit → ask.Accepts there p q plan₀ circuit₀ rounds plan circuit
  accepts_same p q plan₀ circuit₀ rounds plan circuit is =
      record {
        plan_is = record {
          solves = solves_there p q (ask.planned s p q plan) is.plan_is.solves;
          earliest = λ x solves low. is.plan_is.earliest x (solves_from s tables schedule alike p q x solves) low;
        };
        rounds_are = subst (λ (l : List Arc). Rounds l p q (nodes s) rounds) arcs_same is.rounds_are;
        plan_length = is.plan_length;
        plan_rest = is.plan_rest;
        circuit_same = is.circuit_same;
      }

  refutes_same : (p q : ℕ) (cs : List Step) → Refutes s p q cs → Refutes there p q cs
  refutes_same p q cs r = let c = circuit_same cs r.circuit in record { circuit = c.0; above = subst (λ (l : List Arc). Above p q l) c.1 r.above }

  shows_same : (p q : ℕ) (plan₀ circuit₀ : List ℕ) (steps : List Step) (plan circuit : List ℕ) → ask.Shows s p q plan₀ circuit₀ steps plan circuit → ask.Shows there p q plan₀ circuit₀ steps plan circuit
  shows_same p q plan₀ circuit₀ steps plan circuit is = record { refutes = refutes_same p q steps is.refutes; circuit_is = is.circuit_is; plan_same = is.plan_same }

  runs_there : (p q : ℕ) → Runs s p q → Runs there p q
  runs_there p q is = (is.0, solves_there p q is.0 is.1)

  runs_from : (p q : ℕ) → Runs there p q → Runs s p q
  runs_from p q is = (is.0, solves_from s tables schedule alike p q is.0 is.1)

  range_same : (top bottom : ℕ) (high : High) → Range (Runs s) top bottom high → Range (Runs there) top bottom high
  range_same top bottom high r =
      record {
        bottom = r.bottom;
        lowest = r.lowest;
        upper = r.upper;
        some = r.some;
        works = λ p q above low most. runs_there p q (r.works p q above low most);
        only = λ p q above runs. r.only p q above (runs_from p q runs);
      }

  -- a circuit or none: the same arcs
  or_none_same : (cs : List Step) → CircuitOrNone s cs → CircuitOrNone there cs × (map (step_arc s) cs ≡ map (step_arc there) cs)
  or_none_same cs (inl none) = (inl none, ap (λ (l : List Step). map (step_arc s) l) none ∙ ap (λ (l : List Step). map (step_arc there) l) (sym none))
  or_none_same cs (inr circuit) = let c = circuit_same cs circuit in (inr c.0, c.1)

  finds_same : (top bottom : ℕ) (high : High) (cs ds : List Step) → ends.Finds s top bottom high cs ds → ends.Finds there top bottom high cs ds
  finds_same top bottom high cs ds is =
      let a = or_none_same cs is.first_circuit in
      let b = or_none_same ds is.second_circuit in
      record {
        range = range_same top bottom high is.range;
        bottom_small = is.bottom_small;
        high_small = is.high_small;
        first_circuit = a.0;
        second_circuit = b.0;
        low_shown = subst (λ (l : List Arc). LowShown l bottom top (map (step_arc there) cs)) arcs_same (subst (λ (c : List Arc). LowShown (arcs s) bottom top c) a.1 is.low_shown);
        high_shown = subst (λ (l : List Arc). HighShown l high (map (step_arc there) ds)) arcs_same (subst (λ (c : List Arc). HighShown (arcs s) high c) b.1 is.high_shown);
      }

  lacks_same : (cs ds : List Step) → ends.Lacks s cs ds → ends.Lacks there cs ds
  lacks_same cs ds is =
      let a = or_none_same cs is.first_circuit in
      let b = or_none_same ds is.second_circuit in
      record {
        never = λ p q above runs. is.never p q above (runs_from p q runs);
        first_circuit = a.0;
        second_circuit = b.0;
        none_shown = subst (λ (l : List Arc). NoneShown l (map (step_arc there) cs) (map (step_arc there) ds)) arcs_same
            (subst (λ (d : List Arc). NoneShown (arcs s) (map (step_arc there) cs) d) b.1 (subst (λ (c : List Arc). NoneShown (arcs s) c (map (step_arc s) ds)) a.1 is.none_shown));
      }

  -- ---- proposed times and arcs

  broken_same : (p q : ℕ) (list : List ℤ) (c : Step) → proposed_times.Broken s p q list c → proposed_times.Broken there p q list c
  broken_same p q list c b =
      record {
        present = (valid_same c b.present).0;
        breaks = λ says. b.breaks (subst (λ (w : ℤ). Says q (proposed_times.proposed s p q list) c.position c.kind c.to c.from w)
            (sym (alike c.position c.kind c.to c.from b.present.to_event b.present.from_event)) says);
      }

  -- where an arc leaves and arrives is no matter of its limit
  nodes_same : (h : ℕ) (k : Kind) (i j : ℕ) (w w' : ℤ) → ((laid.arc s h k i j w).departure ≡ (laid.arc there h k i j w').departure) × ((laid.arc s h k i j w).arrival ≡ (laid.arc there h k i j w').arrival)
  nodes_same h A0 i j w w' = (refl, refl)
  nodes_same h B0 i j w w' = (refl, refl)
  nodes_same h A1 i j w w' = (refl, refl)
  nodes_same h B1 i j w w' = (refl, refl)

  follows_same : (list : List ℕ) (k : ℕ) (c : Step) → proposed_arcs.Follows s list k c → proposed_arcs.Follows there list k c
  follows_same list zero c is = tt
  follows_same list (suc k) c is = λ d stands. sym (ends c).0 ∙ is d stands ∙ (ends d).1
    where
      ends : (d : Step) → ((step_arc s d).departure ≡ (step_arc there d).departure) × ((step_arc s d).arrival ≡ (step_arc there d).arrival)
      ends d = nodes_same d.position d.kind d.to d.from (limit s d) (limit there d)

  good_same : (list : List ℕ) (k : ℕ) → proposed_arcs.Good s list k → proposed_arcs.Good there list k
  good_same list k g = record { step = g.step; stands = g.stands; present = (valid_same g.step g.present).0; follows = follows_same list k g.step g.follows }

  sound_same : (p q : ℕ) (list : List ℕ) (steps : List Step) (k : ℕ) → proposed_arcs.Sound s list steps → proposed_arcs.Fault p q (map (step_arc s) steps) k
      → proposed_arcs.Sound there list steps × proposed_arcs.Fault p q (map (step_arc there) steps) k
  sound_same p q list steps k sound fault = (
    record { list_is = sound.list_is; good = λ j below. good_same list j (sound.good j below) },
    subst (λ (l : List Arc). proposed_arcs.Fault p q l k) (all_valid_same steps (sound_valid s list steps sound)).1 fault,
  )

-- ---- what is broken, or bad, for the one is so for the other, and nothing comes before it there

module _ (s : Sheet) (tables : List ℤ) (schedule : List ℕ) (alike : Alike s tables schedule) where
  first_broken_same : (p q : ℕ) (list : List ℤ) (c : Step) → proposed_times.FirstBroken s p q list c → proposed_times.FirstBroken (lent s tables schedule) p q list c
  first_broken_same p q list c is =
      record {
        broken = broken_same s tables schedule alike p q list c is.broken;
        first = λ d b before. is.first d (broken_same (lent s tables schedule) s.tables s.schedule (alike_back s tables schedule alike) p q list d b) before;
      }

  first_bad_same : (list : List ℕ) (k : ℕ) → proposed_arcs.FirstBad s list k → proposed_arcs.FirstBad (lent s tables schedule) list k
  first_bad_same list k is =
      record {
        is_arc = is.is_arc;
        bad = λ good. is.bad (good_same (lent s tables schedule) s.tables s.schedule (alike_back s tables schedule alike) list k good);
        first = λ j before. good_same s tables schedule alike list j (is.first j before);
      }

-- only a call that is not refused reads limits
module _ (s : Sheet) (tables : List ℤ) (schedule : List ℕ) (same : refusal s ≡ refusal (lent s tables schedule)) (alike : refusal s ≡ 0 → Alike s tables schedule) where
  module _ (p q : ℕ) (plan₀ circuit₀ : List ℕ) where
    ask_refused : ask.ask_refusal (lent s tables schedule) p q plan₀ circuit₀ ≡ ask.ask_refusal s p q plan₀ circuit₀
    ask_refused = rw (← same)

    -- THEOREM: an outcome of Ask for the sheet is one for the other
    pub ask_alike : (a : Answer) (plan circuit : List ℕ) → ask.Outcome s p q plan₀ circuit₀ a plan circuit → ask.Outcome (lent s tables schedule) p q plan₀ circuit₀ a plan circuit
    ask_alike a plan circuit (ask.accepted r e none is) =
        ask.accepted r e (ask_refused ∙ none) (accepts_same s tables schedule (alike (otherwise_none (refusal s) _ none).0) p q plan₀ circuit₀ r plan circuit is)
    ask_alike a plan circuit (ask.refuted cs e none is) =
        ask.refuted cs e (ask_refused ∙ none) (shows_same s tables schedule (alike (otherwise_none (refusal s) _ none).0) p q plan₀ circuit₀ cs plan circuit is)
    ask_alike a plan circuit (ask.refused k e is some same same') = ask.refused k e (ask_refused ∙ is) some same same'

  module _ (first₀ second₀ : List ℕ) where
    ends_refused : ends.ends_refusal (lent s tables schedule) first₀ second₀ ≡ ends.ends_refusal s first₀ second₀
    ends_refused = rw (← same)

    -- THEOREM: an outcome of Ends for the sheet is one for the other
    pub ends_alike : (a : Answer) (first last : List ℕ) → ends.Outcome s first₀ second₀ a first last → ends.Outcome (lent s tables schedule) first₀ second₀ a first last
    ends_alike a first last (ends.found t b h cs ds e none is same same') =
        ends.found t b h cs ds e (ends_refused ∙ none) (finds_same s tables schedule (alike (otherwise_none (refusal s) _ none).0) t b h cs ds is) same same'
    ends_alike a first last (ends.none cs ds e none is same same') =
        ends.none cs ds e (ends_refused ∙ none) (lacks_same s tables schedule (alike (otherwise_none (refusal s) _ none).0) cs ds is) same same'
    ends_alike a first last (ends.refused k e is some same same') = ends.refused k e (ends_refused ∙ is) some same same'

  module _ (p q : ℕ) (list : List ℤ) where
    times_refused : proposed_times.times_refusal (lent s tables schedule) p q list ≡ proposed_times.times_refusal s p q list
    times_refused = rw (← same)

    -- THEOREM: an outcome for proposed times for the sheet is one for the other
    pub times_alike : (a : Answer) → proposed_times.Outcome s p q list a → proposed_times.Outcome (lent s tables schedule) p q list a
    times_alike a (proposed_times.accepted e none kept) =
        proposed_times.accepted e (times_refused ∙ none) (solves_there s tables schedule (alike (otherwise_none (refusal s) _ none).0) p q (proposed_times.proposed s p q list) kept)
    times_alike a (proposed_times.broken c e none first) =
        proposed_times.broken c e (times_refused ∙ none) (first_broken_same s tables schedule (alike (otherwise_none (refusal s) _ none).0) p q list c first)
    times_alike a (proposed_times.refused k e is some) = proposed_times.refused k e (times_refused ∙ is) some

  module _ (p q : ℕ) (list : List ℕ) where
    arcs_refused : proposed_arcs.arcs_refusal (lent s tables schedule) p q list ≡ proposed_arcs.arcs_refusal s p q list
    arcs_refused = rw (← same)

    -- THEOREM: an outcome for proposed arcs for the sheet is one for the other
    pub arcs_alike : (a : Answer) → proposed_arcs.Outcome s p q list a → proposed_arcs.Outcome (lent s tables schedule) p q list a
    arcs_alike a (proposed_arcs.accepted cs e none is refutes) =
        proposed_arcs.accepted cs e (arcs_refused ∙ none) is (refutes_same s tables schedule (alike (otherwise_none (refusal s) _ none).0) p q cs refutes)
    arcs_alike a (proposed_arcs.bad k e none first) =
        proposed_arcs.bad k e (arcs_refused ∙ none) (first_bad_same s tables schedule (alike (otherwise_none (refusal s) _ none).0) list k first)
    arcs_alike a (proposed_arcs.faulty cs k e none sound fault) =
        let f = sound_same s tables schedule (alike (otherwise_none (refusal s) _ none).0) p q list cs k sound fault in
        proposed_arcs.faulty cs k e (arcs_refused ∙ none) f.0 f.1
    arcs_alike a (proposed_arcs.refused k e is some) = proposed_arcs.refused k e (arcs_refused ∙ is) some
