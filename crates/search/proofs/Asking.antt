-- What Ask answers to the search: it works, or a circuit is above zero. A refusal is out of the question.
use mathlib.Core.Path.{◌≡◌, refl, sym, ap, ◌∙◌, subst}
use mathlib.Core.List.{List}
use Prim.Native.Nat.{ℕ, ◌*◌}
use native.Mathlib.Omega.{arith}
use native.Mathlib.Nat.{mul-le-mul_right}
use lib.ListN.{length, drop, length-append, length-drop}
use Rattle.tables.specs.Sheets.{Sheet, refusal}
use Rattle.tables.specs.Admitted.{Admitted}
use Rattle.tables.proofs.Laws.{accepted}
use Rattle.windows.specs.Circuits.{Step, numbers}
use Rattle.windows.proofs.Endless.{meaning}
use Rattle.windows.proofs.Limits.{nodes_few}
use Rattle.windows.proofs.Numbers.{numbers_length}
use Rattle.calls.specs.Ask as ask
use Rattle.calls.specs.Ask.{ask_refusal, Shows}
use Rattle.ask.specs.Answers.{answer_asked}
use Rattle.ask.specs.declared.Asked.{Asked}
use Rattle.ask.specs.declared.Asked.TheVariants as asked
use Rattle.calls.proofs.Ask.Cases.{accepted_is, refuted_is, refused_is}
use Rattle.calls.proofs.Ask.Room.{unrefused}
use Rattle.search.specs.Climbs.{Beats}
use Rattle.search.specs.Searches.{Ready, Asks, Judged, LowStands}
use Rattle.limits.specs.declared.Weight.{Weight}
use Rattle.weights.specs.Weights.{weights_in, Lists}
use Rattle.search.specs.declared.Stand.{Stand}
use Rattle.std.specs.Prelude.{Result, Ok, Err, Some, None}
use Rattle.numbers.specs.declared.refusals.Reason.{Reason}
use Rattle.numbers.specs.Refusals.{number_of}
use Rattle.weights.proofs.Held.{count_few}
use Rattle.search.proofs.Climbing.{beats_lists}

module _ (s : Sheet) (admitted : refusal s ≡ 0) (at : Stand) (found₀ : List ℕ) (r : Ready at found₀) where
  ok : Admitted s
  ok = accepted s admitted

  refused_not : (plan : List ℕ) → length plan ≡ 192 → ask_refusal s at.time.top at.time.bottom plan found₀ ≡ 0
  refused_not plan long = unrefused s admitted plan found₀ long r.room at.time.top at.time.bottom r.some r.few r.small

  -- a refutation leaves its circuit at the front
  shows_beats : (plan₀ plan found : List ℕ) (steps : List Step) (count : ℕ) → length steps ≡ count → Shows s at.time.top at.time.bottom plan₀ found₀ steps plan found → Beats s at.time.top at.time.bottom found count
  shows_beats plan₀ plan found steps count counted h =
      record { steps = steps; circuit = h.refutes.circuit; counted = counted; rest = drop (4 * length steps) found₀; starts = h.circuit_is; above = h.refutes.above }

  shows_room : (plan₀ plan found : List ℕ) (steps : List Step) → Shows s at.time.top at.time.bottom plan₀ found₀ steps plan found → length found ≡ 768
  shows_room plan₀ plan found steps h =
      omega (
        arith,
        ap length h.circuit_is,
        length-append (numbers steps) (drop (4 * length steps) found₀),
        length-drop (4 * length steps) found₀,
        numbers_length steps,
        count_few s admitted steps (drop (4 * length steps) found₀) found (length steps) h.refutes.circuit refl h.circuit_is,
        nodes_few s ok,
        r.room,
      )

  -- THEOREM: Ask's outcome, where it is asked by the search: never a refusal
  pub asks : (a : Result Asked Reason) (plan₀ plan found : List ℕ) → length plan₀ ≡ 192 → ask.Outcome s at.time.top at.time.bottom plan₀ found₀ (answer_asked a) plan found
      → (r : Asked) × (a ≡ Ok r) × Asks s at r found
  asks (Ok (asked.Accepted rounds)) plan₀ plan found long o =
      let is = (accepted_is rounds o).1 in
      (asked.Accepted rounds, refl, ((meaning s ok.size.some_positions at.time.top at.time.bottom).0 (ask.planned s at.time.top at.time.bottom plan, is.plan_is.solves), ap length is.circuit_same ∙ r.room))
  asks (Ok (asked.Refuted count)) plan₀ plan found long o =
      let is = refuted_is count o in
      (asked.Refuted count, refl, (shows_beats plan₀ plan found is.1 count is.2 is.3, shows_room plan₀ plan found is.1 is.3))
  asks (Err reason) plan₀ plan found long o = let is = refused_is (number_of reason) o in absurd (is.1 (sym is.0 ∙ refused_not plan₀ long))

-- where the climb stands, Ask may be asked
pub stands_ready : (s : Sheet) → refusal s ≡ 0 → (at : Stand) (low found : List ℕ) → LowStands s at low found → Ready at found
stands_ready s admitted at low found h =
    let ok = accepted s admitted in
    let l = h.held.low in
    record {
      some = l.positive;
      few = omega (arith, l.few, ok.size.few_events);
      small = omega (arith, l.small, nodes_few s ok, mul-le-mul_right 1000000 (nodes_few s ok));
      room = h.found_room;
    }

-- the answer, with the sums of the circuit that refutes
module _ (s : Sheet) (admitted : refusal s ≡ 0) (at : Stand) (a : Asked) (found : List ℕ) (answered : Asks s at a found) where
  pub judged_works : (rounds : ℕ) → a ≡ asked.Accepted rounds → Judged s at None found
  judged_works rounds e = subst (λ (x : Asked). Asks s at x found) e answered

  pub judged_lists : (count : ℕ) → a ≡ asked.Refuted count → Lists s found count
  judged_lists count e = beats_lists s admitted at.time.top at.time.bottom found count (subst (λ (x : Asked). Asks s at x found) e answered).0

  pub judged_above : (count : ℕ) → a ≡ asked.Refuted count → (w : Weight) → w ≡ weights_in s found count → Judged s at (Some (record { weight = w; arcs = count })) found
  judged_above count e w weighed = let o = subst (λ (x : Asked). Asks s at x found) e answered in (o.0, weighed, o.1)
