-- From what the search leaves to the outcome of Ends: circuits handed over, the range named, or nothing works.
use mathlib.Core.Path.{◌≡◌, refl, sym, ap, ap₂, ◌∙◌, subst}
use mathlib.Core.Logic.{◌⊎◌, inl, inr}
use mathlib.Core.List.{List, [], ◌∷◌, ◌++◌}
use Prim.Native.Nat.{ℕ, ◌*◌, ◌≤◌}
use native.Mathlib.Omega.{arith}
use native.Mathlib.Nat.{mul-le-mul_right}
use lib.ListN.{length, drop}
use Rattle.theory.specs.Arcs.{Works}
use Rattle.theory.specs.Ends.{open_end, up_to, no_limit}
use Rattle.theory.proofs.Found.{none_never, closed_range, open_range}
use Rattle.tables.specs.Sheets.{Sheet, refusal}
use Rattle.tables.specs.Answers.{answer}
use Rattle.tables.specs.Admitted.{Admitted}
use Rattle.tables.proofs.Laws.{accepted}
use Rattle.windows.specs.Arcs.{nodes, arcs}
use Rattle.windows.specs.Circuits.{numbers, CircuitOf}
use Rattle.windows.proofs.Limits.{sheet_laid, nodes_few}
use Rattle.calls.specs.Ends as ends
use Rattle.calls.specs.Circuits.{onto}
use Rattle.calls.specs.Ends.{ends_refusal, ends_values, Outcome}
use Rattle.search.specs.Copies.{copied, RoomFor}
use Rattle.search.specs.Climbs.{Held, held_arcs, NoneHeld}
use Rattle.search.specs.Searches.{LowStands, Rests, Overhead, Descends, Starting, Climbs}
use Rattle.ends.specs.Answers.{answer_found, ended, highest, arcs_of, FindReady, LowReady, HighReady, HighFound}
use Rattle.std.specs.Prelude.{Option, None, Some, Result, Ok, Err}
use Rattle.ends.specs.declared.Ended.TheVariants as code
use Rattle.search.specs.declared.Stand.{Stand}
use Rattle.search.specs.declared.NoTime.{NoTime}
use Rattle.weights.proofs.Held.{count_few}
use Rattle.search.proofs.Climbing.{copied_starts}
use Rattle.calls.proofs.Ends.Refusals.{Granted, granted, refused_none}
use Rattle.calls.proofs.Ends.Found.{range_runs, never_runs}

-- ---- circuits handed over

pub held_few : (s : Sheet) (buffer : List ℕ) (count : ℕ) → refusal s ≡ 0 → Held s buffer count → count ≤ nodes s
held_few s buffer count ok h = go h.circuit
  where
    go : (h.steps ≡ []) ⊎ CircuitOf s h.steps → count ≤ nodes s
    go (inl e) = omega (arith, ap length e, h.counted)
    go (inr c) = count_few s ok h.steps h.rest buffer count c h.counted h.starts

-- what a copy asks
pub hand_ready : (s : Sheet) (buffer : List ℕ) (count : ℕ) (out : List ℕ) → refusal s ≡ 0 → Held s buffer count → length buffer ≡ 768 → 4 * nodes s ≤ length out → RoomFor count buffer out
hand_ready s buffer count out ok h room enough =
    let few = held_few s buffer count ok h in
    let all = nodes_few s (accepted s ok) in
    (omega (arith, few, all), omega (arith, few, all), omega (arith, few))

pub handed : (s : Sheet) (buffer : List ℕ) (count : ℕ) (h : Held s buffer count) (out after : List ℕ) → after ≡ copied buffer (4 * count) out → after ≡ onto h.steps out
handed s buffer count h out after e =
    e ∙ copied_starts h.steps h.rest buffer out count h.starts h.counted ∙ ap (λ (k : ℕ). numbers h.steps ++ drop (4 * k) out) (sym h.counted)

-- ---- the outcomes

-- the values of the enum's case are those of the ends
pub found_answer_lem : (low : Stand) (h : Option Stand) (c d : ℕ) → c ≡ low.arcs → d ≡ arcs_of h → answer_found low h ≡ answer 0 (ends_values low.time.top low.time.bottom (highest h) ++ c ∷ d ∷ [])
found_answer_lem low None c d e f = ap₂ (λ (i j : ℕ). answer 0 (low.time.top ∷ low.time.bottom ∷ i ∷ j ∷ [])) (sym e) (sym f)
found_answer_lem low (Some h) c d e f = ap₂ (λ (i j : ℕ). answer 0 (low.time.top ∷ low.time.bottom ∷ h.time.top ∷ h.time.bottom ∷ i ∷ j ∷ [])) (sym e) (sym f)

module _ (s : Sheet) (first₀ second₀ : List ℕ) (unrefused : ends_refusal s first₀ second₀ ≡ 0) where
  ok : Admitted s
  ok = accepted s (granted s first₀ second₀ unrefused).admitted

  pub lacks : (low found : List ℕ) (none : NoTime) → NoneHeld s low none.first found none.second → (first second : List ℕ) → first ≡ copied low (4 * none.first) first₀
      → second ≡ copied found (4 * none.second) second₀ → Outcome s first₀ second₀ (ended (code.None none)) first second
  lacks low found none h first second e f =
      ends.none h.held₁.steps h.held₂.steps (ap₂ (λ (c d : ℕ). answer 101 (c ∷ d ∷ [])) (sym h.held₁.counted) (sym h.held₂.counted)) unrefused
      (record { never = never_runs s ok.size.some_positions (none_never (arcs s) _ _ h.shown); first_circuit = h.held₁.circuit; second_circuit = h.held₂.circuit; none_shown = h.shown })
      (handed s low none.first h.held₁ first₀ first e) (handed s found none.second h.held₂ second₀ second f)

-- ---- high, where low is known

module _ (s : Sheet) (admitted : refusal s ≡ 0) (at : Stand) (room found second₀ : List ℕ) (h : HighReady s at room found second₀) where
  known : Admitted s
  known = accepted s admitted

  pub high_overhead : Overhead s at room found
  high_overhead =
      record {
        positive = h.low.positive;
        small = omega (arith, h.low.small, mul-le-mul_right 1000000 (nodes_few s known));
        works = h.works;
        high_room = h.high_room;
        found_room = h.found_room;
      }

  pub high_open : Works (arcs s) 192000001 1 → HighFound s at second₀ None second₀
  high_open top =
      let l = h.low in
      record {
        range = range_runs s known.size.some_positions at.time.top at.time.bottom open_end
            (open_range (nodes s) 1000000 s.n (arcs s) (sheet_laid s known) at.time.top at.time.bottom 192000001 l.positive l.lowest h.works l.least (omega (arith, mul-le-mul_right 1000000 (nodes_few s known))) top);
        high_small = λ c d same. let z : ◌≡◌ {A = ℕ} 0 1 = cc in absurd (omega arith);
        steps = [];
        counted = refl;
        circuit = inl refl;
        written = refl;
        shown = no_limit;
      }

  module _ (top : Stand) (room' found' : List ℕ) (r : Rests s top room' found') where
    pub high_fits : RoomFor top.arcs room' second₀
    high_fits = hand_ready s room' top.arcs second₀ admitted r.held.held r.high_room h.second_room

    pub high_up_to : (second : List ℕ) → second ≡ copied room' (4 * top.arcs) second₀ → HighFound s at second₀ (Some top) second
    high_up_to second e =
        let l = h.low in
        let t = r.held.top_is in
        record {
          range = range_runs s known.size.some_positions at.time.top at.time.bottom (up_to top.time.top top.time.bottom)
              (closed_range (nodes s) 1000000 s.n (arcs s) (sheet_laid s known) at.time.top at.time.bottom top.time.top top.time.bottom l.positive t.positive l.lowest t.lowest h.works r.works l.least t.most);
          high_small = λ c d same. let e : top.time.bottom ≡ d = cc in omega (arith, t.few);
          steps = r.held.held.steps;
          counted = r.held.held.counted;
          circuit = r.held.held.circuit;
          written = handed s room' top.arcs r.held.held second₀ second e;
          shown = t.shown;
        }

-- ---- both

module _ (s : Sheet) (admitted : refusal s ≡ 0) (at : Stand) (low found first₀ second₀ : List ℕ) (h : LowReady s at low found first₀ second₀) where
  unrefused : ends_refusal s first₀ second₀ ≡ 0
  unrefused = refused_none s first₀ second₀ (sym admitted) h.has_room

  pub low_fits : RoomFor at.arcs low first₀
  low_fits = hand_ready s low at.arcs first₀ admitted h.stands.held.held h.stands.low_room (granted s first₀ second₀ unrefused).first_room

  pub low_high : HighReady s at low found second₀
  low_high =
      record {
        works = h.works;
        circuit = held_arcs s h.stands.held.held;
        low = h.stands.held.low;
        high_room = h.stands.low_room;
        found_room = h.stands.found_room;
        second_room = (granted s first₀ second₀ unrefused).second_room;
      }

  pub finds : (first : List ℕ) → first ≡ copied low (4 * at.arcs) first₀ → (r : Option Stand) (second : List ℕ) → HighFound s at second₀ r second
      → Outcome s first₀ second₀ (ended (code.Found at r)) first second
  finds first e r second f =
      let held = h.stands.held.held in
      ends.found at.time.top at.time.bottom (highest r) held.steps f.steps (found_answer_lem at r _ _ held.counted f.counted) unrefused
      (record {
        range = f.range;
        bottom_small = h.stands.held.low.few;
        high_small = f.high_small;
        first_circuit = held.circuit;
        second_circuit = f.circuit;
        low_shown = h.stands.held.low.shown;
        high_shown = f.shown;
      })
      (handed s low at.arcs held first₀ first e) f.written

-- what the descent came to, case by case
pub open_works : (s : Sheet) (r : Option Stand) (high found : List ℕ) → Descends s r high found → r ≡ None → Works (arcs s) 192000001 1
open_works s r high found d e = subst (λ (x : Option Stand). Descends s x high found) e d

pub rests_high : (s : Sheet) (r : Option Stand) (high found : List ℕ) → Descends s r high found → (top : Stand) → r ≡ Some top → Rests s top high found
rests_high s r high found d top e = subst (λ (x : Option Stand). Descends s x high found) e d

-- what the climb came to, case by case
pub climbs_low : (s : Sheet) (r : Result Stand NoTime) (low found : List ℕ) → Climbs s r low found → (at : Stand) → r ≡ Ok at → Works (arcs s) at.time.top at.time.bottom × LowStands s at low found
climbs_low s r low found d at e = subst (λ (x : Result Stand NoTime). Climbs s x low found) e d

pub climbs_none : (s : Sheet) (r : Result Stand NoTime) (low found : List ℕ) → Climbs s r low found → (none : NoTime) → r ≡ Err none
    → NoneHeld s low none.first found none.second × (length low ≡ 768) × (length found ≡ 768)
climbs_none s r low found d none e = subst (λ (x : Result Stand NoTime). Climbs s x low found) e d

module _ (s : Sheet) (admitted : refusal s ≡ 0) (low₀ found₀ first second : List ℕ) (f : FindReady s low₀ found₀ first second) where
  pub find_unrefused : ends_refusal s first second ≡ 0
  find_unrefused = refused_none s first second (sym admitted) f.has_room

  room : Granted s first second
  room = granted s first second find_unrefused

  pub find_fresh : Starting low₀ found₀
  find_fresh = record { low_room = f.low_room; found_room = f.found_room }

  pub find_low : (at : Stand) (low found : List ℕ) → Works (arcs s) at.time.top at.time.bottom × LowStands s at low found → LowReady s at low found first second
  find_low at low found w = record { has_room = f.has_room; works = w.0; stands = w.1 }

  pub none_fit : (count₁ count₂ : ℕ) (low found : List ℕ) → NoneHeld s low count₁ found count₂ × (length low ≡ 768) × (length found ≡ 768) → RoomFor count₁ low first × RoomFor count₂ found second
  none_fit count₁ count₂ low found o =
      (hand_ready s low count₁ first admitted o.0.held₁ o.1 room.first_room, hand_ready s found count₂ second admitted o.0.held₂ o.2 room.second_room)
