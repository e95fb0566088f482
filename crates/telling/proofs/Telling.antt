-- From the outcomes of the calls to what the report tells: low works, and is asked for without a refusal; the circuits have at most 192 arcs.
use mathlib.Core.Path.{◌≡◌, refl, sym, ap, ap₂, ◌∙◌, subst}
use mathlib.Core.Logic.{◌⊎◌, inl, inr}
use mathlib.Core.List.{List, [], ◌++◌}
use Prim.Native.Nat.{ℕ, ◌-◌, ◌*◌, ◌≤◌, ◌<◌}
use native.Mathlib.Omega.{arith}
use native.Mathlib.Nat.{mul-le-mul_right}
use borrow.Author.Tests.{le-leb}
use lib.ListN.{length}
use Rattle.text.specs.Text.{Puts, Adds}
use Rattle.text.specs.declared.Text.{Text}
use Rattle.text.proofs.Puts.{adds_then}
use Rattle.theory.specs.Arcs.{Arc}
use Rattle.theory.specs.Circuits.{ups, downs, forths, backs}
use Rattle.theory.specs.Ends.{High, Lowest, LowShown, at_zero, above_zero}
use Rattle.theory.proofs.Fractions.{lowest_least, low_works}
use Rattle.theory.proofs.Slopes.{zero_low}
use Rattle.theory.proofs.Sums.{ups_few}
use Rattle.numbers.specs.Groups.{Refusal}
use Rattle.tables.specs.Sheets.{Sheet, refusal}
use Rattle.tables.specs.Answers.{Answer}
use Rattle.tables.specs.Admitted.{Admitted}
use Rattle.tables.proofs.Laws.{accepted}
use Rattle.sheet.specs.File.{Part, sheet_in}
use Rattle.sheet.specs.File as file
use Rattle.windows.specs.Inequalities.{Runs}
use Rattle.windows.specs.Arcs.{nodes, arcs}
use Rattle.windows.specs.Circuits.{Step, numbers}
use Rattle.windows.proofs.Limits.{nodes_few, sheet_laid}
use Rattle.windows.proofs.Steps.{never_both}
use Rattle.calls.specs.Ask as ask
use Rattle.calls.proofs.Ask.Cases as asked-cases
use Rattle.calls.proofs.Ask.Cases.{accepted_is, refuted_is}
use Rattle.ask.specs.Answers.{answer_asked}
use Rattle.ask.specs.declared.Asked.{Asked}
use Rattle.ask.specs.declared.Asked.TheVariants as asked
use Rattle.calls.proofs.Ask.Room as ask-room
use Rattle.calls.specs.Ends as ends
use Rattle.calls.specs.Circuits.{CircuitOrNone}
use Rattle.calls.specs.Ends.{Finds, Lacks}
use Rattle.calls.proofs.Ends.Cases.{Gives, found_is, none_is, refused_is}
use Rattle.std.specs.Prelude.{Option, Result, Ok, Err}
use Rattle.std.specs.Result.{IsOk}
use Rattle.numbers.specs.declared.refusals.Reason.{Reason}
use Rattle.numbers.specs.Refusals.{number_of}
use Rattle.search.specs.declared.Stand.{Stand}
use Rattle.search.specs.declared.NoTime.{NoTime}
use Rattle.ends.specs.Answers.{answer_ended, highest, arcs_of}
use Rattle.ends.proofs.Finishing.{found_answer_lem}
use Rattle.ends.specs.declared.Ended.{Ended}
use Rattle.ends.specs.declared.Ended.TheVariants as ended
use Rattle.weights.proofs.Held.{count_few}
use Rattle.lines.specs.Lines.{low_word, none_word, first_word, second_word, line, circuit_lines, high_lines, plan_lines, refused_line}
use Rattle.lines.specs.Buffers.{plan_text, ends_text, found_text, none_text}
use Rattle.telling.specs.Tells.{TellsEnds, TellsNone, Tells}
use Rattle.telling.specs.Steps.{TextStands, TextAdded, Askable, PlanAdded, CircuitStands, CircuitsStand}
use Rattle.lines.proofs.Spelled.{plan_is}
use Rattle.endings.proofs.Spelled.{circuit_is, high_is}

module _ (s : Sheet) (admitted : refusal s ≡ 0) where
  ok : Admitted s
  ok = accepted s admitted

  -- a circuit has at most N arcs, and so at most 192
  pub few_192 : (cs : List Step) → CircuitOrNone s cs → length cs ≤ 192
  few_192 cs (inl e) = omega (arith, ap length e)
  few_192 cs (inr c) = omega (arith, count_few s admitted cs [] (numbers cs ++ []) (length cs) c refl refl, nodes_few s ok)

  -- low's top is at most the sum of a circuit's limits
  low_small : (top bottom : ℕ) (c : List Arc) → 0 < bottom → Lowest top bottom → LowShown (arcs s) bottom top c → top ≤ 192000000
  low_small top bottom c some lowest at_zero = omega arith
  low_small top bottom c some lowest (above_zero pos ring falls level) =
      omega (
        arith,
        (lowest_least top bottom (backs c - forths c) (ups c - downs c) lowest (zero_low c top bottom some falls level) (omega arith)).0,
        ups_few (nodes s) 1000000 s.n (arcs s) (sheet_laid s ok) c ring,
        mul-le-mul_right 1000000 (nodes_few s ok),
      )

  -- THEOREM: low works, and Ask does not refuse it
  pub low_askable : {top bottom : ℕ} {high : High} {cs ds : List Step} → Finds s top bottom high cs ds → Askable s top bottom
  low_askable {top} {bottom} {high} f =
      record {
        admitted = admitted;
        runs = low_works (Runs s) top bottom high f.range;
        some = f.range.bottom;
        few = omega (arith, f.bottom_small, ok.size.few_events);
        small = omega (arith, low_small top bottom _ f.range.bottom f.range.lowest f.low_shown);
      }

-- what the lines of a circuit ask of its buffer
pub stands_few : (s : Sheet) → refusal s ≡ 0 → {cs : List Step} {count : ℕ} {buffer : List ℕ} → CircuitStands s cs count buffer → (count ≤ 192) × (4 * count ≤ length buffer)
stands_few s admitted {cs} h = let few = few_192 s admitted cs h.circuit in (omega (arith, few, h.counted), omega (arith, few, h.counted, h.room))

-- ---- the text of ends, and of none

module _ (s : Sheet) {first second : List ℕ} {count₁ count₂ : ℕ} where
  pub found_told : {top bottom : ℕ} {high : High} {t u v : Text} → CircuitsStand s (Finds s top bottom high) first count₁ second count₂
      → Adds t (found_text top bottom high first count₁ second count₂) u → PlanAdded s top bottom u v → TextAdded (TellsEnds s) t v
  found_told {top} {bottom} {high} {t} {u} {v} g x y =
      let f = g.first_stands in
      let l = g.second_stands in
      let same = ap₂ (λ (a b : List ℕ). ends_text top bottom high ++ a ++ b) (circuit_is g.cs f.before first count₁ f.counted f.is low_word) (high_is g.ds l.before second count₂ l.counted l.is high) in
      record {
        text = ends_text top bottom high ++ circuit_lines low_word g.cs ++ high_lines high g.ds ++ plan_lines s bottom y.rounds y.plan;
        says =
            record {
              top = top;
              bottom = bottom;
              high = high;
              first = g.cs;
              second = g.ds;
              finds = g.shown;
              rounds = y.rounds;
              plan = y.plan;
              plan_is = y.plan_is;
              rounds_are = y.rounds_are;
              text_is = refl;
            };
        adds = adds_then {a = ends_text top bottom high ++ circuit_lines low_word g.cs ++ high_lines high g.ds} (subst (λ (l : List ℕ). Adds t l u) same x) y.adds;
      }

  pub none_told : {t u : Text} → CircuitsStand s (Lacks s) first count₁ second count₂ → Adds t (none_text first count₁ second count₂) u → TextAdded (TellsNone s) t u
  none_told {t} {u} g x =
      let f = g.first_stands in
      let l = g.second_stands in
      let same = ap₂ (λ (a b : List ℕ). line none_word [] ++ a ++ b) (circuit_is g.cs f.before first count₁ f.counted f.is first_word) (circuit_is g.ds l.before second count₂ l.counted l.is second_word) in
      record {
        text = line none_word [] ++ circuit_lines first_word g.cs ++ circuit_lines second_word g.ds;
        says = record { first = g.cs; second = g.ds; lacks = g.shown; text_is = refl };
        adds = subst (λ (l : List ℕ). Adds t l u) same x;
      }

-- a sheet tells of its ends or of none
module _ (s : Sheet) where
  pub tells_ends : {t u : Text} → TextAdded (TellsEnds s) t u → TextAdded (λ text. TellsEnds s text ⊎ TellsNone s text) t u
  tells_ends x = record { text = x.text; says = inl x.says; adds = x.adds }

  pub tells_none : {t u : Text} → TextAdded (TellsNone s) t u → TextAdded (λ text. TellsEnds s text ⊎ TellsNone s text) t u
  tells_none x = record { text = x.text; says = inr x.says; adds = x.adds }

-- a text begun in a buffer stands from its start
pub begun : {Says : List ℕ → Type 0} {t u : Text} → t.at ≡ 0 → TextAdded Says t u → TextStands Says t.out.now u.at u.out.now
begun {Says} {t} {u} e x = record { text = x.text; says = x.says; puts = subst (λ (i : ℕ). Puts t.out.now i x.text u.at u.out.now) e x.adds.puts }

-- ---- the calls' answers

-- the reader's
pub tells_refused : (bytes : List ℕ) (r : Refusal) → sheet_in bytes ≡ file.refused r → {t u : Text} → Adds t (refused_line r.number r.at) u → TextAdded (Tells (sheet_in bytes)) t u
tells_refused bytes r e x = record { text = refused_line r.number r.at; says = subst (λ (w : Part Sheet). Tells w (refused_line r.number r.at)) (sym e) refl; adds = x }

pub tells_got : (bytes : List ℕ) (s : Sheet) (place : ℕ) → sheet_in bytes ≡ file.got s place → {t u : Text} → TextAdded (λ text. TellsEnds s text ⊎ TellsNone s text) t u → TextAdded (Tells (sheet_in bytes)) t u
tells_got bytes s place e x = record { text = x.text; says = subst (λ (w : Part Sheet). Tells w x.text) (sym e) x.says; adds = x.adds }

-- Ask's at low
module _ (s : Sheet) (top bottom : ℕ) (l : Askable s top bottom) (plan₀ circuit₀ : List ℕ) (long : length plan₀ ≡ 192) (wide : length circuit₀ ≡ 768) (a : Result Asked Reason) (plan circuit : List ℕ)
    (o : ask.Outcome s top bottom plan₀ circuit₀ (answer_asked a) plan circuit) where
  seen : (b : Result Asked Reason) → a ≡ b → ask.Outcome s top bottom plan₀ circuit₀ (answer_asked b) plan circuit
  seen b e = subst (λ (x : Result Asked Reason). ask.Outcome s top bottom plan₀ circuit₀ (answer_asked x) plan circuit) e o

  pub asked_plan : (rounds : ℕ) → a ≡ Ok (asked.Accepted rounds) → length plan ≡ 192 → {t u : Text} → Adds t (plan_text bottom rounds plan s.n s.positions) u → PlanAdded s top bottom t u
  asked_plan rounds e long' {t} {u} x =
      let h = (accepted_is rounds (seen (Ok (asked.Accepted rounds)) e)).1 in
      record {
        rounds = rounds;
        plan = plan;
        plan_is = h.plan_is;
        rounds_are = h.rounds_are;
        adds = subst (λ (l : List ℕ). Adds t l u) (plan_is s plan (omega (arith, nodes_few s (accepted s l.admitted))) bottom rounds) x;
      }

  pub asked_refuted : (k : ℕ) → a ≡ Ok (asked.Refuted k) → ⊥
  asked_refuted k e =
      let h = refuted_is k (seen (Ok (asked.Refuted k)) e) in
      never_both s (accepted s l.admitted).size.some_positions top bottom l.runs.0 l.runs.1 h.1 h.3.refutes

  pub asked_refused : (r : Reason) → a ≡ Err r → ⊥
  asked_refused r e =
      let h = asked-cases.refused_is (number_of r) (seen (Err r) e) in
      h.1 (sym h.0 ∙ ask-room.unrefused s l.admitted plan₀ circuit₀ long wide top bottom l.some (omega (arith, l.few)) l.small)

  -- so that Ask answers
  pub asked_ok : IsOk a
  asked_ok = go a refl
    where
      go : (b : Result Asked Reason) → a ≡ b → IsOk b
      go (Ok e) q = refl
      go (Err r) q = absurd (asked_refused r q)

-- Ends'
module _ (s : Sheet) (admitted : refusal s ≡ 0) (first₀ second₀ : List ℕ) (long : length first₀ ≡ 768) (wide : length second₀ ≡ 768) (a : Result Ended Reason) (first second : List ℕ)
    (o : ends.Outcome s first₀ second₀ (answer_ended a) first second) where
  ended_as : (b : Result Ended Reason) → a ≡ b → ends.Outcome s first₀ second₀ (answer_ended b) first second
  ended_as b e = subst (λ (x : Result Ended Reason). ends.Outcome s first₀ second₀ (answer_ended x) first second) e o

  -- what Ends gives stands in the two buffers
  stood : {Shows : List Step → List Step → Type 0} {count₁ count₂ : ℕ} → ((cs ds : List Step) → Shows cs ds → CircuitOrNone s cs × CircuitOrNone s ds) → Gives s Shows first₀ second₀ count₁ count₂ first second
      → length first ≡ 768 → length second ≡ 768 → CircuitsStand s Shows first count₁ second count₂
  stood circuits g room₁ room₂ =
      let c = circuits g.cs g.ds g.shown in
      record {
        admitted = admitted;
        cs = g.cs;
        ds = g.ds;
        shown = g.shown;
        first_stands = record { circuit = c.0; counted = g.counted₁; before = first₀; is = g.first_is; room = room₁ };
        second_stands = record { circuit = c.1; counted = g.counted₂; before = second₀; is = g.second_is; room = room₂ };
      }

  pub ended_found : (low : Stand) (high : Option Stand) → a ≡ Ok (ended.Found low high) → length first ≡ 768 → length second ≡ 768
      → CircuitsStand s (Finds s low.time.top low.time.bottom (highest high)) first low.arcs second (arcs_of high)
  ended_found low high e =
      stood (λ cs ds f. (f.first_circuit, f.second_circuit))
      (found_is low.time.top low.time.bottom (highest high) low.arcs (arcs_of high)
      (subst (λ (x : Answer). ends.Outcome s first₀ second₀ x first second) (found_answer_lem low high _ _ refl refl) (ended_as (Ok (ended.Found low high)) e)))

  pub ended_none : (none : NoTime) → a ≡ Ok (ended.None none) → length first ≡ 768 → length second ≡ 768 → CircuitsStand s (Lacks s) first none.first second none.second
  ended_none none e = stood (λ cs ds l. (l.first_circuit, l.second_circuit)) (none_is none.first none.second (ended_as (Ok (ended.None none)) e))

  pub ended_refused : (r : Reason) → a ≡ Err r → ⊥
  ended_refused r e =
      let h = refused_is (number_of r) (ended_as (Err r) e) in
      let few = nodes_few s (accepted s admitted) in
      h.1 (sym h.0 ∙ rw (admitted, le-leb (4 * nodes s) (length first₀) (omega arith), le-leb (4 * nodes s) (length second₀) (omega arith)) refl)

  -- so that Ends answers
  pub ended_ok : IsOk a
  ended_ok = go a refl
    where
      go : (b : Result Ended Reason) → a ≡ b → IsOk b
      go (Ok e) q = refl
      go (Err r) q = absurd (ended_refused r q)
