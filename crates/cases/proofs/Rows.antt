-- A row of the table by one test that computes on its sheet: its rounds, its plan, its circuits, and what works at the ends. Where the test comes out true the row
-- says what is so.
use mathlib.Core.Path.{◌≡◌, refl, sym, ap, ◌∙◌}
use mathlib.Core.Logic.{inl, inr}
use mathlib.Core.Bool.{Bool, true, ◌&&◌}
use mathlib.Core.List.{List, [], ◌∷◌, ◌++◌, map}
use Prim.Native.Nat.{ℕ, zero, suc, ◌+◌, ◌-◌, ◌*◌, ◌≤◌, ◌<◌}
use native.Mathlib.Omega.{arith}
use lib.Dec.{ltb, eqb}
use lib.ListN.{length, drop, length-replicate, drop_of_length-le}
use borrow.Author.Tests.{ltb-true, eqb-true}
use Rattle.theory.specs.Arcs.{rise, fall, Works}
use Rattle.theory.specs.Circuits.{total, ups, downs, forths, backs}
use Rattle.theory.specs.Ends.{Lowest, High, open_end, up_to, Range, LowShown, HighShown}
use Rattle.theory.proofs.Found.{shown_least, shown_most, closed_range, open_range, none_never}
use Rattle.tables.specs.Sheets.{Sheet, within, refusal, all}
use Rattle.tables.specs.Answers.{answer}
use Rattle.tables.specs.Admitted.{Admitted}
use Rattle.tables.proofs.Laws.{both, within_is, accepted}
use Rattle.tables.proofs.Refusing.{otherwise_none}
use Rattle.windows.specs.Arcs.{nodes, arcs}
use Rattle.windows.specs.Circuits.{Step, numbers, step_arc}
use Rattle.windows.proofs.Laying.{arcs_within}
use Rattle.windows.proofs.Limits.{sheet_laid}
use Rattle.calls.specs.Circuits.{onto}
use Rattle.calls.specs.Ask as ask
use Rattle.calls.proofs.Ask.Earliest.{table_earliest}
use Rattle.calls.specs.Ends as ends
use Rattle.calls.proofs.Ends.Found.{range_runs, never_runs}
use Rattle.cases.specs.Cases.{Case, accepts, refutes, refuses, finds, lacks_one, lacks_two, zeros, four_n, in_room, found_answer, RowSays, AllSay}
use Rattle.cases.proofs.Tests.{counted, counted_is, tabled, tabled_is, lowest, lowest_is, circles, circles_is, shows_low, shows_low_lem, shows_high, shows_high_lem, shows_none, shows_none_lem, show_none, show_none_lem, works, works_is}

-- ---- the tests

module _ (s : Sheet) where
  -- no refusal of Ask fits, or of Ends
  abbrev asked : ℕ → ℕ → Bool
  asked p q = eqb (ask.ask_refusal s p q (zeros (nodes s)) (four_n s)) 0

  abbrev ended : Bool
  ended = eqb (ends.ends_refusal s (four_n s) (four_n s)) 0

  abbrev sum : ℕ → ℕ → List Step → ℕ
  sum p q cs = total (rise p q) (map (step_arc s) cs)

  abbrev less : ℕ → ℕ → List Step → ℕ
  less p q cs = total (fall p q) (map (step_arc s) cs)

  -- an end works, in lowest terms with a bottom of 1 to n
  abbrev ends_at : ℕ → ℕ → Bool
  ends_at a b = works s a b && lowest a b && within s.n b

  -- high does, or a cycle time above every limit works
  abbrev highest : High → Bool
  highest open_end = works s (nodes s * 1000000 + 1) 1
  highest (up_to c d) = ends_at c d

abbrev pub holds : Case → Bool
holds (accepts s p q plan rounds) = asked s p q && counted (arcs s) p q (nodes s) rounds && tabled (arcs s) p q rounds plan (nodes s) && eqb (length plan) (nodes s)
holds (refutes s p q cs t) = asked s p q && circles s cs && eqb (sum s p q cs) (less s p q cs + t) && ltb 0 t
holds (refuses s p q k) = eqb (ask.ask_refusal s p q (zeros (nodes s)) (four_n s)) k && ltb 0 k
holds (finds s a b high cs ds) = ended s && ends_at s a b && highest s high && shows_low s a b cs && shows_high s high ds
holds (lacks_one s cs w c) =
    ended s && shows_none s cs && eqb (ups (map (step_arc s) cs)) (downs (map (step_arc s) cs) + w) && eqb (forths (map (step_arc s) cs)) (backs (map (step_arc s) cs) + c)
holds (lacks_two s cs ds low high) =
    ended s && show_none s cs ds
    && eqb (ups (map (step_arc s) cs)) (downs (map (step_arc s) cs) + low * (backs (map (step_arc s) cs) - forths (map (step_arc s) cs)))
    && eqb (downs (map (step_arc s) ds)) (ups (map (step_arc s) ds) + high * (forths (map (step_arc s) ds) - backs (map (step_arc s) ds)))

-- ---- what they show

module _ (s : Sheet) where
  ask_ok : (p q : ℕ) → asked s p q ≡ true → Admitted s
  ask_ok p q e = accepted s (otherwise_none (refusal s) _ (eqb-true _ _ e)).0

  ends_ok : ended s ≡ true → Admitted s
  ends_ok e = accepted s (otherwise_none (refusal s) _ (eqb-true _ _ e)).0

  -- a plan of N times has no place behind them
  nothing_left : (plan : List ℕ) → length plan ≡ nodes s → drop (nodes s) plan ≡ drop (nodes s) (zeros (nodes s))
  nothing_left plan e = drop_of_length-le plan {i = nodes s} (omega (arith, e)) ∙ sym (drop_of_length-le (zeros (nodes s)) {i = nodes s} (omega (arith, length-replicate {A = ℕ} (nodes s) 0)))

  -- what is left of 4N zeros behind a circuit
  zeros_left : (k n : ℕ) → drop k (zeros n) ≡ zeros (n - k)
  zeros_left zero n = ap zeros (plain n)
    where
      plain : (n : ℕ) → n ≡ n - 0
      plain n = omega arith
  zeros_left (suc k) zero = ap zeros (plain k)
    where
      plain : (k : ℕ) → 0 ≡ 0 - suc k
      plain k = omega arith
  zeros_left (suc k) (suc n) = zeros_left k n ∙ ap zeros (plain k n)
    where
      plain : (k n : ℕ) → n - k ≡ suc n - suc k
      plain k n = omega arith

  in_room_lem : (cs : List Step) → in_room s cs ≡ onto cs (four_n s)
  in_room_lem cs = ap (λ (l : List ℕ). numbers cs ++ l) (sym (zeros_left (4 * length cs) (4 * nodes s)))

  record End (a b : ℕ) : Type 0 where
    pub does : works s a b ≡ true
    pub positive : 0 < b
    pub terms : Lowest a b
    pub small : b ≤ s.n

  end_is : (a b : ℕ) → ends_at s a b ≡ true → End a b
  end_is a b e =
      let k = both _ (within s.n b) e in
      let l = both (works s a b) (lowest a b) k.0 in
      let t = lowest_is a b l.1 in
      record { does = l.0; positive = t.0; terms = t.1; small = (within_is s.n b k.1).1 }

  -- the range, from the circuits that show its ends
  range_is : Admitted s → (a b : ℕ) (high : High) (cs ds : List Step) → End a b → highest s high ≡ true → LowShown (arcs s) b a (map (step_arc s) cs) → HighShown (arcs s) high (map (step_arc s) ds)
      → Range (Works (arcs s)) a b high × ((c d : ℕ) → high ≡ up_to c d → d ≤ s.n)
  range_is ok a b open_end cs ds low e shown top =
      let laid = sheet_laid s ok in
      let some = ok.size.some_positions in (
        open_range (nodes s) 1000000 s.n (arcs s) laid a b (nodes s * 1000000 + 1) low.positive low.terms (works_is s some a b low.does)
            (shown_least (nodes s) 1000000 s.n (arcs s) laid a b (map (step_arc s) cs) shown) (omega arith) (works_is s some (nodes s * 1000000 + 1) 1 e),
        λ c d same. let z : ◌≡◌ {A = ℕ} 0 1 = cc in absurd (omega arith),
      )
  range_is ok a b (up_to c d) cs ds low e shown top =
      let laid = sheet_laid s ok in
      let some = ok.size.some_positions in
      let high = end_is c d e in (
        closed_range (nodes s) 1000000 s.n (arcs s) laid a b c d low.positive high.positive low.terms high.terms (works_is s some a b low.does) (works_is s some c d high.does)
            (shown_least (nodes s) 1000000 s.n (arcs s) laid a b (map (step_arc s) cs) shown) (shown_most (nodes s) 1000000 s.n (arcs s) laid c d (map (step_arc s) ds) top),
        λ x y same. let f : d ≡ y = cc in omega (arith, high.small),
      )

-- the answer's values are those of the ends
found_values : (a b : ℕ) (high : High) (count₁ count₂ : ℕ) → found_answer a b high count₁ count₂ ≡ answer 0 (ends.ends_values a b high ++ count₁ ∷ count₂ ∷ [])
found_values a b open_end count₁ count₂ = refl
found_values a b (up_to c d) count₁ count₂ = refl

-- THEOREM: a row whose test comes out true says what is so
pub row_says : (c : Case) → holds c ≡ true → RowSays c
row_says (accepts s p q plan rounds) e =
    let k = both _ (eqb (length plan) (nodes s)) e in
    let l = both _ (tabled (arcs s) p q rounds plan (nodes s)) k.0 in
    let m = both (asked s p q) (counted (arcs s) p q (nodes s) rounds) l.0 in
    let long = eqb-true (length plan) (nodes s) k.1 in
    let some = (ask_ok s p q m.0).size.some_positions in
    let is = counted_is (arcs s) p q (nodes s) rounds (arcs_within s some) m.1 in
    ask.accepted rounds refl (eqb-true _ _ m.0)
    (record {
      plan_is = table_earliest s some p q rounds is.still plan (tabled_is (arcs s) p q rounds plan (nodes s) l.1);
      rounds_are = is;
      plan_length = long ∙ sym (length-replicate (nodes s) 0);
      plan_rest = nothing_left s plan long;
      circuit_same = refl;
    })
row_says (refutes s p q cs t) e =
    let k = both _ (ltb 0 t) e in
    let l = both _ (eqb (sum s p q cs) (less s p q cs + t)) k.0 in
    let m = both (asked s p q) (circles s cs) l.0 in
    let gap = eqb-true (sum s p q cs) (less s p q cs + t) l.1 in (
      ask.refuted cs refl (eqb-true _ _ m.0) (record { refutes = record { circuit = circles_is s cs m.1; above = omega (arith, gap, ltb-true 0 t k.1) }; circuit_is = in_room_lem s cs; plan_same = refl }),
      gap,
    )
row_says (refuses s p q k) e =
    let h = both (eqb (ask.ask_refusal s p q (zeros (nodes s)) (four_n s)) k) (ltb 0 k) e in
    ask.refused k refl (eqb-true _ _ h.0) (λ zero_is. omega (arith, ltb-true 0 k h.1, zero_is)) refl refl
row_says (finds s a b high cs ds) e =
    let k = both _ (shows_high s high ds) e in
    let l = both _ (shows_low s a b cs) k.0 in
    let m = both _ (highest s high) l.0 in
    let n = both (ended s) (ends_at s a b) m.0 in
    let ok = ends_ok s n.0 in
    let low = end_is s a b n.1 in
    let first = shows_low_lem s a b cs l.1 in
    let second = shows_high_lem s high ds k.1 in
    let range = range_is s ok a b high cs ds low m.1 first.1 second.1 in
    ends.found a b high cs ds (found_values a b high (length cs) (length ds)) (eqb-true _ _ n.0)
    (record {
      range = range_runs s ok.size.some_positions a b high range.0;
      bottom_small = low.small;
      high_small = range.1;
      first_circuit = first.0;
      second_circuit = second.0;
      low_shown = first.1;
      high_shown = second.1;
    })
    (in_room_lem s cs) (in_room_lem s ds)
row_says (lacks_one s cs w c) e =
    let k = both _ (eqb (forths (map (step_arc s) cs)) (backs (map (step_arc s) cs) + c)) e in
    let l = both _ (eqb (ups (map (step_arc s) cs)) (downs (map (step_arc s) cs) + w)) k.0 in
    let m = both (ended s) (shows_none s cs) l.0 in
    let shown = shows_none_lem s cs m.1 in (
      ends.none cs [] refl (eqb-true _ _ m.0)
          (record {
            never = never_runs s (ends_ok s m.0).size.some_positions (none_never (arcs s) (map (step_arc s) cs) [] shown.1);
            first_circuit = inr shown.0;
            second_circuit = inl refl;
            none_shown = shown.1;
          })
          (in_room_lem s cs) refl,
      eqb-true _ _ l.1,
      eqb-true _ _ k.1,
    )
row_says (lacks_two s cs ds low high) e =
    let k = both _ (eqb (downs (map (step_arc s) ds)) (ups (map (step_arc s) ds) + high * (forths (map (step_arc s) ds) - backs (map (step_arc s) ds)))) e in
    let l = both _ (eqb (ups (map (step_arc s) cs)) (downs (map (step_arc s) cs) + low * (backs (map (step_arc s) cs) - forths (map (step_arc s) cs)))) k.0 in
    let m = both (ended s) (show_none s cs ds) l.0 in
    let shown = show_none_lem s cs ds m.1 in (
      ends.none cs ds refl (eqb-true _ _ m.0)
          (record {
            never = never_runs s (ends_ok s m.0).size.some_positions (none_never (arcs s) (map (step_arc s) cs) (map (step_arc s) ds) shown.2);
            first_circuit = inr shown.0;
            second_circuit = inr shown.1;
            none_shown = shown.2;
          })
          (in_room_lem s cs) (in_room_lem s ds),
      eqb-true _ _ l.1,
      eqb-true _ _ k.1,
    )

-- and so of every row of a list
pub rows_say : (cs : List Case) → all holds cs ≡ true → AllSay cs
unfolding all
rows_say [] e = tt
rows_say (c ∷ rest) e = let k = both (holds c) (all holds rest) e in (row_says c k.0, rows_say rest k.1)
