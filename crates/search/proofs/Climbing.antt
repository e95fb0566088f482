-- What a circuit above zero does to the climb and to the descent, said of the buffers and sums that the code has.
use mathlib.Core.Path.{◌≡◌, refl, ap, ◌∙◌}
use mathlib.Core.Logic.{inl, inr}
use mathlib.Core.List.{List, [], ◌++◌, map}
use Prim.Native.Nat.{ℕ, ◌-◌, ◌*◌, ◌≤◌, ◌<◌}
use native.Mathlib.Omega.{arith}
use lib.ListN.{length, take, drop}
use lib.Seq.{take_at}
use Rattle.theory.specs.Circuits.{ups, downs, forths, backs}
use Rattle.theory.specs.Ends.{Under, Reduces, single}
use Rattle.theory.proofs.Slopes.{falling_gains}
use Rattle.theory.proofs.Found.{climb_on, climb_both, descend_climbs, descend_on}
use Rattle.tables.specs.Sheets.{Sheet, refusal}
use Rattle.tables.proofs.Laws.{accepted}
use Rattle.windows.specs.Arcs.{nodes, arcs}
use Rattle.windows.specs.Circuits.{Step, numbers, step_arc}
use Rattle.windows.proofs.Limits.{sheet_laid}
use Rattle.windows.proofs.Numbers.{numbers_length}
use Rattle.weights.specs.Weights.{weights_in, Lists}
use Rattle.search.specs.Copies.{copied, RoomFor}
use Rattle.search.specs.Climbs.{Held, held_arcs, Beats, Over, LowHeld, HighHeld, NoneHeld}
use Rattle.limits.specs.declared.Weight.{Weight}
use Rattle.weights.proofs.Held.{weights_of, lists, weights_are}

-- the arcs, copied from one buffer to the front of another
pub copied_starts : (cs : List Step) (rest from to : List ℕ) (count : ℕ) → from ≡ numbers cs ++ rest → length cs ≡ count → copied from (4 * count) to ≡ numbers cs ++ drop (4 * count) to
copied_starts cs rest from to count starts counted =
    ap (λ (l : List ℕ). l ++ drop (4 * count) to)
    (ap (take (4 * count)) starts ∙ take_at (numbers cs) rest (4 * count) (omega (arith, numbers_length cs)))

module _ (s : Sheet) (ok : refusal s ≡ 0) (p q : ℕ) (found : List ℕ) (count : ℕ) (b : Beats s p q found count) where
  pub beats_lists : Lists s found count
  beats_lists = lists s ok b.steps b.rest found count b.circuit b.counted b.starts

  -- what a copy of it asks
  pub beats_fits : length found ≡ 768 → (to : List ℕ) → length to ≡ 768 → RoomFor count found to
  beats_fits room to room' = (beats_lists.few, beats_lists.long, omega (arith, beats_lists.long))

  -- the circuit, where it was found and where it is copied to
  abbrev held : Held s found count
  held = record { steps = b.steps; circuit = inr b.circuit; counted = b.counted; rest = b.rest; starts = b.starts }

  abbrev held_in : (to : List ℕ) → Held s (copied found (4 * count) to) count
  held_in to =
      record { steps = b.steps; circuit = inr b.circuit; counted = b.counted; rest = drop (4 * count) to; starts = copied_starts b.steps b.rest found to count b.starts b.counted }

  -- the sums that the code has
  module _ (w : Weight) (weighed : w ≡ weights_in s found count) where
    weight_is : w ≡ weights_of s b.steps
    weight_is = weighed ∙ weights_are s ok b.steps b.rest found count b.circuit b.counted b.starts

    ups_is : w.ups ≡ ups (map (step_arc s) b.steps)
    unfolding weights_of
    ups_is = ap (λ (x : Weight). x.ups) weight_is

    downs_is : w.downs ≡ downs (map (step_arc s) b.steps)
    unfolding weights_of
    downs_is = ap (λ (x : Weight). x.downs) weight_is

    forths_is : w.forths ≡ forths (map (step_arc s) b.steps)
    unfolding weights_of
    forths_is = ap (λ (x : Weight). x.forths) weight_is

    backs_is : w.backs ≡ backs (map (step_arc s) b.steps)
    unfolding weights_of
    backs_is = ap (λ (x : Weight). x.backs) weight_is

    -- what `next_low` asks
    pub low_ready : w.forths < w.backs → w.downs ≤ w.ups
    low_ready falls =
        omega (
          arith,
          ups_is,
          downs_is,
          falling_gains (arcs s) p q (map (step_arc s) b.steps) b.circuit.circuit b.above (omega (arith, forths_is, backs_is)),
        )

    -- on to the circuit's limit, with the circuit copied
    pub low_on : (low : List ℕ) (before top bottom : ℕ) → LowHeld s low p q before → w.forths < w.backs → Reduces (w.ups - w.downs) (w.backs - w.forths) top bottom
        → LowHeld s (copied found (4 * count) low) top bottom count × Under p q top bottom
    low_on low before top bottom l falls r =
        let c = map (step_arc s) b.steps in
        let worth : top * (backs c - forths c) ≡ (ups c - downs c) * bottom = rw (← ups_is, ← downs_is, ← forths_is, ← backs_is) r.worth in
        let on = climb_on (nodes s) 1000000 s.n (arcs s) (sheet_laid s (accepted s ok)) p q (held_arcs s l.held) l.low c b.circuit.circuit b.above (omega (arith, forths_is, backs_is)) top bottom r.positive r.lowest worth in (
          record { held = held_in low; low = on.0 },
          on.1,
        )

    pub low_alone : (low : List ℕ) → w.backs ≤ w.forths → w.downs < w.ups → NoneHeld s (copied found (4 * count) low) count found 0
    low_alone low level gains =
        record {
          held₁ = held_in low;
          held₂ = record { steps = []; circuit = inl refl; counted = refl; rest = found; starts = refl };
          shown = single b.circuit.circuit (omega (arith, ups_is, downs_is)) (omega (arith, forths_is, backs_is));
        }

    pub low_both : (low : List ℕ) (before : ℕ) → LowHeld s low p q before → w.backs ≤ w.forths → w.ups ≤ w.downs → NoneHeld s low before found count
    low_both low before l level less =
        record {
          held₁ = l.held;
          held₂ = held;
          shown = climb_both (nodes s) 1000000 s.n (arcs s) (sheet_laid s (accepted s ok)) p q (held_arcs s l.held) l.low (map (step_arc s) b.steps) b.circuit.circuit b.above
              (omega (arith, forths_is, backs_is)) (omega (arith, ups_is, downs_is));
        }

    -- what `next_high` asks
    pub high_ready : Over s p q → (w.backs < w.forths) × (w.ups ≤ w.downs)
    high_ready o =
        let k = descend_climbs (nodes s) 1000000 s.n (arcs s) (sheet_laid s (accepted s ok)) o.top o.bottom o.positive o.works p q o.below (map (step_arc s) b.steps) b.circuit.circuit b.above in
        (omega (arith, forths_is, backs_is, k.0), omega (arith, ups_is, downs_is, k.1))

    pub high_on : Over s p q → (high : List ℕ) (top bottom : ℕ) → Reduces (w.downs - w.ups) (w.forths - w.backs) top bottom
        → HighHeld s (copied found (4 * count) high) top bottom count × Under top bottom p q
    high_on o high top bottom r =
        let c = map (step_arc s) b.steps in
        let worth : top * (forths c - backs c) ≡ (downs c - ups c) * bottom = rw (← ups_is, ← downs_is, ← forths_is, ← backs_is) r.worth in
        let on = descend_on (nodes s) 1000000 s.n (arcs s) (sheet_laid s (accepted s ok)) o.top o.bottom o.positive o.works p q o.below c b.circuit.circuit b.above top bottom r.positive r.lowest worth in (
          record { held = held_in high; top_is = on.0 },
          on.1,
        )
