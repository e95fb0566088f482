-- The descent as a loop: where it starts, that each turn brings it nearer its end, and what it comes to.
use mathlib.Core.Path.{◌≡◌, ap, ◌∙◌, subst}
use mathlib.Core.List.{List}
use Prim.Native.Nat.{ℕ, ◌*◌, ◌<◌}
use native.Mathlib.Omega.{arith}
use native.Mathlib.Nat.{mul-le-mul_left, mul-le-mul_right}
use lib.ListN.{length}
use Rattle.theory.specs.Arcs.{Works}
use Rattle.theory.specs.Ends.{Under}
use Rattle.theory.proofs.Fractions.{floors}
use Rattle.theory.proofs.Found.{descend_less}
use Rattle.tables.specs.Sheets.{Sheet, refusal}
use Rattle.tables.proofs.Laws.{accepted}
use Rattle.windows.specs.Arcs.{nodes, arcs}
use Rattle.windows.proofs.Limits.{sheet_laid, nodes_few}
use Rattle.search.specs.Copies.{RoomFor}
use Rattle.search.specs.Climbs.{HighHeld, held_arcs}
use Rattle.search.specs.Searches.{Judged, Turns, Falls, Hangs, HighStands, Rests, Overhead}
use Rattle.search.specs.declared.Stand.{Stand}
use Rattle.search.specs.declared.Above.{Above}
use Rattle.std.specs.Prelude.{Option, None, Some}
use Rattle.search.proofs.Copies.{copied_length}
use Rattle.search.proofs.Climbing.{beats_fits, high_ready, high_on}

-- what is left of the descent
abbrev pub to_descend : Sheet → Stand → ℕ
to_descend s at = floors at.time.top at.time.bottom s.n

-- where a circuit's limit is held, over what works, the descent stands
pub high_stands : (s : Sheet) → refusal s ≡ 0 → (at next : Stand) (high₀ found₀ high found : List ℕ) → Hangs s at high₀ found₀ → HighHeld s high next.time.top next.time.bottom next.arcs → length high ≡ 768 → length found ≡ 768
    → HighStands s next high found
high_stands s admitted at next high₀ found₀ high found h held room room' =
    let ok = accepted s admitted in
    let t = held.top_is in
    record {
      hangs = record {
        ready = record {
          some = t.positive;
          few = omega (arith, t.few, ok.size.few_events);
          small = omega (arith, t.small, mul-le-mul_right 1000000 (nodes_few s ok));
          room = room';
        };
        over = record { top = h.over.top; bottom = h.over.bottom; positive = h.over.positive; works = h.over.works; below = t.most h.over.top h.over.bottom h.over.works };
        high_room = room;
      };
      held = held;
    }

pub fall_works : (s : Sheet) (at : Stand) (v : Option Above) (found : List ℕ) → Judged s at v found → v ≡ None → Works (arcs s) at.time.top at.time.bottom × (length found ≡ 768)
fall_works s at v found judged e = subst (λ (x : Option Above). Judged s at x found) e judged

module _ (s : Sheet) (admitted : refusal s ≡ 0) (at : Stand) (high₀ found₀ : List ℕ) (h : Hangs s at high₀ found₀) (v : Option Above) (found : List ℕ) (judged : Judged s at v found) (a : Above) (e : v ≡ Some a) where
  above_zero : Judged s at (Some a) found
  above_zero = subst (λ (x : Option Above). Judged s at x found) e judged

  pub fall_asks : Turns a.weight × RoomFor a.arcs found high₀
  fall_asks = (
    high_ready s admitted at.time.top at.time.bottom found a.arcs above_zero.0 a.weight above_zero.1 h.over,
    beats_fits s admitted at.time.top at.time.bottom found a.arcs above_zero.0 above_zero.2 high₀ h.high_room,
  )

  pub fall_next : (next : Stand) (high : List ℕ) → Falls a.weight found a.arcs high₀ next high → HighStands s next high found × Under next.time.top next.time.bottom at.time.top at.time.bottom
  fall_next next high f =
      let on = high_on s admitted at.time.top at.time.bottom found a.arcs above_zero.0 a.weight above_zero.1 h.over high₀ next.time.top next.time.bottom f.1 in
      let held : HighHeld s high next.time.top next.time.bottom next.arcs = rw (f.2, f.0) on.0 in
      let room : length high ≡ 768 = ap length f.2 ∙ copied_length found (4 * a.arcs) high₀ fall_asks.1.1 fall_asks.1.2 ∙ h.high_room in
      (high_stands s admitted at next high₀ found₀ high found h held room above_zero.2, on.1)

module _ (s : Sheet) (admitted : refusal s ≡ 0) (at : Stand) (high₀ found₀ : List ℕ) (h : HighStands s at high₀ found₀) (v : Option Above) (found : List ℕ) (judged : Judged s at v found) where
  pub descend_next : (a : Above) → v ≡ Some a → (next : Stand) (high : List ℕ) → Falls a.weight found a.arcs high₀ next high
      → HighStands s next high found × (to_descend s next < to_descend s at)
  descend_next a e next high f =
      let n = fall_next s admitted at high₀ found₀ h.hangs v found judged a e next high f in
      let o = h.hangs.over in (
        n.0,
        descend_less (nodes s) 1000000 s.n (arcs s) (sheet_laid s (accepted s admitted)) o.top o.bottom o.positive o.works at.time.top at.time.bottom
            (held_arcs s h.held.held) next.time.top next.time.bottom (held_arcs s n.0.held.held) h.held.top_is n.0.held.top_is n.1,
      )

  pub descend_rests : v ≡ None → Rests s at high₀ found
  descend_rests e = let o = fall_works s at v found judged e in record { works = o.0; held = h.held; high_room = h.hangs.high_room; found_room = o.1 }

-- above every limit
abbrev pub above : Stand
above = record { time = record { top = 192000001; bottom = 1 }; arcs = 0 }

pub overhead_hangs : (s : Sheet) (low : Stand) (high found : List ℕ) → Overhead s low high found → Hangs s above high found
overhead_hangs s low high found o =
    record {
      ready = record { some = omega arith; few = omega arith; small = omega arith; room = o.found_room };
      over = record {
        top = low.time.top;
        bottom = low.time.bottom;
        positive = o.positive;
        works = o.works;
        below = omega (arith, o.small, mul-le-mul_left 192000001 o.positive);
      };
      high_room = o.high_room;
    }
