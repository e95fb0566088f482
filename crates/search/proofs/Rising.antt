-- The climb as a loop: where it starts, that each turn brings it nearer its end, and what it comes to.
use mathlib.Core.Path.{◌≡◌, refl, ap, ◌∙◌, subst}
use mathlib.Core.Logic.{◌⊎◌, inl, inr}
use mathlib.Core.List.{List, []}
use Prim.Native.Nat.{ℕ, ◌*◌, ◌≤◌, ◌<◌}
use lib.ListN.{length}
use Rattle.theory.proofs.Fractions.{left_to_climb}
use Rattle.theory.proofs.Found.{low_start, climb_less}
use Rattle.tables.specs.Sheets.{Sheet, refusal}
use Rattle.tables.proofs.Laws.{accepted}
use Rattle.windows.specs.Arcs.{nodes, arcs}
use Rattle.windows.proofs.Limits.{sheet_laid}
use Rattle.limits.specs.declared.Weight.{Weight}
use Rattle.fractions.specs.declared.Fraction.{Fraction}
use Rattle.limits.specs.declared.Climb.{Climb}
use Rattle.limits.specs.declared.Climb.TheVariants as climb
use Rattle.limits.specs.Limits.{Leads}
use Rattle.search.specs.Copies.{copied, RoomFor}
use Rattle.search.specs.Climbs.{LowHeld, NoneHeld, held_arcs}
use Rattle.search.specs.Searches.{Judged, Gains, Rises, LowStands, Starting, Climbs}
use Rattle.search.specs.declared.Stand.{Stand}
use Rattle.search.specs.declared.Above.{Above}
use Rattle.search.specs.declared.NoTime.{NoTime}
use Rattle.std.specs.Prelude.{Option, None, Some, Result, Ok, Err}
use Rattle.search.proofs.Copies.{copied_length}
use Rattle.search.proofs.Climbing.{beats_fits, low_ready, low_on, low_alone, low_both}

-- what the sums say, and where the circuits then are
module _ (w : Weight) (before : ℕ) (found : List ℕ) (count : ℕ) (low₀ : List ℕ) (r : Climb) (next : Leads w r) where
  pub rises_on : (time : Fraction) → r ≡ climb.On time → (low : List ℕ) → low ≡ copied found (4 * count) low₀
      → Rises w before found count low₀ (Ok (record { time = time; arcs = count })) low
  rises_on time e low f = let n = subst (Leads w) e next in (refl, n.0, n.1, f)

  pub rises_alone : r ≡ climb.Alone → (low : List ℕ) → low ≡ copied found (4 * count) low₀ → Rises w before found count low₀ (Err (record { first = count; second = 0 })) low
  rises_alone e low f = let n = subst (Leads w) e next in (n.0, inl (n.1, refl, refl, f))

  pub rises_both : r ≡ climb.Both → Rises w before found count low₀ (Err (record { first = before; second = count })) low₀
  rises_both e = let n = subst (Leads w) e next in (n.0, inr (n.1, refl, refl, refl))

abbrev pub start : Stand
start = record { time = record { top = 0; bottom = 1 }; arcs = 0 }

pub fresh_stands : (s : Sheet) → refusal s ≡ 0 → (low found : List ℕ) → Starting low found → LowStands s start low found
fresh_stands s admitted low found f =
    let ok = accepted s admitted in
    record {
      held = record {
        held = record { steps = []; circuit = inl refl; counted = refl; rest = low; starts = refl };
        low = low_start (nodes s) 1000000 s.n (arcs s) (sheet_laid s ok) ok.size.some_events;
      };
      low_room = f.low_room;
      found_room = f.found_room;
    }

-- what is left of the climb
abbrev pub to_climb : Sheet → Stand → ℕ
to_climb s at = left_to_climb (nodes s * 1000000) s.n at.time.top at.time.bottom

module _ (s : Sheet) (admitted : refusal s ≡ 0) (at : Stand) (low₀ found₀ : List ℕ) (h : LowStands s at low₀ found₀) (v : Option Above) (found : List ℕ) (judged : Judged s at v found) where
  pub climbed_low : v ≡ None → Climbs s (Ok at) low₀ found
  climbed_low e =
      let o = subst (λ (x : Option Above). Judged s at x found) e judged in
      (o.0, record { held = h.held; low_room = h.low_room; found_room = o.1 })

  module _ (a : Above) (e : v ≡ Some a) where
    above : Judged s at (Some a) found
    above = subst (λ (x : Option Above). Judged s at x found) e judged

    fits : RoomFor a.arcs found low₀
    fits = beats_fits s admitted at.time.top at.time.bottom found a.arcs above.0 above.2 low₀ h.low_room

    kept : length (copied found (4 * a.arcs) low₀) ≡ 768
    kept = copied_length found (4 * a.arcs) low₀ fits.1 fits.2 ∙ h.low_room

    pub climb_asks : Gains a.weight × RoomFor a.arcs found low₀
    climb_asks = (low_ready s admitted at.time.top at.time.bottom found a.arcs above.0 a.weight above.1, fits)

    module _ (r : Result Stand NoTime) (low : List ℕ) (rises : Rises a.weight at.arcs found a.arcs low₀ r low) where
      pub climb_next : (next : Stand) → r ≡ Ok next → LowStands s next low found × (to_climb s next < to_climb s at)
      climb_next next f =
          let o = subst (λ (x : Result Stand NoTime). Rises a.weight at.arcs found a.arcs low₀ x low) f rises in
          let on = low_on s admitted at.time.top at.time.bottom found a.arcs above.0 a.weight above.1 low₀ at.arcs next.time.top next.time.bottom h.held o.1 o.2 in
          let held : LowHeld s low next.time.top next.time.bottom next.arcs = rw (o.3, o.0) on.0 in (
            record { held = held; low_room = ap length o.3 ∙ kept; found_room = above.2 },
            climb_less (nodes s) 1000000 s.n (arcs s) (sheet_laid s (accepted s admitted)) at.time.top at.time.bottom (held_arcs s h.held.held) next.time.top next.time.bottom (held_arcs s held.held)
                h.held.low held.low on.1,
          )

      pub climbed_none : (none : NoTime) → r ≡ Err none → Climbs s (Err none) low found
      climbed_none none f = let o = subst (λ (x : Result Stand NoTime). Rises a.weight at.arcs found a.arcs low₀ x low) f rises in go o.0 o.1
        where
          go : a.weight.backs ≤ a.weight.forths
              → ((a.weight.downs < a.weight.ups) × (none.first ≡ a.arcs) × (none.second ≡ 0) × (low ≡ copied found (4 * a.arcs) low₀)) ⊎ ((a.weight.ups ≤ a.weight.downs) × (none.first ≡ at.arcs) × (none.second ≡ a.arcs) × (low ≡ low₀))
              → NoneHeld s low none.first found none.second × (length low ≡ 768) × (length found ≡ 768)
          go level (inl b) =
              (rw (b.3, b.1, b.2) (low_alone s admitted at.time.top at.time.bottom found a.arcs above.0 a.weight above.1 low₀ level b.0), ap length b.3 ∙ kept, above.2)
          go level (inr b) =
              (rw (b.3, b.1, b.2) (low_both s admitted at.time.top at.time.bottom found a.arcs above.0 a.weight above.1 low₀ at.arcs h.held level b.0), ap length b.3 ∙ h.low_room, above.2)
