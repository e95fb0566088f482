-- "The surplus is neither read nor written": a sheet with surplus is written as the sheet without it, and is admitted where that is.
use mathlib.Core.Path.{◌≡◌, refl, sym, ap, ap₂, ◌∙◌}
use mathlib.Core.List.{List, ◌++◌}
use Prim.Native.Nat.{ℕ, zero, suc, ◌*◌, ◌≤◌}
use native.Mathlib.Omega.{arith}
use native.Mathlib.Nat.{suc-mul}
use lib.IntN.{ℤ}
use lib.Dec.{ltb}
use lib.ListN.{length, drop, length-append, length-drop}
use lib.Seq.{take-append-le, drop-append-le}
use Rattle.tables.specs.Sheets.{sheet, admits, all, places, sized, scheduled, admitted, refusal}
use Rattle.tables.specs.Admitted.{Sizes}
use Rattle.tables.proofs.Laws.{accepted, sized_yes, passes, refused_not}
use Rattle.sheet.specs.Written.{mode_numbers, modes_numbers, sheet_numbers, written}
use Rattle.sheet.proofs.Sheets.{places_are}

surplus_modes : (n m : ℕ) (tables more : List ℤ) → length tables ≡ m * (4 * (n * n)) → modes_numbers n m (tables ++ more) ≡ modes_numbers n m tables
unfolding modes_numbers
surplus_modes n zero tables more e = refl
surplus_modes n (suc m) tables more e =
    let k = 4 * (n * n) in
    let h : k ≤ length tables = omega (arith, suc-mul m k) in
    ap₂ (λ (a b : List ℕ). a ++ b) (ap (mode_numbers n) (take-append-le k tables more h))
    (ap (modes_numbers n m) (drop-append-le k tables more h) ∙ surplus_modes n m (drop k tables) more (omega (arith, length-drop k tables, suc-mul m k)))

module _ (n m positions : ℕ) (tables : List ℤ) (schedule : List ℕ) (t : length tables ≡ places n m) (v : length schedule ≡ positions) (more : List ℤ) (others : List ℕ) where
  -- THEOREM: a sheet with surplus is written as the sheet without it
  pub surplus_written : written (sheet n m positions (tables ++ more) (schedule ++ others)) ≡ written (sheet n m positions tables schedule)
  unfolding written sheet_numbers
  surplus_written =
      rw (take-append-le positions schedule others (omega arith), surplus_modes n m tables more (t ∙ sym (places_are n m)))

  -- THEOREM: a sheet with surplus is admitted where the sheet without it is
  pub surplus_admitted : refusal (sheet n m positions tables schedule) ≡ 0 → refusal (sheet n m positions (tables ++ more) (schedule ++ others)) ≡ 0
  unfolding refusal scheduled admitted
  surplus_admitted e =
      let s = sheet n m positions tables schedule in
      let z = (accepted s e).size in
      let p = passes (sized s) (scheduled s) (admitted s) e in
      let size : Sizes (sheet n m positions (tables ++ more) (schedule ++ others)) = record {
        some_events = z.some_events;
        few_events = z.few_events;
        some_modes = z.some_modes;
        few_modes = z.few_modes;
        some_positions = z.some_positions;
        few_positions = z.few_positions;
        long_tables = omega (arith, length-append tables more, z.long_tables);
        long_schedule = omega (arith, length-append schedule others, z.long_schedule);
      } in
      sym (refused_not (sheet n m positions (tables ++ more) (schedule ++ others)) (sized_yes _ size)
      (ap (λ (l : List ℕ). all (λ x. ltb x m) l) (take-append-le positions schedule others (omega arith)) ∙ p.1)
      (ap (λ (l : List ℤ). all admits l) (take-append-le (places n m) tables more (omega arith)) ∙ p.2))
