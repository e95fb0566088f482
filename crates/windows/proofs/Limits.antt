-- An admitted sheet's windows are within their limits, so its arcs are laid as the theory asks, with limits up to 1,000,000 and n crossings.
use mathlib.Core.Path.{◌≡◌, refl, sym, ap, ◌∙◌}
use mathlib.Core.Logic.{◌≢◌}
use mathlib.Core.Bool.{Bool, true, false, ◌||◌}
use mathlib.Core.List.{List, [], ◌∷◌}
use Prim.Native.Nat.{ℕ, zero, suc, pred, ◌+◌, ◌-◌, ◌*◌, ◌%◌, ◌≤◌, ◌<◌}
use native.Mathlib.Omega.{arith}
use native.Mathlib.Nat.{mod-lt, mul-le-mul_right, mul-le-mul_left}
use borrow.Author.Tests.{leb-true, ltb-true}
use lib.Dec.{leb, ltb}
use lib.ListN.{get_or, length}
use lib.IntN.{ℤ, pos, negsuc}
use Rattle.theory.proofs.Sums.{Laid}
use Rattle.tables.specs.Sheets.{Sheet, no_window, place, places, absent, admits}
use Rattle.tables.specs.Admitted.{Admitted}
use Rattle.tables.proofs.Laws.{absent_is}
use Rattle.windows.specs.Windows.{Kind, A0, B0, A1, B1, number, Window, Has, mode}
use Rattle.windows.specs.Arcs.{up, down, nodes, arcs}
use Rattle.windows.proofs.Laying.{arcs_laid}

pub number_small : (k : Kind) → number k ≤ 3
number_small A0 = omega arith
number_small B0 = omega arith
number_small A1 = omega arith
number_small B1 = omega arith

place_row : (a n to : ℕ) → 1 ≤ to → to ≤ n → a * n + (to - 1) + 1 ≤ (a + 1) * n
place_row a n to first last = omega arith

-- THEOREM: a window's place lies within the tables
pub place_below : (n m t kind to from : ℕ) → t < m → kind ≤ 3 → 1 ≤ to → to ≤ n → 1 ≤ from → from ≤ n → place n t kind to from < places n m
place_below n m t kind to from modes few first last first' last' =
    let row = place_row (4 * t + kind) n to first last in
    let rows : ((4 * t + kind) * n + (to - 1) + 1) * n ≤ (4 * t + kind + 1) * n * n = mul-le-mul_right n row in
    let all : (4 * t + kind + 1) * (n * n) ≤ 4 * m * (n * n) = mul-le-mul_right (n * n) (omega arith) in
    omega arith

-- inside a list the default does not matter
pub get_or_any : {A : Type 0} (l : List A) (i : ℕ) (d e : A) → i < length l → get_or l i d ≡ get_or l i e
get_or_any [] i d e h = absurd (omega arith)
get_or_any (a ∷ l) zero d e h = refl
get_or_any (a ∷ l) (suc i) d e h = get_or_any l i d e (omega arith)

-- an admitted value that is a window is within the limit
pub admits_limit : (v : ℤ) → admits v ≡ true → v ≢ no_window → (up v ≤ 1000000) × (down v ≤ 1000000)
admits_limit (pos a) e some = (go (leb a 1000000) refl e, omega arith)
  where
    go : (b : Bool) → leb a 1000000 ≡ b → (b || false) ≡ true → a ≤ 1000000
    go true t e = leb-true a 1000000 t
    go false t e = let z : ◌≡◌ {A = ℕ} 0 1 = cc in absurd (omega arith)
admits_limit (negsuc a) e some = (omega arith, go (ltb a 1000000) refl e)
  where
    go : (b : Bool) → ltb a 1000000 ≡ b → (b || absent (negsuc a)) ≡ true → suc a ≤ 1000000
    go true t e = ltb-true a 1000000 t
    go false t e = absurd (some (absent_is (negsuc a) e))

module _ (s : Sheet) (ok : Admitted s) where
  -- the mode at a position is below m
  pub mode_below : (h : ℕ) → mode s h < s.m
  mode_below h = ok.modes (pred h % s.positions) (mod-lt (pred h) ok.size.some_positions)

  pub window_small : (h : ℕ) → 1 ≤ h → h ≤ s.positions → (a : Window) → Has s (mode s h) a → (up a.w ≤ 1000000) × (down a.w ≤ 1000000)
  window_small h first last a has =
      let k = place s.n (mode s h) (number a.kind) a.to a.from in
      let below : k < places s.n s.m = place_below s.n s.m (mode s h) (number a.kind) a.to a.from (mode_below h) (number_small a.kind) has.to_event.0 has.to_event.1 has.from_event.0 has.from_event.1 in
      let same : get_or s.tables k (pos 0) ≡ a.w = get_or_any s.tables k (pos 0) no_window (omega (arith, ok.size.long_tables)) ∙ has.stands in
      admits_limit a.w (ap admits (sym same) ∙ ok.values k below) has.present

  -- THEOREM: an admitted sheet's arcs run between its N nodes, with limits up to 1,000,000, and leave at most n nodes across the period's end
  pub sheet_laid : Laid (nodes s) 1000000 s.n (arcs s)
  sheet_laid = arcs_laid s ok.size.some_positions 1000000 window_small

  -- there are at most 192 nodes
  pub nodes_few : nodes s ≤ 192
  nodes_few = omega (arith, mul-le-mul_right s.n ok.size.few_positions, mul-le-mul_left 16 ok.size.few_events)
