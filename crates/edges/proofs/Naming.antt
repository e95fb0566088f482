-- Where the window that four numbers name stands in the tables, in the code's own numbers.
use mathlib.Core.Path.{◌≡◌, sym, ap, ◌∙◌}
use Prim.Native.Nat.{ℕ, pred, ◌+◌, ◌-◌, ◌*◌, ◌≤◌, ◌<◌}
use native.Mathlib.Omega.{arith}
use native.Mathlib.Nat.{mul-le-mul, mod-eq_of_lt}
use lib.ListN.{get_or, length}
use lib.IntN.{pos}
use Rattle.tables.specs.Sheets.{Sheet, no_window, place}
use Rattle.tables.proofs.Laws.{accepted}
use Rattle.windows.specs.Windows.{mode}
use Rattle.windows.proofs.Limits.{place_below, get_or_any}
use Rattle.edges.specs.Naming.{limit_of, NamesPlace}

products : (a b x y : ℕ) → a ≤ x → b ≤ y → a * b ≤ x * y
products a b x y h k = mul-le-mul h k

pub place_same : (n t t' k k' i i' j j' : ℕ) → t ≡ t' → k ≡ k' → i ≡ i' → j ≡ j' → place n t k i j ≡ place n t' k' i' j'
place_same n t t' k k' i i' j j' a b c d = rw (a, b, c, d)

-- no product of a place's sum is large
pub row_small : (n t kind to : ℕ) → n ≤ 12 → t < 8 → kind < 4 → to ≤ n → (4 * t + kind) * n + (to - 1) ≤ 383
row_small n t kind to few modes kinds last = omega (arith, products (4 * t + kind) n 31 12 (omega arith) few)

pub place_small : (row n from : ℕ) → row ≤ 383 → n ≤ 12 → from ≤ n → row * n + (from - 1) ≤ 4607
place_small row n from small few last = omega (arith, products row n 383 12 small few)

module _ (s : Sheet) (kind position to from : ℕ) (names : NamesPlace s kind position to from) where
  -- the mode at the position
  pub mode_is : get_or s.schedule (position - 1) 0 ≡ mode s position
  mode_is = ap (λ (k : ℕ). get_or s.schedule k 0) (less ∙ sym (mod-eq_of_lt small))
    where
      less : position - 1 ≡ pred position
      less = omega arith

      small : pred position < s.positions
      small = omega (arith, names.from_first, names.to_last)

  -- what is known of the four numbers
  pub record Found : Type 0 where
    pub few_events : s.n ≤ 12
    pub scheduled : position ≤ length s.schedule
    pub mode_below : get_or s.schedule (position - 1) 0 < 8
    pub inside : place s.n (get_or s.schedule (position - 1) 0) kind to from < length s.tables
    pub value : get_or s.tables (place s.n (get_or s.schedule (position - 1) 0) kind to from) (pos 0) ≡ limit_of s kind position to from

  pub named : Found
  named =
      let ok = accepted s names.admitted in
      let below : get_or s.schedule (position - 1) 0 < s.m = ok.modes (position - 1) (omega (arith, names.from_first, names.to_last)) in
      let in_tables = place_below s.n s.m (get_or s.schedule (position - 1) 0) kind to from below (omega (arith, names.few_kinds)) names.to_event.0 names.to_event.1 names.from_event.0 names.from_event.1 in
      let inside : place s.n (get_or s.schedule (position - 1) 0) kind to from < length s.tables = omega (arith, ok.size.long_tables) in
      record {
        few_events = ok.size.few_events;
        scheduled = omega (arith, names.to_last, ok.size.long_schedule);
        mode_below = omega (arith, ok.size.few_modes);
        inside = inside;
        value = get_or_any s.tables _ (pos 0) no_window inside
            ∙ ap (λ (t : ℕ). get_or s.tables (place s.n t kind to from) no_window) mode_is;
      }

  -- the place that the code computes, from what its callees answered
  pub place_is : (h t k i j at : ℕ) → h ≡ position → t ≡ get_or s.schedule (h - 1) 0 → k ≡ kind → i ≡ to → j ≡ from → at ≡ place s.n t k i j
      → (at ≤ 4607) × (at < length s.tables) × (get_or s.tables at (pos 0) ≡ limit_of s kind position to from)
  place_is h t k i j at eh et ek ei ej e =
      let same : t ≡ get_or s.schedule (position - 1) 0 = et ∙ ap (λ (l : ℕ). get_or s.schedule (l - 1) 0) eh in
      let here : at ≡ place s.n (get_or s.schedule (position - 1) 0) kind to from = e ∙ place_same s.n _ _ _ _ _ _ _ _ same ek ei ej in
      let f = named in
      let row = row_small s.n (get_or s.schedule (position - 1) 0) kind to f.few_events f.mode_below names.few_kinds names.to_event.1 in (
        omega (arith, place_small _ s.n from row f.few_events names.from_event.1),
        omega (arith, f.inside),
        ap (λ (l : ℕ). get_or s.tables l (pos 0)) here ∙ f.value,
      )
