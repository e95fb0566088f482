-- The arcs of a sheet are laid as the theory of circuits asks: between its N nodes, with limits up to B, and crossing the period's end
-- only from the n nodes of the last position (kind 2) and of the first (kind 3).
use mathlib.Core.Path.{◌≡◌, ap, ◌∙◌}
use Prim.Native.Nat.{ℕ, zero, suc, pred, ◌+◌, ◌-◌, ◌*◌, ◌/◌, ◌%◌, ◌≤◌, ◌<◌}
use native.Mathlib.Omega.{arith}
use native.Mathlib.Nat.{mod-lt, mod_self, mod-eq_of_lt, div-eq_of_lt, div_self, mul-le-mul_right}
use native.Mathlib.Decide.{dec_lt}
use lib.IntN.{ℤ}
use Rattle.theory.specs.Arcs.{Arc, ◌∈◌, Within}
use Rattle.theory.proofs.Sums.{Slots, Laid}
use Rattle.tables.specs.Sheets.{Sheet}
use Rattle.windows.specs.Windows.{Kind, A0, B0, A1, B1, Window, Event, Has, mode}
use Rattle.windows.specs.Arcs.{up, down, node, nodes, link, arc, arcs}
use Rattle.windows.proofs.Listed.{arcs_of_lem}

module _ (s : Sheet) (some : 0 < s.positions) where
  pub node_inside : (h i : ℕ) → Event s i → node s h i < nodes s
  node_inside h i event = omega (arith, mul-le-mul_right {m = suc (pred h % s.positions)} {n = s.positions} s.n (mod-lt (pred h) some))

  arc_inside : (h : ℕ) (k : Kind) (i j : ℕ) → Event s i → Event s j → (w : ℤ) → ((arc s h k i j w).departure < nodes s) × ((arc s h k i j w).arrival < nodes s)
  arc_inside h A0 i j a b w = (node_inside h j b, node_inside h i a)
  arc_inside h B0 i j a b w = (node_inside h i a, node_inside h j b)
  arc_inside h A1 i j a b w = (node_inside h j b, node_inside (suc h) i a)
  arc_inside h B1 i j a b w = (node_inside (suc h) i a, node_inside h j b)

  pub arcs_within : Within (nodes s) (arcs s)
  arcs_within c m =
      let o = arcs_of_lem s c m in
      rw (← o.is) (arc_inside o.position o.of.kind o.of.to o.of.from o.has.to_event o.has.from_event o.of.w)

  -- what crosses, of one arc: back from the last position, forth from the first
  record Crosses (B : ℕ) (a : Arc) : Type 0 where
    small : (a.up ≤ B) × (a.down ≤ B)
    ones : (a.back ≤ 1) × (a.forth ≤ 1)
    back_last : 0 < a.back → pred s.positions * s.n ≤ a.departure
    forth_first : 0 < a.forth → a.departure < s.n

  -- the position after suc g is in the first period, or is the first of the next
  first_again : (g : ℕ) → g < s.positions → (suc g / s.positions ≤ 1) × (0 < suc g / s.positions → (pred s.positions ≡ g) × (suc g % s.positions ≡ 0))
  first_again g small =
      elim (dec_lt (suc g) s.positions) [
        | yes l ↦ (omega (arith, div-eq_of_lt l), λ above. absurd (omega (arith, div-eq_of_lt l)))
        | no l ↦
            let last : suc g ≡ s.positions = omega arith in
            (omega (arith, ap (λ (r : ℕ). r / s.positions) last, div_self some), λ above. (omega arith, ap (λ (r : ℕ). r % s.positions) last ∙ mod_self s.positions))
      ]

  module _ (B g : ℕ) (small : g < s.positions) (i j u d : ℕ) (high : u ≤ B) (low : d ≤ B) where
    stays : Crosses B (link s (suc g) j (suc g) i u d)
    stays =
        record {
          small = (high, low);
          ones = (omega (arith, div-eq_of_lt small), omega (arith, div-eq_of_lt small));
          back_last = λ above. absurd (omega (arith, div-eq_of_lt small));
          forth_first = λ above. absurd (omega (arith, div-eq_of_lt small));
        }

    onward : Crosses B (link s (suc g) j (suc (suc g)) i u d)
    onward =
        record {
          small = (high, low);
          ones = ((first_again g small).0, omega (arith, div-eq_of_lt small));
          back_last = λ above. rw (mod-eq_of_lt small, ((first_again g small).1 above).0) (omega arith);
          forth_first = λ above. absurd (omega (arith, div-eq_of_lt small));
        }

    backward : Event s i → Crosses B (link s (suc (suc g)) i (suc g) j u d)
    backward event =
        record {
          small = (high, low);
          ones = (omega (arith, div-eq_of_lt small), (first_again g small).0);
          back_last = λ above. absurd (omega (arith, div-eq_of_lt small));
          forth_first = λ above. rw ((first_again g small).1 above).1 (omega arith);
        }

  crosses : (B h : ℕ) → 1 ≤ h → h ≤ s.positions → (k : Kind) (i j : ℕ) → Event s i → (w : ℤ) → up w ≤ B → down w ≤ B → Crosses B (arc s h k i j w)
  crosses B zero first last k i j a w u d = absurd (omega arith)
  crosses B (suc g) first last A0 i j a w u d = stays B g last i j (up w) (down w) u d
  crosses B (suc g) first last B0 i j a w u d = stays B g last j i (down w) (up w) d u
  crosses B (suc g) first last A1 i j a w u d = onward B g last i j (up w) (down w) u d
  crosses B (suc g) first last B1 i j a w u d = backward B g last i j (down w) (up w) d u a

  module _ (B : ℕ) (bounded : (h : ℕ) → 1 ≤ h → h ≤ s.positions → (a : Window) → Has s (mode s h) a → (up a.w ≤ B) × (down a.w ≤ B)) where
    each_crosses : (c : Arc) → c ∈ arcs s → Crosses B c
    each_crosses c m =
        let o = arcs_of_lem s c m in
        let b = bounded o.position o.from_first o.to_last o.of o.has in
        rw (← o.is) (crosses B o.position o.from_first o.to_last o.of.kind o.of.to o.of.from o.has.to_event o.of.w b.0 b.1)

    last_range : (h n v : ℕ) → 0 < h → v < h * n → v < pred h * n + n
    last_range zero n v p h = omega arith
    last_range (suc h) n v p l = omega arith

    back_slots : Slots (λ a. a.back) s.n (arcs s)
    back_slots =
        record {
          slot = λ v. v - pred s.positions * s.n;
          one = λ a m. (each_crosses a m).ones.0;
          few = λ a m pos. omega (arith, (each_crosses a m).back_last pos, last_range s.positions s.n a.departure some (arcs_within a m).0);
          apart = λ a b m m' pos pos' same. omega (arith, (each_crosses a m).back_last pos, (each_crosses b m').back_last pos');
        }

    forth_slots : Slots (λ a. a.forth) s.n (arcs s)
    forth_slots =
        record {
          slot = λ v. v;
          one = λ a m. (each_crosses a m).ones.1;
          few = λ a m pos. (each_crosses a m).forth_first pos;
          apart = λ a b m m' pos pos' same. same;
        }

    -- THEOREM: with limits up to B the arcs are laid as the theory of ends asks
    pub arcs_laid : Laid (nodes s) B s.n (arcs s)
    arcs_laid =
        record {
          within = arcs_within;
          ups_small = λ a m. (each_crosses a m).small.0;
          downs_small = λ a m. (each_crosses a m).small.1;
          back_slots = back_slots;
          forth_slots = forth_slots;
        }
