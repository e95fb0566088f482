-- The arc of a record in numbers is its window's arc at p/q: its nodes are the places of two events, at this position or the next, and its weight is what the
-- window's arc adds and takes away.
use mathlib.Core.Path.{◌≡◌, refl, sym, ap, ◌∙◌}
use mathlib.Core.Bool.{Bool, true, false, cond}
use Prim.Native.Nat.{ℕ, zero, suc, pred, ◌+◌, ◌-◌, ◌*◌, ◌/◌, ◌%◌, ◌≤◌, ◌<◌}
use native.Mathlib.Omega.{arith}
use native.Mathlib.Nat.{mod-eq_of_lt, div-eq_of_lt, mod_self, div_self}
use native.Mathlib.Numerals.{add-one}
use borrow.Author.Tests.{eqb-true, eqb-false}
use lib.Dec.{eqb}
use lib.IntN.{ℤ}
use Rattle.theory.specs.Arcs.{Arc, rise, fall}
use Rattle.tables.specs.Sheets.{Sheet}
use Rattle.windows.specs.Windows.{Kind, A0, B0, A1, B1, Window}
use Rattle.windows.specs.Arcs.{up, down, arc_of}
use Rattle.edges.specs.declared.Edge.{Edge}
use Rattle.edges.specs.Edges.{edge, by_kind, edge_of, edge_at}
use Rattle.edges.proofs.Places.{as_record}

-- an arc at p/q, in numbers
abbrev pub weighed : ℕ → ℕ → Arc → Edge
weighed p q a = edge a.departure a.arrival (rise p q a) (fall p q a)

spot : (x i : ℕ) → 1 ≤ i → x + i - 1 ≡ x + pred i
spot x zero h = absurd (omega arith)
spot x (suc i) h = omega arith

edge_same : (d d' a a' u u' w w' : ℕ) → d ≡ d' → a ≡ a' → u ≡ u' → w ≡ w' → edge d a u w ≡ edge d' a' u' w'
edge_same d d' a a' u u' w w' x y z t = rw (x, y, z, t)

-- where the position g + 1 stands, as the theory counts
record Stood (at next cross n positions p g : ℕ) : Type 0 where
  here : at ≡ g % positions * n
  after : next ≡ suc g % positions * n
  costs : cross ≡ p * (suc g / positions)
  first : g / positions ≡ 0

module _ (n positions p g : ℕ) (h : g < positions) where
  low : g * n ≡ g % positions * n
  low = ap (λ (x : ℕ). x * n) (sym (mod-eq_of_lt h))

  stood_last : suc g ≡ positions → Stood (g * n) 0 p n positions p g
  stood_last last =
      let some : 0 < positions = omega arith in
      let again : suc g % positions ≡ 0 = ap (λ (x : ℕ). x % positions) last ∙ mod_self positions in
      record { here = low; after = rw again (omega arith); costs = omega (arith, ap (λ (x : ℕ). p * x) (ap (λ (x : ℕ). x / positions) last ∙ div_self some)); first = div-eq_of_lt h }

  stood_before : suc g < positions → Stood (g * n) ((g + 1) * n) 0 n positions p g
  stood_before more =
      record { here = low; after = ap (λ (x : ℕ). x * n) (add-one g ∙ sym (mod-eq_of_lt more)); costs = omega (arith, ap (λ (x : ℕ). p * x) (div-eq_of_lt more)); first = div-eq_of_lt h }

module _ (s : Sheet) (p q g at next cross : ℕ) (o : Stood at next cross s.n s.positions p g) where
  here_at : (i : ℕ) → 1 ≤ i → at + i - 1 ≡ g % s.positions * s.n + pred i
  here_at i h = spot at i h ∙ ap (λ (x : ℕ). x + pred i) o.here

  next_at : (i : ℕ) → 1 ≤ i → next + i - 1 ≡ suc g % s.positions * s.n + pred i
  next_at i h = spot next i h ∙ ap (λ (x : ℕ). x + pred i) o.after

  stays : (x : ℕ) → q * x ≡ q * x + p * (g / s.positions)
  stays x = omega (arith, ap (λ (y : ℕ). p * y) o.first)

  crosses : (x : ℕ) → q * x + cross ≡ q * x + p * (suc g / s.positions)
  crosses x = ap (λ (z : ℕ). q * x + z) o.costs

  window_edge : (k : Kind) (i j : ℕ) (w : ℤ) → 1 ≤ i → 1 ≤ j
      → edge_of (as_record (record { kind = k; to = i; from = j; w = w })) q at next cross ≡ weighed p q (arc_of s (suc g) (record { kind = k; to = i; from = j; w = w }))
  unfolding by_kind
  window_edge A0 i j w a b = edge_same _ _ _ _ _ _ _ _ (here_at j b) (here_at i a) (stays (up w)) (stays (down w))
  window_edge B0 i j w a b = edge_same _ _ _ _ _ _ _ _ (here_at i a) (here_at j b) (stays (down w)) (stays (up w))
  window_edge A1 i j w a b = edge_same _ _ _ _ _ _ _ _ (here_at j b) (next_at i a) (stays (up w)) (crosses (down w))
  window_edge B1 i j w a b = edge_same _ _ _ _ _ _ _ _ (next_at i a) (here_at j b) (crosses (down w)) (stays (up w))

-- THEOREM: the arc of a window's record at the position g + 1 is the window's arc there
pub edge_is : (s : Sheet) (p q g : ℕ) → g < s.positions → (a : Window) → 1 ≤ a.to → 1 ≤ a.from → edge_at s.n s.positions p q g (as_record a) ≡ weighed p q (arc_of s (suc g) a)
unfolding edge_at
edge_is s p q g h a to from = go (eqb (g + 1) s.positions) refl
  where
    go : (b : Bool) → eqb (g + 1) s.positions ≡ b → cond b (edge_of (as_record a) q (g * s.n) 0 p) (edge_of (as_record a) q (g * s.n) ((g + 1) * s.n) 0) ≡ weighed p q (arc_of s (suc g) a)
    go true e = window_edge s p q g _ _ _ (stood_last s.n s.positions p g h (omega (arith, eqb-true (g + 1) s.positions e))) a.kind a.to a.from a.w to from
    go false e = let other = eqb-false (g + 1) s.positions e in window_edge s p q g _ _ _ (stood_before s.n s.positions p g h (omega arith)) a.kind a.to a.from a.w to from
