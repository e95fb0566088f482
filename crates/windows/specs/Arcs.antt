-- Nodes, and each window at each position as one arc (document 01, "Arcs").
use Rattle.std.specs.Prelude.{Bool, true, false, List, [], ◌∷◌, ◌++◌, map, ℕ, zero, suc, pred, ◌+◌, ◌*◌, ◌/◌, ◌%◌, ℤ, pos, negsuc, ◌+ℤ◌}
use Rattle.theory.specs.Arcs.{Arc}
use Rattle.tables.specs.Sheets.{Sheet, absent}
use Rattle.windows.specs.Windows.{Kind, A0, B0, A1, B1, Window, entry, mode}
use Rattle.windows.specs.Inequalities.{Times}

-- A whole number is up - down, one of them 0: how much it lies above 0,
abbrev pub up : ℤ → ℕ
up (pos a) = a
up (negsuc a) = 0

-- and how much below.
abbrev pub down : ℤ → ℕ
down (pos a) = 0
down (negsuc a) = suc a

module _ (s : Sheet) where
  -- "Event i at position h is node (h-1)·n + i": here its place in a buffer of times, which is counted from 0 and so is one less.
  -- After position V comes position 1 again.
  abbrev pub node : ℕ → ℕ → ℕ
  node h i = pred h % s.positions * s.n + pred i

  -- "there are N = V·n nodes"
  abbrev pub nodes : ℕ
  nodes = s.positions * s.n

  -- How many periods have passed at position h: none at positions 1 to V, one at the next V.
  abbrev pub period : ℕ → ℕ
  period h = pred h / s.positions

  -- The times of the nodes, continued over the endless schedule: each period later by p.
  abbrev pub continued : ℕ → (ℕ → ℤ) → Times
  continued p t h i = t (node h i) +ℤ pos (p * period h)

  -- The arc from event j at position g to event i at position h of the endless schedule, with the weight u - d. An event's time is
  -- its node's and a cycle time more for each period passed: an arc that arrives a period later loses p, one that leaves a period later gains p.
  abbrev pub link : ℕ → ℕ → ℕ → ℕ → ℕ → ℕ → Arc
  link g j h i u d = record { departure = node g j; arrival = node h i; up = u; down = d; forth = period g; back = period h }

  -- "Kinds 0 and 2 leave the "from" node and arrive at the "to" node; kinds 1 and 3 leave the "to" node and arrive at the "from" node.
  -- Weights: q·w for 0, -q·w for 1, q·w for 2, -q·w for 3. Where the window crosses the period end (position V), kind 2 loses p and
  -- kind 3 gains p."
  abbrev pub arc : ℕ → Kind → ℕ → ℕ → ℤ → Arc
  arc h A0 i j w = link h j h i (up w) (down w)
  arc h B0 i j w = link h i h j (down w) (up w)
  arc h A1 i j w = link h j (suc h) i (up w) (down w)
  arc h B1 i j w = link (suc h) i h j (down w) (up w)

  -- the arc of a window at position h
  abbrev pub arc_of : ℕ → Window → Arc
  arc_of h a = arc h a.kind a.to a.from a.w

-- ---- the list of arcs

-- 1, 2, .., n
abbrev pub one_to : ℕ → List ℕ
one_to zero = []
one_to (suc n) = one_to n ++ suc n ∷ []

-- The lists f a for each a of a list, joined in its order.
abbrev pub each : {A B : Type 0} → List A → (A → List B) → List B
each [] f = []
each (a ∷ rest) f = f a ++ each rest f

-- the kinds, by their numbers
abbrev pub kinds : List Kind
kinds = A0 ∷ B0 ∷ A1 ∷ B1 ∷ []

-- the window, unless it is "no window"
abbrev pub unless_absent : Bool → Window → List Window
unless_absent true a = []
unless_absent false a = a ∷ []

module _ (s : Sheet) where
  -- what the tables hold for mode t, kind, to and from, as a window, even where it is "no window"
  abbrev pub window : ℕ → Kind → ℕ → ℕ → Window
  window t k i j = record { kind = k; to = i; from = j; w = entry s t k i j }

  -- The windows present in mode t, rising by kind, then to, then from: with all three given,
  abbrev pub window_at : ℕ → Kind → ℕ → ℕ → List Window
  window_at t k i j = unless_absent (absent (entry s t k i j)) (window t k i j)

  -- with kind and to given,
  abbrev pub windows_to : ℕ → Kind → ℕ → List Window
  windows_to t k i = each (one_to s.n) (window_at t k i)

  -- with the kind given,
  abbrev pub windows_of : ℕ → Kind → List Window
  windows_of t k = each (one_to s.n) (windows_to t k)

  -- and all.
  unfoldable pub windows : ℕ → List Window
  windows t = each kinds (windows_of t)

  -- "Each window at each position is one arc": the arcs of position h,
  abbrev pub arcs_at : ℕ → List Arc
  arcs_at h = map (arc_of s h) (windows (mode s h))

  -- and of all positions.
  unfoldable pub arcs : List Arc
  arcs = each (one_to s.positions) arcs_at
