-- Walks: joined, and what they say of a plan. A circuit with total above zero refutes every plan.
use mathlib.Core.Path.{◌≡◌, ap}
use mathlib.Core.List.{List, [], ◌∷◌, ◌++◌}
use Prim.Native.Nat.{ℕ, ◌+◌, ◌≤◌}
use native.Mathlib.Omega.{arith}
use Rattle.theory.specs.Arcs.{Arc, rise, fall, Plan}
use Rattle.theory.specs.Circuits.{total, Walk, Refuted}

pub total_append : {A : Type 0} (f : A → ℕ) (c d : List A) → total f (c ++ d) ≡ total f c + total f d
total_append f [] d = omega arith
total_append f (a ∷ c) d = omega (arith, total_append f c d)

module _ (arcs : List Arc) where
  pub walk_append : (c d : List Arc) (u m v : ℕ) → Walk arcs u c m → Walk arcs m d v → Walk arcs u (c ++ d) v
  walk_append [] d u m v h k = rw h k
  walk_append (a ∷ c) d u m v h k = (h.0, h.1, walk_append c d a.arrival m v h.2 k)

module _ (arcs : List Arc) (p q : ℕ) where
  -- along a walk a plan rises by at least its total
  pub walk_rises : (x : ℕ → ℕ) → Plan arcs p q x → (w : List Arc) (u v : ℕ) → Walk arcs u w v → x u + total (rise p q) w ≤ x v + total (fall p q) w
  walk_rises x plan [] u v h = omega (arith, ap x h)
  walk_rises x plan (a ∷ w) u v h = omega (arith, plan a h.0, ap x h.1, walk_rises x plan w a.arrival v h.2)

  -- THEOREM: a refutation refutes every plan
  pub refuted_never : Refuted arcs p q → (x : ℕ → ℕ) → Plan arcs p q x → ⊥
  refuted_never r x plan = omega (arith, r.above, walk_rises x plan r.by r.circuit.node r.circuit.node r.circuit.closed)
