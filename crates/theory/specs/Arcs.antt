-- Arcs, plans and tables of rounds (document 01, "Arcs" and "Rounds").
-- A node is named by its place in a buffer of times, from 0: document 01's node, less 1.
use Rattle.std.specs.Prelude.{ℕ, zero, suc, ◌+◌, ◌-◌, ◌*◌, ◌≤◌, ◌<◌, max, ◌≡◌}
use mathlib.Core.List.{List, [], ◌∷◌, Memᴰ}
use Rattle.std.proofs.Math.Decide.{ℕ_discrete}

infix 4 ◌∈◌
-- "time at arrival is at least time at departure plus weight". The weight is up - down, and forth - back cycle times more.
-- All four are natural numbers, so that a weight of either sign is a difference of two of them.
pub record Arc : Type 0 where
  pub departure : ℕ
  pub arrival : ℕ
  pub up : ℕ
  pub down : ℕ
  pub forth : ℕ
  pub back : ℕ

abbrev pub ◌∈◌ : Arc → List Arc → Type 0
a ∈ arcs = Memᴰ a arcs

-- What the arc adds at the cycle time p/q, in steps of 1/q: "each limit w becomes q·w and the cycle time becomes p".
abbrev pub rise : ℕ → ℕ → Arc → ℕ
rise p q a = q * a.up + p * a.forth

-- What it takes away.
abbrev pub fall : ℕ → ℕ → Arc → ℕ
fall p q a = q * a.down + p * a.back

-- The times x keep the arc.
abbrev pub Holds : ℕ → ℕ → (ℕ → ℕ) → Arc → Type 0
Holds p q x a = x a.departure + rise p q a ≤ x a.arrival + fall p q a

-- The times x keep every arc: a plan.
abbrev pub Plan : List Arc → ℕ → ℕ → (ℕ → ℕ) → Type 0
Plan arcs p q x = (a : Arc) → a ∈ arcs → Holds p q x a

-- A plan exists at the cycle time p/q.
abbrev pub Works : List Arc → ℕ → ℕ → Type 0
Works arcs p q = (x : ℕ → ℕ) × Plan arcs p q x

-- "table r at departure plus weight". A demand below 0 is cut off at 0, which no table is below.
abbrev pub demand : ℕ → ℕ → (ℕ → ℕ) → Arc → ℕ
demand p q t a = (t a.departure + rise p q a) - fall p q a

-- n where the condition holds, and 0 elsewhere
abbrev pub only : {A : Type 0} → Dec A → ℕ → ℕ
only (yes p) n = n
only (no p) n = 0

-- "the largest (table r at departure plus weight) over arcs arriving" at the node v, and 0 where none arrives
unfoldable pub most : List Arc → ℕ → ℕ → (ℕ → ℕ) → ℕ → ℕ
unfolding ℕ_discrete
most [] p q t v = 0
most (a ∷ rest) p q t v = max (only (ℕ_discrete a.arrival v) (demand p q t a)) (most rest p q t v)

-- "Table 0 is all zeros. Table r+1 holds, at each node, the larger of table r there and the largest (table r at departure
-- plus weight) over arcs arriving. Every round reads only the table before it."
unfoldable pub table : List Arc → ℕ → ℕ → ℕ → ℕ → ℕ
table arcs p q zero v = 0
table arcs p q (suc r) v = max (table arcs p q r v) (most arcs p q (table arcs p q r) v)

-- Table r+1 is equal to table r, at each of N nodes.
abbrev pub Still : List Arc → ℕ → ℕ → ℕ → ℕ → Type 0
Still arcs p q N r = (v : ℕ) → v < N → table arcs p q (suc r) v ≡ table arcs p q r v

-- "The rounds reported on acceptance are the least r with table r+1 equal to table r."
pub record Rounds (arcs : List Arc) (p q N r : ℕ) : Type 0 where
  pub still : Still arcs p q N r
  pub least : (k : ℕ) → Still arcs p q N k → r ≤ k

-- Every arc runs between nodes below N.
abbrev pub Within : ℕ → List Arc → Type 0
Within N arcs = (a : Arc) → a ∈ arcs → (a.departure < N) × (a.arrival < N)
