-- A list of proposed arcs as the code reads it: four numbers an arc, whatever these are (document 02, E2). These definitions face the code; proofs/ ties them to
-- the steps of a sheet and to their arcs.
use Rattle.std.specs.Prelude.{◌≡◌, ◌≢◌, Bool, true, false, ◌&&◌, not, List, map, ℕ, suc, ◌-◌, ◌<◌, ltb, ℤ, Option, Some, None}
use Rattle.theory.specs.Arcs.{Arc}
use Rattle.tables.specs.Sheets.{Sheet, within, absent}
use Rattle.windows.specs.Circuits.{Step, step_arc}
use Rattle.edges.specs.declared.Edge.{Edge}
use Rattle.edges.specs.Edges.{edge_at}
use Rattle.edges.specs.Naming.{four_at, limit_of}
use Rattle.calls.specs.ProposedArcs.{count, Good, FirstBad, Sound}
use Rattle.edges.specs.declared.Four.{Four}

-- ---- four numbers

-- they are those of a kind, a position and two events
abbrev pub named : ℕ → ℕ → Four → Bool
named n positions a = ltb a.kind 4 && within positions a.position && within n a.to && within n a.from

-- the limit that the tables hold for them
abbrev pub limit_at : Sheet → Four → ℤ
limit_at s a = limit_of s a.kind a.position a.to a.from

-- the sheet has the window that they name
abbrev pub present : Sheet → Four → Bool
present s a = named s.n s.positions a && not (absent (limit_at s a))

-- its arc at p/q, in numbers
abbrev pub edge_for : Sheet → ℕ → ℕ → Four → Edge
edge_for s p q a = edge_at s.n s.positions p q (a.position - 1) (record { kind = a.kind; to = a.to; from = a.from; w = limit_at s a })

-- that of the arc at k of a list
abbrev pub edge_in : Sheet → ℕ → ℕ → List ℕ → ℕ → Edge
edge_in s p q list k = edge_for s p q (four_at list k)

-- the arc after the one at k leaves where that arrives
abbrev pub Follows : Sheet → ℕ → ℕ → List ℕ → ℕ → Type 0
Follows s p q list k = (edge_in s p q list (suc k)).departure ≡ (edge_in s p q list k).arrival

-- ---- what the tests say

-- the test tells whether it is so
abbrev pub Tells : Type 0 → Bool → Type 0
Tells So true = So
Tells So false = So → ⊥

-- what is found: the first bad arc, or none where none is bad
abbrev pub Searched : Sheet → List ℕ → Option ℕ → Type 0
Searched s list (Some k) = FirstBad s list k
Searched s list None = (k : ℕ) → k < count list → Good s list k

-- no arc before the one at k leaves the same node
abbrev pub Apart : Sheet → ℕ → ℕ → List ℕ → ℕ → Type 0
Apart s p q list k = (i : ℕ) → i < k → (edge_in s p q list i).departure ≢ (edge_in s p q list k).departure

-- the test tells whether it is so of the arcs that the list is the numbers of
abbrev pub TellsOf : Sheet → List ℕ → (List Arc → Type 0) → Bool → Type 0
TellsOf s list So r = (steps : List Step) → Sound s list steps → Tells (So (map (step_arc s) steps)) r
