-- Circuits as a call hands them out (document 01, "Circuits"): "An arc is four numbers: kind, position, to, from."
use Rattle.std.specs.Prelude.{◌≡◌, ◌≢◌, List, [], ◌∷◌, map, ℕ, ◌+◌, ◌*◌, ◌≤◌, get_or, ℤ}
use Rattle.theory.specs.Arcs.{Arc}
use Rattle.theory.specs.Circuits.{Circuit, departures, FirstSmallest, Above}
use Rattle.tables.specs.Sheets.{Sheet, no_window}
use Rattle.windows.specs.Windows.{Kind, number, Event, entry, mode}
use Rattle.windows.specs.Arcs.{arc, arcs}

-- An arc of a circuit, as it is named: by its window and its position.
pub record Step : Type 0 where
  pub kind : Kind
  pub position : ℕ
  pub to : ℕ
  pub from : ℕ

-- the four numbers of each arc, one after the other
abbrev pub numbers : List Step → List ℕ
numbers [] = []
numbers (c ∷ rest) = number c.kind ∷ c.position ∷ c.to ∷ c.from ∷ numbers rest

-- The four numbers of the arc at k of a list, from 0, are those of the step c.
pub record Stands (list : List ℕ) (k : ℕ) (c : Step) : Type 0 where
  pub kind : get_or list (4 * k) 0 ≡ number c.kind
  pub position : get_or list (4 * k + 1) 0 ≡ c.position
  pub to : get_or list (4 * k + 2) 0 ≡ c.to
  pub from : get_or list (4 * k + 3) 0 ≡ c.from

module _ (s : Sheet) where
  -- the limit of the step's window
  abbrev pub limit : Step → ℤ
  limit c = entry s (mode s c.position) c.kind c.to c.from

  -- the step's arc
  abbrev pub step_arc : Step → Arc
  step_arc c = arc s c.position c.kind c.to c.from (limit c)

  -- The sheet has the step's window at that position.
  pub record Valid (c : Step) : Type 0 where
    pub from_first : 1 ≤ c.position
    pub to_last : c.position ≤ s.positions
    pub to_event : Event s c.to
    pub from_event : Event s c.from
    pub present : limit c ≢ no_window

  -- It has the windows of all steps.
  abbrev pub AllValid : List Step → Type 0
  AllValid [] = Unit {0}
  AllValid (c ∷ rest) = Valid c × AllValid rest

  -- A circuit of the sheet's arcs, the first leaving the smallest node.
  pub record CircuitOf (cs : List Step) : Type 0 where
    pub valid : AllValid cs
    pub circuit : Circuit (arcs s) (map step_arc cs)
    pub first : FirstSmallest (departures (map step_arc cs))

  -- "a refutation is one with total weight above zero"
  pub record Refutes (p q : ℕ) (cs : List Step) : Type 0 where
    pub circuit : CircuitOf cs
    pub above : Above p q (map step_arc cs)
