-- Circuits (document 01, "Circuits").
use Rattle.std.specs.Prelude.{ℕ, ◌+◌, ◌≤◌, ◌<◌, ◌≡◌, ◌≢◌, List, [], ◌∷◌, length}
use Rattle.theory.specs.Arcs.{Arc, ◌∈◌, rise, fall}

-- The number is none of the list.
abbrev pub Fresh : ℕ → List ℕ → Type 0
Fresh n [] = Unit {0}
Fresh n (x ∷ xs) = (n ≢ x) × Fresh n xs

-- No number stands in the list twice.
abbrev pub Distinct : List ℕ → Type 0
Distinct [] = Unit {0}
Distinct (x ∷ xs) = Fresh x xs × Distinct xs

-- The sum of f over the list.
abbrev pub total : {A : Type 0} → (A → ℕ) → List A → ℕ
total f [] = 0
total f (a ∷ rest) = f a + total f rest

-- Arcs of the list from node u to node v, "each leaving where the one before arrived".
abbrev pub Walk : List Arc → ℕ → List Arc → ℕ → Type 0
Walk arcs u [] v = u ≡ v
Walk arcs u (a ∷ w) v = (a ∈ arcs) × (a.departure ≡ u) × Walk arcs a.arrival w v

-- The nodes that the arcs leave.
abbrev pub departures : List Arc → List ℕ
departures [] = []
departures (a ∷ w) = a.departure ∷ departures w

-- "A circuit is a list of arcs, each leaving where the one before arrived, closed, no node left twice."
pub record Circuit (arcs : List Arc) (c : List Arc) : Type 0 where
  pub node : ℕ
  pub closed : Walk arcs node c node
  pub nonempty : 0 < length c
  pub distinct : Distinct (departures c)

-- "The first arc leaves the smallest node": the first of the nodes is at most each other.
abbrev pub Smallest : ℕ → List ℕ → Type 0
Smallest v [] = Unit {0}
Smallest v (u ∷ rest) = (v ≤ u) × Smallest v rest

abbrev pub FirstSmallest : List ℕ → Type 0
FirstSmallest [] = Unit {0}
FirstSmallest (v ∷ rest) = Smallest v rest

-- The total weight at p/q is above zero; is at most zero; is zero.
abbrev pub Above : ℕ → ℕ → List Arc → Type 0
Above p q c = total (fall p q) c < total (rise p q) c

abbrev pub Fits : ℕ → ℕ → List Arc → Type 0
Fits p q c = total (rise p q) c ≤ total (fall p q) c

abbrev pub Zero : ℕ → ℕ → List Arc → Type 0
Zero p q c = total (rise p q) c ≡ total (fall p q) c

-- "a refutation is one with total weight above zero"
pub record Refuted (arcs : List Arc) (p q : ℕ) : Type 0 where
  pub by : List Arc
  pub circuit : Circuit arcs by
  pub above : Above p q by

-- "a circuit's total with q = 1 is W + c·(cycle time)": W is ups - downs, c is forths - backs.
abbrev pub ups : List Arc → ℕ
ups c = total (λ a. a.up) c

abbrev pub downs : List Arc → ℕ
downs c = total (λ a. a.down) c

abbrev pub forths : List Arc → ℕ
forths c = total (λ a. a.forth) c

abbrev pub backs : List Arc → ℕ
backs c = total (λ a. a.back) c

-- c is below 0; is above 0; is at least 0. W is above 0.
abbrev pub Falling : List Arc → Type 0
Falling c = forths c < backs c

abbrev pub Climbing : List Arc → Type 0
Climbing c = backs c < forths c

abbrev pub Level : List Arc → Type 0
Level c = backs c ≤ forths c

abbrev pub Gaining : List Arc → Type 0
Gaining c = downs c < ups c
