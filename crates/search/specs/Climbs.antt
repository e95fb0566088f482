-- What the climb and the descent leave, as the code hands it on: a buffer of the work's own holds a circuit, and what that circuit shows.
use Rattle.std.specs.Prelude.{◌≡◌, ◌⊎◌, List, [], ◌++◌, map, ℕ, ◌<◌, length}
use Rattle.theory.specs.Arcs.{Arc, Works}
use Rattle.theory.specs.Circuits.{Above}
use Rattle.theory.specs.Ends.{AtMost, NoneShown}
use Rattle.theory.specs.Found.{Low, Top}
use Rattle.tables.specs.Sheets.{Sheet}
use Rattle.windows.specs.Arcs.{nodes, arcs}
use Rattle.windows.specs.Circuits.{Step, numbers, step_arc, CircuitOf}

module _ (s : Sheet) where
  -- the buffer begins with the arcs of a circuit, or of none
  pub record Held (buffer : List ℕ) (count : ℕ) : Type 0 where
    pub steps : List Step
    pub circuit : (steps ≡ []) ⊎ CircuitOf s steps
    pub counted : length steps ≡ count
    pub rest : List ℕ
    pub starts : buffer ≡ numbers steps ++ rest

  abbrev pub held_arcs : {buffer : List ℕ} {count : ℕ} → Held buffer count → List Arc
  held_arcs held = map (step_arc s) held.steps

  -- the buffer begins with the arcs of a circuit whose total at p/q is above zero
  pub record Beats (p q : ℕ) (buffer : List ℕ) (count : ℕ) : Type 0 where
    pub steps : List Step
    pub circuit : CircuitOf s steps
    pub counted : length steps ≡ count
    pub rest : List ℕ
    pub starts : buffer ≡ numbers steps ++ rest
    pub above : Above p q (map (step_arc s) steps)

  -- something works at p/q or below it
  pub record Over (p q : ℕ) : Type 0 where
    pub top : ℕ
    pub bottom : ℕ
    pub positive : 0 < bottom
    pub works : Works (arcs s) top bottom
    pub below : AtMost top bottom p q

  -- low is top/bottom, and the circuit in the buffer shows it
  pub record LowHeld (buffer : List ℕ) (top bottom count : ℕ) : Type 0 where
    pub held : Held buffer count
    pub low : Low (nodes s) 1000000 s.n (arcs s) top bottom (held_arcs held)

  -- nothing that works is above top/bottom, and the circuit in the buffer shows it
  pub record HighHeld (buffer : List ℕ) (top bottom count : ℕ) : Type 0 where
    pub held : Held buffer count
    pub top_is : Top (nodes s) 1000000 s.n (arcs s) top bottom (held_arcs held)

  -- nothing works, and the first circuit, or both, show it
  pub record NoneHeld (first : List ℕ) (count₁ : ℕ) (second : List ℕ) (count₂ : ℕ) : Type 0 where
    pub held₁ : Held first count₁
    pub held₂ : Held second count₂
    pub shown : NoneShown (arcs s) (held_arcs held₁) (held_arcs held₂)
