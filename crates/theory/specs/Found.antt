-- What is known of an end while it is searched for. These definitions face the search; document 01 has only what it finds (Ends).
use Rattle.std.specs.Prelude.{List, ℕ, ◌*◌, ◌≤◌, ◌<◌}
use Rattle.theory.specs.Arcs.{Arc, Works}
use Rattle.theory.specs.Ends.{AtMost, Lowest, LowShown, HighShown, up_to}

-- every cycle time that works is at least a/b; at most c/d
abbrev pub Least : List Arc → ℕ → ℕ → Type 0
Least arcs a b = (p q : ℕ) → Works arcs p q → AtMost a b p q

abbrev pub Most : List Arc → ℕ → ℕ → Type 0
Most arcs c d = (p q : ℕ) → Works arcs p q → AtMost p q c d

module _ (N B K : ℕ) (arcs : List Arc) where
  -- where the climb stands: nothing that works is below a/b, and the circuit c shows it
  pub record Low (a b : ℕ) (c : List Arc) : Type 0 where
    pub positive : 0 < b
    pub lowest : Lowest a b
    pub small : a ≤ N * B
    pub few : b ≤ K
    pub least : Least arcs a b
    pub shown : LowShown arcs b a c

  -- where the descent stands: nothing that works is above a/b, and the circuit c shows it
  pub record Top (a b : ℕ) (c : List Arc) : Type 0 where
    pub positive : 0 < b
    pub lowest : Lowest a b
    pub small : a ≤ N * B
    pub few : b ≤ K
    pub most : Most arcs a b
    pub shown : HighShown arcs (up_to a b) c
