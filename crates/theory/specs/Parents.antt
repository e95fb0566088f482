-- Where each node's time came from: its parent, the arc that raised it last. One row of parents, in place of one row for each round.
use Rattle.std.specs.Prelude.{◌≡◌, List, ℕ, suc, ◌+◌, ◌<◌}
use Rattle.theory.specs.Arcs.{Arc, ◌∈◌, rise, fall, table}

-- Of r rounds, round k+1 was the last that raised v.
pub record Last (arcs : List Arc) (p q r k v : ℕ) : Type 0 where
  pub early : k < r
  pub raised : table arcs p q k v < table arcs p q (suc k) v
  pub kept : table arcs p q r v ≡ table arcs p q (suc k) v

-- The arc a of the list gives v exactly the time n, from the times t.
pub record Gives (arcs : List Arc) (p q : ℕ) (t : ℕ → ℕ) (v n : ℕ) (a : Arc) : Type 0 where
  pub member : a ∈ arcs
  pub arrives : a.arrival ≡ v
  pub exact : n + fall p q a ≡ t a.departure + rise p q a

-- Of r rounds, round k+1 was the last that raised v, and the arc a gave the time.
pub record Parent (arcs : List Arc) (p q r k v : ℕ) (a : Arc) : Type 0 where
  pub last : Last arcs p q r k v
  pub gives : Gives arcs p q (table arcs p q k) v (table arcs p q (suc k) v) a

-- The arc a is the parent of v after r rounds, from whichever round.
abbrev pub Came : List Arc → ℕ → ℕ → ℕ → ℕ → Arc → Type 0
Came arcs p q r v a = (k : ℕ) × Parent arcs p q r k v a

-- Each of the arcs c is the parent of its arrival.
abbrev pub Parents : List Arc → ℕ → ℕ → ℕ → List Arc → Type 0
Parents arcs p q r c = (a : Arc) → a ∈ c → Came arcs p q r a.arrival a

-- The row has the parent of every node whose time is above 0.
abbrev pub Row : List Arc → ℕ → ℕ → ℕ → (ℕ → Arc) → Type 0
Row arcs p q r par = (v : ℕ) → 0 < table arcs p q r v → Came arcs p q r v (par v)
