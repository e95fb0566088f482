-- The way back along a row, one step for each node: where it meets a node again it has gone round a circuit.
use Rattle.std.specs.Prelude.{◌≡◌, ◌≢◌, List, [], ◌∷◌, ℕ, zero, suc, ◌<◌}
use Rattle.theory.specs.Arcs.{Arc}
use Rattle.theory.specs.Parents.{Came}

-- j steps back from u, where one step back from v leads to `before v`
unfoldable pub back : (ℕ → ℕ) → ℕ → ℕ → ℕ
back before u zero = u
back before u (suc j) = before (back before u j)

-- what a row has at the nodes of those steps, in order of travel: from j steps back to u
unfoldable pub trail : {A : Type 0} → (ℕ → A) → (ℕ → ℕ) → ℕ → ℕ → List A
trail row before u zero = []
trail row before u (suc j) = row (back before u j) ∷ trail row before u j

-- The way back from u returns to u after k steps, and not before.
pub record Returns (before : ℕ → ℕ) (u k : ℕ) : Type 0 where
  pub some : 0 < k
  pub closed : back before u k ≡ u
  pub first : (j : ℕ) → 0 < j → j < k → back before u j ≢ u

-- ---- along a row of arcs

-- one step back along the row: to where its arc at the node departs
abbrev pub leaving : (ℕ → Arc) → ℕ → ℕ
leaving par v = (par v).departure

-- The row's arcs at the first k nodes of the way back from u are the parents of those nodes, after r rounds.
abbrev pub Follows : List Arc → ℕ → ℕ → ℕ → (ℕ → Arc) → ℕ → ℕ → Type 0
Follows arcs p q r par u k = (j : ℕ) → j < k → Came arcs p q r (back (leaving par) u j) (par (back (leaving par) u j))
