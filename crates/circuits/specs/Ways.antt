-- The way back along the row of marks, and the circuit written from it. These definitions face the code: they speak of lists of numbers,
-- marks and places, and not of times. proofs/Circuits ties them to the circuits of a sheet.
use Rattle.std.specs.Prelude.{◌≡◌, Bool, false, List, [], ◌∷◌, ◌++◌, ℕ, zero, suc, ◌+◌, ◌*◌, ◌/◌, ◌%◌, ◌≤◌, ◌<◌, length, get_or}
use Rattle.std.proofs.lemmas.List.Edits.{sets}
use Rattle.theory.specs.Backs.{back, Returns}
use Rattle.circuits.specs.declared.Places.{Places}

-- one step back from v: to the node that the arc which its mark names leaves
abbrev pub before : List ℕ → ℕ → ℕ
before row v = get_or row v 0 / 8

-- there is room for a mark of each of the N nodes
pub record Rowed (row : List ℕ) (n positions : ℕ) : Type 0 where
  pub some : 0 < n
  pub few : positions * n ≤ 192
  pub long : positions * n ≤ length row

-- N steps back from v stay among the N nodes
pub record Led (row : List ℕ) (n positions v : ℕ) : Type 0 where
  pub rowed : Rowed row n positions
  pub inside : (j : ℕ) → j ≤ positions * n → back (before row) v j < positions * n

-- and so do as many steps back from u as one likes
pub record Sound (row : List ℕ) (n positions u : ℕ) : Type 0 where
  pub rowed : Rowed row n positions
  pub inside : (j : ℕ) → back (before row) u j < positions * n

-- no node has been seen
pub record Unseen (n positions : ℕ) (seen : List Bool) : Type 0 where
  pub room : positions * n ≤ length seen
  pub none : (x : ℕ) → get_or seen x false ≡ false

-- u is on the way back from v, which returns to it: all within N steps
pub record Met (row : List ℕ) (n positions v u : ℕ) : Type 0 where
  pub steps : ℕ
  pub count : ℕ
  pub within : steps + count ≤ positions * n
  pub there : back (before row) v steps ≡ u
  pub returns : Returns (before row) u count

-- the way back from u returns after `count` steps, and of the nodes that it comes to `least` is the smallest
pub record Rounded (step : ℕ → ℕ) (u least count : ℕ) : Type 0 where
  pub returns : Returns step u count
  pub at : ℕ
  pub below : at < count
  pub there : back step u at ≡ least
  pub smallest : (j : ℕ) → j < count → least ≤ back step u j

-- where the position, the "to" and the "from" stand
abbrev pub at : ℕ → ℕ → ℕ → Places
at here to from = record { here = here; to = to; from = from }

-- of an arc of a kind from u to v; a number past 3 has none
unfoldable pub places_of : ℕ → ℕ → ℕ → Places
places_of zero u v = at v v u
places_of (suc zero) u v = at v u v
places_of (suc (suc zero)) u v = at u v u
places_of (suc (suc (suc zero))) u v = at v u v
places_of (suc (suc (suc (suc k)))) u v = at 0 0 0

-- "An arc is four numbers: kind, position, to, from": those of the marked arc that arrives at v
abbrev pub quad : ℕ → ℕ → ℕ → List ℕ
quad n v mark = let e = places_of (mark % 8) (mark / 8) v in (mark % 8) ∷ (e.here / n + 1) ∷ (e.to % n + 1) ∷ (e.from % n + 1) ∷ []

-- the four numbers of the arcs of `count` steps back from s, in order of travel
unfoldable pub written : List ℕ → ℕ → ℕ → ℕ → List ℕ
written row n s zero = []
written row n s (suc j) = let v = back (before row) s j in quad n v (get_or row v 0) ++ written row n s j

-- The arcs of a circuit on the way back from v are written, from its smallest node on; there are `count` of them.
pub record Traced (row : List ℕ) (n positions v : ℕ) (old new : List ℕ) (count : ℕ) : Type 0 where
  pub node : ℕ
  pub short : count ≤ positions * n
  pub on : (j : ℕ) → j < count → (i : ℕ) × (i < positions * n) × (back (before row) v i ≡ back (before row) node j)
  pub returns : Returns (before row) node count
  pub smallest : (j : ℕ) → j < count → node ≤ back (before row) node j
  pub written_is : new ≡ sets old 0 (written row n node count)
