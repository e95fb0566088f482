-- Four numbers stand for each arc: those of the arc k stand from 4k on.
use mathlib.Core.Path.{◌≡◌, refl, ap, ◌∙◌}
use mathlib.Core.List.{List, [], ◌∷◌, ◌++◌}
use Prim.Native.Nat.{ℕ, zero, suc, ◌+◌, ◌*◌, ◌<◌}
use native.Mathlib.Omega.{arith}
use lib.ListN.{get_or, length}
use Rattle.windows.specs.Windows.{number}
use Rattle.windows.specs.Circuits.{Step, numbers, Stands}

pub numbers_length : (cs : List Step) → length (numbers cs) ≡ 4 * length cs
numbers_length [] = refl
numbers_length (c ∷ cs) = omega (arith, numbers_length cs)

-- THEOREM: the arc at k is the one that was written there
pub numbers_at : (cs : List Step) (rest : List ℕ) (k : ℕ) (d : Step) → k < length cs → Stands (numbers cs ++ rest) k (get_or cs k d)
numbers_at [] rest k d h = absurd (omega arith)
numbers_at (c ∷ cs) rest zero d h = record { kind = refl; position = refl; to = refl; from = refl }
numbers_at (c ∷ cs) rest (suc k) d h =
    let l = numbers cs ++ rest in
    let more = numbers_at cs rest k d (omega arith) in
    record {
      kind = further l (4 * suc k) (4 * k) (omega arith) ∙ more.kind;
      position = further l (4 * suc k + 1) (4 * k + 1) (omega arith) ∙ more.position;
      to = further l (4 * suc k + 2) (4 * k + 2) (omega arith) ∙ more.to;
      from = further l (4 * suc k + 3) (4 * k + 3) (omega arith) ∙ more.from;
    }
  where
    further : (l : List ℕ) (j i : ℕ) → j ≡ suc (suc (suc (suc i))) → get_or (number c.kind ∷ c.position ∷ c.to ∷ c.from ∷ l) j 0 ≡ get_or l i 0
    further l j i e = ap (λ (x : ℕ). get_or (number c.kind ∷ c.position ∷ c.to ∷ c.from ∷ l) x 0) e
