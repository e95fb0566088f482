-- Numbers in groups, one after the other: the laws of `in_groups`.
use mathlib.Core.Path.{◌≡◌, refl, sym, ap, ◌∙◌}
use mathlib.Core.List.{List, [], ◌∷◌, ◌++◌, append_assoc}
use Prim.Native.Nat.{ℕ, ◌*◌, ◌≤◌}
use native.Mathlib.Omega.{arith}
use lib.ListN.{length, length-append}
use Rattle.numbers.specs.Groups.{groups}
use Rattle.numbers.proofs.Writing.{few_groups}
use Rattle.sheet.specs.Written.{in_groups}

pub in_groups_append : (a b : List ℕ) → in_groups (a ++ b) ≡ in_groups a ++ in_groups b
unfolding in_groups
in_groups_append [] b = refl
in_groups_append (v ∷ a) b = ap (λ (l : List ℕ). groups v ++ l) (in_groups_append a b) ∙ sym (append_assoc (groups v) (in_groups a) (in_groups b))

-- no more than four bytes a number
pub in_groups_few : (a : List ℕ) → length (in_groups a) ≤ 4 * length a
unfolding in_groups
in_groups_few [] = omega arith
in_groups_few (v ∷ a) = omega (arith, length-append (groups v) (in_groups a), (few_groups v).1, in_groups_few a)
