-- How long the lines are, whatever the numbers in them.
use mathlib.Core.Path.{◌≡◌}
use mathlib.Core.List.{List, [], ◌∷◌}
use Prim.Native.Nat.{ℕ, ◌+◌, ◌≤◌}
use native.Mathlib.Omega.{arith}
use lib.ListN.{length, length-append}
use Rattle.text.specs.Text.{decimal, feed}
use Rattle.text.proofs.Values.{decimal_most}
use Rattle.theory.specs.Ends.{High, open_end, up_to}
use Rattle.lines.specs.Lines.{following, line, fraction, high_spelled}

-- a line of one, two, three and four words
pub line_one : (a : List ℕ) → length (line a []) ≡ length a + 1
line_one a = length-append a (feed ∷ [])

pub following_length : (a : List ℕ) (rest : List (List ℕ)) → length (following (a ∷ rest)) ≡ 1 + length a + length (following rest)
following_length a rest = omega (arith, length-append a (following rest))

pub line_two : (a b : List ℕ) → length (line a (b ∷ [])) ≡ length a + length b + 2
line_two a b = omega (arith, length-append a (following (b ∷ [])), following_length b [])

pub line_three : (a b c : List ℕ) → length (line a (b ∷ c ∷ [])) ≡ length a + length b + length c + 3
line_three a b c = omega (arith, length-append a (following (b ∷ c ∷ [])), following_length b (c ∷ []), following_length c [])

pub line_four : (a b c d : List ℕ) → length (line a (b ∷ c ∷ d ∷ [])) ≡ length a + length b + length c + length d + 4
line_four a b c d =
    omega (arith, length-append a (following (b ∷ c ∷ d ∷ [])), following_length b (c ∷ d ∷ []), following_length c (d ∷ []), following_length d [])

pub fraction_most : (top bottom : ℕ) → length (fraction top bottom) ≤ 41
fraction_most top bottom = omega (arith, length-append (decimal top) (47 ∷ decimal bottom), decimal_most top, decimal_most bottom)

pub high_most : (high : High) → length (high_spelled high) ≤ 41
high_most open_end = omega arith
high_most (up_to top bottom) = fraction_most top bottom
