-- The lines of a report (document 01, "The report"): its words are fixed byte strings, "Words and numbers are parted by one space" and
-- "Each line ends in one line feed".
use Rattle.std.specs.Prelude.{List, [], ◌∷◌, ◌++◌, map, ℕ, get_or, length}
use Rattle.text.specs.Text.{decimal, space, feed}
use Rattle.theory.specs.Ends.{High, open_end, up_to}
use Rattle.tables.specs.Sheets.{Sheet}
use Rattle.windows.specs.Windows.{number}
use Rattle.windows.specs.Arcs.{node, one_to, each}
use Rattle.windows.specs.Circuits.{Step}

-- "ends"
abbrev pub ends_word : List ℕ
ends_word = 101 ∷ 110 ∷ 100 ∷ 115 ∷ []

-- "open"
abbrev pub open_word : List ℕ
open_word = 111 ∷ 112 ∷ 101 ∷ 110 ∷ []

-- "low"
abbrev pub low_word : List ℕ
low_word = 108 ∷ 111 ∷ 119 ∷ []

-- "high"
abbrev pub high_word : List ℕ
high_word = 104 ∷ 105 ∷ 103 ∷ 104 ∷ []

-- "plan"
abbrev pub plan_word : List ℕ
plan_word = 112 ∷ 108 ∷ 97 ∷ 110 ∷ []

-- "none"
abbrev pub none_word : List ℕ
none_word = 110 ∷ 111 ∷ 110 ∷ 101 ∷ []

-- "first"
abbrev pub first_word : List ℕ
first_word = 102 ∷ 105 ∷ 114 ∷ 115 ∷ 116 ∷ []

-- "second"
abbrev pub second_word : List ℕ
second_word = 115 ∷ 101 ∷ 99 ∷ 111 ∷ 110 ∷ 100 ∷ []

-- "refused"
abbrev pub refused_word : List ℕ
refused_word = 114 ∷ 101 ∷ 102 ∷ 117 ∷ 115 ∷ 101 ∷ 100 ∷ []

-- the words after the first, each with the space before it, and the line feed
abbrev pub following : List (List ℕ) → List ℕ
following [] = feed ∷ []
following (word ∷ rest) = space ∷ word ++ following rest

-- a line that begins with a word
abbrev pub line : List ℕ → List (List ℕ) → List ℕ
line first rest = first ++ following rest

-- a fraction, as 5/1
abbrev pub fraction : ℕ → ℕ → List ℕ
fraction top bottom = decimal top ++ 47 ∷ decimal bottom

-- high, as a fraction or "open"
abbrev pub high_spelled : High → List ℕ
high_spelled open_end = open_word
high_spelled (up_to top bottom) = fraction top bottom

-- "one arc a line (kind, position, to, from)"
abbrev pub arc_line : Step → List ℕ
arc_line a = line (decimal (number a.kind)) (decimal a.position ∷ decimal a.to ∷ decimal a.from ∷ [])

-- the word and "the arc count, then one arc a line"
abbrev pub circuit_lines : List ℕ → List Step → List ℕ
circuit_lines word steps = line word (decimal (length steps) ∷ []) ++ each steps arc_line

-- ""high" likewise, only if not open"
abbrev pub high_lines : High → List Step → List ℕ
high_lines open_end steps = []
high_lines (up_to top bottom) steps = circuit_lines high_word steps

-- the numbers of a line that has at least one
abbrev pub numbers_line : List ℕ → List ℕ
numbers_line [] = []
numbers_line (a ∷ rest) = line (decimal a) (map decimal rest)

-- the n times at a position
abbrev pub times_at : Sheet → List ℕ → ℕ → List ℕ
times_at s plan h = map (λ i. get_or plan (node s h i) 0) (one_to s.n)

-- ""plan" gives q and rounds at low, then one line per position with n times"
abbrev pub plan_lines : Sheet → ℕ → ℕ → List ℕ → List ℕ
plan_lines s q rounds plan = line plan_word (decimal q ∷ decimal rounds ∷ []) ++ each (one_to s.positions) (λ h. numbers_line (times_at s plan h))

-- "A refusal prints "refused" and the number."; document 02, E1: the place comes "after the number"
abbrev pub refused_line : ℕ → ℕ → List ℕ
refused_line k place = line refused_word (decimal k ∷ decimal place ∷ [])
