-- The lines of a report by what the buffers of the calls hold. These definitions face the code; proofs/Spelled ties them to the report's lines.
use Rattle.std.specs.Prelude.{List, [], ◌∷◌, ◌++◌, ℕ, zero, suc, get_or, take, drop}
use Rattle.text.specs.Text.{decimal}
use Rattle.theory.specs.Ends.{High, open_end, up_to}
use Rattle.lines.specs.Lines.{ends_word, low_word, high_word, plan_word, none_word, first_word, second_word, line, fraction, high_spelled, numbers_line}

-- an arc's line, by its four numbers
abbrev pub four_line : ℕ → ℕ → ℕ → ℕ → List ℕ
four_line kind position to from = line (decimal kind) (decimal position ∷ decimal to ∷ decimal from ∷ [])

-- the lines of the first arcs that a buffer holds
unfoldable pub arc_lines : List ℕ → ℕ → List ℕ
arc_lines circuit zero = []
arc_lines circuit (suc count) = four_line (get_or circuit 0 0) (get_or circuit 1 0) (get_or circuit 2 0) (get_or circuit 3 0) ++ arc_lines (drop 4 circuit) count

-- the word, the count, and the lines of the arcs
abbrev pub circuit_text : List ℕ → List ℕ → ℕ → List ℕ
circuit_text word circuit count = line word (decimal count ∷ []) ++ arc_lines circuit count

-- high's circuit, where high is not open
abbrev pub high_text : High → List ℕ → ℕ → List ℕ
high_text open_end circuit count = []
high_text (up_to top bottom) circuit count = circuit_text high_word circuit count

-- the lines of the first positions, n times each
unfoldable pub times_lines : List ℕ → ℕ → ℕ → List ℕ
times_lines plan n zero = []
times_lines plan n (suc positions) = numbers_line (take n plan) ++ times_lines (drop n plan) n positions

-- the line of q and rounds, and the lines of the times
abbrev pub plan_text : ℕ → ℕ → List ℕ → ℕ → ℕ → List ℕ
plan_text q rounds plan n positions = line plan_word (decimal q ∷ decimal rounds ∷ []) ++ times_lines plan n positions

-- the line of low and high
abbrev pub ends_text : ℕ → ℕ → High → List ℕ
ends_text top bottom high = line ends_word (fraction top bottom ∷ high_spelled high ∷ [])

-- the ends with their circuits
abbrev pub found_text : ℕ → ℕ → High → List ℕ → ℕ → List ℕ → ℕ → List ℕ
found_text top bottom high first count₁ second count₂ = ends_text top bottom high ++ circuit_text low_word first count₁ ++ high_text high second count₂

-- "none" with its circuits
abbrev pub none_text : List ℕ → ℕ → List ℕ → ℕ → List ℕ
none_text first count₁ second count₂ = line none_word [] ++ circuit_text first_word first count₁ ++ circuit_text second_word second count₂
