-- The lines by what a buffer of circuits holds are the report's lines of the circuit in it.
use mathlib.Core.Path.{◌≡◌, refl, sym, ap, ◌∙◌}
use mathlib.Core.List.{List, [], ◌∷◌, ◌++◌}
use Prim.Native.Nat.{ℕ, ◌*◌}
use lib.ListN.{length, drop}
use Rattle.text.specs.Text.{decimal}
use Rattle.theory.specs.Ends.{High, open_end, up_to}
use Rattle.windows.specs.Circuits.{Step}
use Rattle.calls.specs.Circuits.{onto}
use Rattle.lines.specs.Lines.{line, circuit_lines, high_lines, high_word}
use Rattle.lines.specs.Buffers.{circuit_text, high_text}
use Rattle.lines.proofs.Spelled.{arcs_are}

module _ (cs : List Step) (before after : List ℕ) (count : ℕ) (counted : length cs ≡ count) (is : after ≡ onto cs before) where
  -- THEOREM: the text by a buffer is the text of the circuit in it
  pub circuit_is : (word : List ℕ) → circuit_text word after count ≡ circuit_lines word cs
  circuit_is word =
      ap (λ (l : List ℕ). circuit_text word l count) is
      ∙ ap (λ (k : ℕ). circuit_text word (onto cs before) k) (sym counted)
      ∙ ap (λ (t : List ℕ). line word (decimal (length cs) ∷ []) ++ t) (arcs_are cs (drop (4 * length cs) before))

  -- THEOREM: and so are high's lines, or none where it is open
  pub high_is : (high : High) → high_text high after count ≡ high_lines high cs
  high_is open_end = refl
  high_is (up_to top bottom) = circuit_is high_word
