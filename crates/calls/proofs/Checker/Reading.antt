-- The checker's answer by what its file was read as: a refused file has its own number and place, and of a sheet the held proposal's answer counts.
use mathlib.Core.Path.{◌≡◌, refl, sym, subst}
use mathlib.Core.List.{List, [], ◌∷◌}
use Prim.Native.Nat.{ℕ}
use lib.IntN.{ℤ}
use Rattle.numbers.specs.Groups.{Refusal}
use Rattle.tables.specs.Sheets.{Sheet}
use Rattle.tables.specs.Answers.{Answer, answer}
use Rattle.sheet.specs.File.{Part, got, refused, sheet_in}
use Rattle.calls.specs.ProposedTimes as times
use Rattle.calls.specs.ProposedArcs as arcs
use Rattle.calls.specs.Checker.{OfPart, HeldTimes, HeldArcs}

module _ (Held : Sheet → Answer → Type 0) (part : Part Sheet) where
  part_refused : (why : Refusal) → part ≡ refused why → OfPart Held part (answer why.number (why.at ∷ []))
  part_refused why e = subst (λ (x : Part Sheet). OfPart Held x (answer why.number (why.at ∷ []))) (sym e) refl

  part_read : (s : Sheet) (next : ℕ) → part ≡ got s next → (a : Answer) → Held s a → OfPart Held part a
  part_read s next e a is = subst (λ (x : Part Sheet). OfPart Held x a) (sym e) is

module _ (file : List ℕ) (p q : ℕ) (list : List ℤ) where
  -- THEOREM: a refused file is answered with its own number and place, whatever is proposed
  pub times_refused_first : (why : Refusal) → sheet_in file ≡ refused why → HeldTimes file p q list (answer why.number (why.at ∷ []))
  times_refused_first why e = part_refused (λ s. times.Outcome s p q list) (sheet_in file) why e

  -- THEOREM: with a file that is read, proposed times are answered as with its sheet
  pub times_read : (s : Sheet) (next : ℕ) → sheet_in file ≡ got s next → (a : Answer) → times.Outcome s p q list a → HeldTimes file p q list a
  times_read s next e a is = part_read (λ s. times.Outcome s p q list) (sheet_in file) s next e a is

module _ (file : List ℕ) (p q : ℕ) (list : List ℕ) where
  -- THEOREM: a refused file is answered with its own number and place, whatever is proposed
  pub arcs_refused_first : (why : Refusal) → sheet_in file ≡ refused why → HeldArcs file p q list (answer why.number (why.at ∷ []))
  arcs_refused_first why e = part_refused (λ s. arcs.Outcome s p q list) (sheet_in file) why e

  -- THEOREM: with a file that is read, proposed arcs are answered as with its sheet
  pub arcs_read : (s : Sheet) (next : ℕ) → sheet_in file ≡ got s next → (a : Answer) → arcs.Outcome s p q list a → HeldArcs file p q list a
  arcs_read s next e a is = part_read (λ s. arcs.Outcome s p q list) (sheet_in file) s next e a is
