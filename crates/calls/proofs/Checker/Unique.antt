-- Two answers of the checker for the same bytes, cycle time and proposal are equal: a refused file has one number and place, and the outcomes of a sheet are equal.
use mathlib.Core.Path.{◌≡◌, sym, ◌∙◌}
use mathlib.Core.List.{List}
use Prim.Native.Nat.{ℕ}
use lib.IntN.{ℤ}
use Rattle.tables.specs.Sheets.{Sheet}
use Rattle.tables.specs.Answers.{Answer}
use Rattle.sheet.specs.File.{Part, got, refused, sheet_in}
use Rattle.calls.specs.ProposedTimes as times
use Rattle.calls.specs.ProposedArcs as arcs
use Rattle.calls.specs.Checker.{OfPart, HeldTimes, HeldArcs}
use Rattle.calls.proofs.ProposedTimes.Unique as timed
use Rattle.calls.proofs.ProposedArcs.Unique as listed

part_same : (Held : Sheet → Answer → Type 0) → ((s : Sheet) (a b : Answer) → Held s a → Held s b → a ≡ b) → (part : Part Sheet) (a b : Answer) → OfPart Held part a → OfPart Held part b → a ≡ b
part_same Held same (got s next) a b x y = same s a b x y
part_same Held same (refused why) a b x y = x ∙ sym y

-- THEOREM: the answer for proposed times is determined
pub times_same : (file : List ℕ) (p q : ℕ) (list : List ℤ) (a b : Answer) → HeldTimes file p q list a → HeldTimes file p q list b → a ≡ b
times_same file p q list a b x y = part_same (λ s. times.Outcome s p q list) (λ s. timed.outcome_same s p q list) (sheet_in file) a b x y

-- THEOREM: the answer for proposed arcs is determined
pub arcs_same : (file : List ℕ) (p q : ℕ) (list : List ℕ) (a b : Answer) → HeldArcs file p q list a → HeldArcs file p q list b → a ≡ b
arcs_same file p q list a b x y = part_same (λ s. arcs.Outcome s p q list) (λ s. listed.outcome_same s p q list) (sheet_in file) a b x y
