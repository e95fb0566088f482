-- The checker's C calls, whole: a sheet's bytes, p/q and a proposal. The file's own refusal comes first, with its place (document 02, E1); then the proposal is
-- held to the sheet that was read (E2).
use Rattle.std.specs.Prelude.{◌≡◌, List, [], ◌∷◌, ℕ, ℤ}
use Rattle.tables.specs.Sheets.{Sheet}
use Rattle.tables.specs.Answers.{Answer, answer}
use Rattle.sheet.specs.File.{Part, got, refused, sheet_in}
use Rattle.calls.specs.ProposedTimes as times
use Rattle.calls.specs.ProposedArcs as arcs

-- what is answered of the sheet that was read; else the file's refusal and its place
abbrev pub OfPart : (Sheet → Answer → Type 0) → Part Sheet → Answer → Type 0
OfPart Held (got s next) a = Held s a
OfPart Held (refused why) a = a ≡ answer why.number (why.at ∷ [])

-- of proposed times
abbrev pub HeldTimes : List ℕ → ℕ → ℕ → List ℤ → Answer → Type 0
HeldTimes file p q list a = OfPart (λ s. times.Outcome s p q list) (sheet_in file) a

-- of proposed arcs
abbrev pub HeldArcs : List ℕ → ℕ → ℕ → List ℕ → Answer → Type 0
HeldArcs file p q list a = OfPart (λ s. arcs.Outcome s p q list) (sheet_in file) a
