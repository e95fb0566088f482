-- The report, whole: its text by the file's bytes, and what is left in the buffer it is written to (document 01, "The report").
use Rattle.std.specs.Prelude.{◌≡◌, List, [], ◌∷◌, ◌++◌, ℕ, ◌≤◌, ◌<◌, length, take, drop}
use Rattle.std.proofs.Common.{inl, inr}
use Rattle.tables.specs.Answers.{Answer, answer}
use Rattle.tables.specs.Sheets.{Sheet}
use Rattle.sheet.specs.File.{Part, sheet_in}
use Rattle.sheet.specs.File as file
use Rattle.lines.specs.Lines.{plan_lines}
use Rattle.telling.specs.Tells.{Tells}

-- "Of a file over 27,685 bytes the first 27,685 are judged; the answer is the same."
abbrev pub judged : ℕ
judged = 27685

-- the text is a report of the bytes
abbrev pub Reports : List ℕ → List ℕ → Type 0
Reports bytes text = Tells (sheet_in (take judged bytes)) text

-- ---- the report in a lent buffer

-- Room for every report: the longest has two circuits of 192 arcs and a plan of 192 times.
abbrev pub room : ℕ
room = 8192

-- 0 with the text's length, the text in the buffer's first places and the others as they were; or 9, "a buffer to be written is too short", exactly
-- if it is shorter than that room, whatever the text, and nothing written.
pub data Outcome (bytes out₀ : List ℕ) (a : Answer) (out : List ℕ) : Type 0 where
  written : (text : List ℕ) → a ≡ answer 0 (length text ∷ []) → room ≤ length out₀ → Reports bytes text → out ≡ text ++ drop (length text) out₀ → Outcome bytes out₀ a out
  refused : a ≡ answer 9 [] → length out₀ < room → out ≡ out₀ → Outcome bytes out₀ a out

-- the text that was written, and none where it was refused
abbrev pub text_in : {bytes out₀ : List ℕ} {a : Answer} {out : List ℕ} → Outcome bytes out₀ a out → List ℕ
text_in (written text e roomy is same) = text
text_in (refused e short same) = []

-- ---- when two reports of the same bytes agree

-- Two texts agree: the same refusal, or the same ends and the same lines of the plan, or none both. The lines of the circuits are left open.
abbrev pub TextsAgree : (w : Part Sheet) (text text' : List ℕ) → Tells w text → Tells w text' → Type 0
TextsAgree (file.got s next) text text' (inl a) (inl b) =
    (a.top ≡ b.top) × (a.bottom ≡ b.bottom) × (a.high ≡ b.high) × (plan_lines s a.bottom a.rounds a.plan ≡ plan_lines s b.bottom b.rounds b.plan)
TextsAgree (file.got s next) text text' (inl a) (inr b) = ⊥
TextsAgree (file.got s next) text text' (inr a) (inl b) = ⊥
TextsAgree (file.got s next) text text' (inr a) (inr b) = Unit {0}
TextsAgree (file.refused r) text text' x y = text ≡ text'
