-- The outcome of reading a sheet file: the answer, and what tables and schedule hold after it, or the sheet that is lent from them.
use Rattle.std.specs.Prelude.{ℕ, ◌≡◌, Bool, cond, ◌&&◌, List, [], ◌∷◌, ◌++◌, leb, length, drop, ℤ, Result, Ok, Err}
use Rattle.numbers.specs.Groups.{Refusal, bad}
use Rattle.numbers.specs.Refusals.{number_of, said}
use Rattle.numbers.specs.declared.refusals.Refusal as code
use Rattle.tables.specs.Sheets.{Sheet, places}
use Rattle.tables.specs.Answers.{Answer, answer}
use Rattle.tables.specs.Lent.{lent}
use Rattle.tables.specs.declared.sheets.Admitted.{Admitted}
use Rattle.sheet.specs.File.{Part, got, refused, sheet_in}
use Rattle.reader.specs.declared.Counts.{Counts}

-- 0, "done", with "n, m and V"; document 02, E1: the reader's refusals "also return the place"
abbrev pub answer_read : Result Counts code.Refusal → Answer
answer_read (Ok c) = answer 0 (c.n ∷ c.m ∷ c.positions ∷ [])
answer_read (Err r) = answer (number_of r.reason) (r.at ∷ [])

-- what the reader leaves
pub record Reading : Type 0 where
  pub answer : Answer
  pub tables : List ℤ
  pub schedule : List ℕ

-- the answer and both buffers in one
abbrev pub reading : Answer → List ℤ → List ℕ → Reading
reading a tables schedule = record { answer = a; tables = tables; schedule = schedule }

-- a refusal returns its number and "the place", and "alter[s] nothing lent"
abbrev pub unread : Refusal → List ℤ → List ℕ → Reading
unread r tables schedule = reading (answer r.number (r.at ∷ [])) tables schedule

-- "It needs 4·m·n² and V places"
abbrev pub roomy : Sheet → List ℤ → List ℕ → Bool
roomy s tables schedule = leb (places s.n s.m) (length tables) && leb s.positions (length schedule)

-- "It needs 4·m·n² and V places, fills exactly these, and returns n, m and V." 9, "a buffer to be written is too short", last; the place is "0 for 9"
abbrev pub read_into : Sheet → List ℤ → List ℕ → Reading
read_into s tables schedule =
    cond (roomy s tables schedule)
    (reading (answer 0 (s.n ∷ s.m ∷ s.positions ∷ [])) (s.tables ++ drop (places s.n s.m) tables) (s.schedule ++ drop s.positions schedule))
    (unread (bad 9 0) tables schedule)

-- the outcome by what the bytes are: a sheet, or their refusal
abbrev pub read_of : Part Sheet → List ℤ → List ℕ → Reading
read_of (got s next) tables schedule = read_into s tables schedule
read_of (refused r) tables schedule = unread r tables schedule

-- the outcome of reading: the answer and both buffers, by the bytes and the buffers before
abbrev pub Reads : List ℕ → List ℤ → List ℕ → Result Counts code.Refusal → List ℤ → List ℕ → Type 0
Reads file tables₀ schedule₀ answer tables schedule = reading (answer_read answer) tables schedule ≡ read_of (sheet_in file) tables₀ schedule₀

-- the sheet that is lent, or the refusal in numbers
abbrev pub lending : Result Admitted code.Refusal → Result Sheet Refusal
lending (Ok a) = Ok (lent a.sheet)
lending (Err r) = Err (said r)

-- the sheet of the bytes where there is room for it, or 9; else the refusal of the bytes
abbrev pub lent_of : Part Sheet → List ℤ → List ℕ → Result Sheet Refusal
lent_of (got s next) tables schedule = cond (roomy s tables schedule) (Ok s) (Err (bad 9 0))
lent_of (refused r) tables schedule = Err r

-- the outcome of lending, by the bytes and the room: the sheet is the one of the bytes, its lists without surplus
abbrev pub Lends : List ℕ → List ℤ → List ℕ → Result Admitted code.Refusal → Type 0
Lends file tables schedule answer = lending answer ≡ lent_of (sheet_in file) tables schedule
