-- The text of a report, by what the file was read as (document 01, "The report").
use Rattle.std.specs.Prelude.{◌≡◌, ◌⊎◌, List, [], ◌∷◌, ◌++◌, ℕ}
use Rattle.theory.specs.Arcs.{Rounds}
use Rattle.theory.specs.Ends.{High}
use Rattle.tables.specs.Sheets.{Sheet}
use Rattle.sheet.specs.File.{Part}
use Rattle.sheet.specs.File as file
use Rattle.windows.specs.Arcs.{nodes, arcs}
use Rattle.windows.specs.Circuits.{Step}
use Rattle.calls.specs.Ask.{Earliest}
use Rattle.calls.specs.Ends.{Finds, Lacks}
use Rattle.lines.specs.Lines.{ends_word, low_word, none_word, first_word, second_word, line, fraction, high_spelled, circuit_lines, high_lines, plan_lines, refused_line}

module _ (s : Sheet) where
  -- Ends found: the ends and the circuits that show them, and the earliest plan at low with its rounds.
  pub record TellsEnds (text : List ℕ) : Type 0 where
    pub top : ℕ
    pub bottom : ℕ
    pub high : High
    pub first : List Step
    pub second : List Step
    pub finds : Finds s top bottom high first second
    pub rounds : ℕ
    pub plan : List ℕ
    pub plan_is : Earliest s top bottom plan
    pub rounds_are : Rounds (arcs s) top bottom (nodes s) rounds
    pub text_is : text ≡ line ends_word (fraction top bottom ∷ high_spelled high ∷ []) ++ circuit_lines low_word first ++ high_lines high second ++ plan_lines s bottom rounds plan

  -- "Without ends: "none", then "first" and "second" with counts and arcs ("second 0" after a single circuit)."
  pub record TellsNone (text : List ℕ) : Type 0 where
    pub first : List Step
    pub second : List Step
    pub lacks : Lacks s first second
    pub text_is : text ≡ line none_word [] ++ circuit_lines first_word first ++ circuit_lines second_word second

-- the text, by what the file was read as
abbrev pub Tells : Part Sheet → List ℕ → Type 0
Tells (file.got s next) text = TellsEnds s text ⊎ TellsNone s text
Tells (file.refused r) text = text ≡ refused_line r.number r.at
