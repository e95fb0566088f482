-- What the steps of the telling promise each other. These definitions face the code.
use Rattle.std.specs.Prelude.{◌≡◌, List, ℕ, ◌≤◌, length}
use Rattle.text.specs.Text.{Puts, Adds}
use Rattle.text.specs.declared.Text.{Text}
use Rattle.theory.specs.Arcs.{Rounds}
use Rattle.tables.specs.Sheets.{Sheet, refusal}
use Rattle.windows.specs.Inequalities.{Runs}
use Rattle.windows.specs.Arcs.{nodes, arcs}
use Rattle.windows.specs.Circuits.{Step}
use Rattle.calls.specs.Ask.{Earliest}
use Rattle.calls.specs.Circuits.{onto, CircuitOrNone}
use Rattle.lines.specs.Lines.{plan_lines}

-- a text that says so stands in the buffer, from its start
pub record TextStands (Says : List ℕ → Type 0) (out₀ : List ℕ) (next : ℕ) (out : List ℕ) : Type 0 where
  pub text : List ℕ
  pub says : Says text
  pub puts : Puts out₀ 0 text next out

-- a text that says so is added to what stood before
pub record TextAdded (Says : List ℕ → Type 0) (before after : Text) : Type 0 where
  pub text : List ℕ
  pub says : Says text
  pub adds : Adds before text after

module _ (s : Sheet) where
  -- top/bottom works, and Ask does not refuse it
  pub record Askable (top bottom : ℕ) : Type 0 where
    pub admitted : refusal s ≡ 0
    pub runs : Runs s top bottom
    pub some : 1 ≤ bottom
    pub few : bottom ≤ 12
    pub small : top ≤ 1000000000

  -- the lines of the plan at top/bottom are added to what stood before
  pub record PlanAdded (top bottom : ℕ) (before after : Text) : Type 0 where
    pub rounds : ℕ
    pub plan : List ℕ
    pub plan_is : Earliest s top bottom plan
    pub rounds_are : Rounds (arcs s) top bottom (nodes s) rounds
    pub adds : Adds before (plan_lines s bottom rounds plan) after

  -- a circuit of so many arcs, or none, stands in a buffer of 192 arcs
  pub record CircuitStands (cs : List Step) (count : ℕ) (buffer : List ℕ) : Type 0 where
    pub circuit : CircuitOrNone s cs
    pub counted : length cs ≡ count
    pub before : List ℕ
    pub is : buffer ≡ onto cs before
    pub room : length buffer ≡ 768

  -- two circuits stand in two buffers, and show what they are given for
  pub record CircuitsStand (Shows : List Step → List Step → Type 0) (first : List ℕ) (count₁ : ℕ) (second : List ℕ) (count₂ : ℕ) : Type 0 where
    pub admitted : refusal s ≡ 0
    pub cs : List Step
    pub ds : List Step
    pub shown : Shows cs ds
    pub first_stands : CircuitStands cs count₁ first
    pub second_stands : CircuitStands ds count₂ second
