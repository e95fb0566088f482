-- What the private steps of the writer promise each other.
use Rattle.std.specs.Prelude.{◌≡◌, ℕ, ◌+◌, List, length}
use Rattle.std.proofs.lemmas.List.Edits.{sets}
use Rattle.sheet.specs.Written.{in_groups}
use Rattle.writer.specs.declared.Numbers.{Numbers}

-- the place after what was written, and the list
pub record State : Type 0 where
  pub next : ℕ
  pub out : List ℕ

-- the place and the list in one
abbrev pub state : ℕ → List ℕ → State
state next out = record { next = next; out = out }

-- numbers written from a place on, as far as there is room
unfoldable pub run : List ℕ → ℕ → List ℕ → State
run out at numbers = state (at + length (in_groups numbers)) (sets out at (in_groups numbers))

-- numbers written after what stood before, in the same buffer
pub record Adds (before : Numbers) (numbers : List ℕ) (after : Numbers) : Type 0 where
  pub same_buffer : after.out.ghost_name ≡ before.out.ghost_name
  pub wrote : state after.at after.out.now ≡ run before.out.now before.at numbers
