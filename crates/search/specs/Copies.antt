-- Circuits from buffer to buffer. These definitions face the code.
use Rattle.std.specs.Prelude.{List, ◌++◌, ℕ, ◌*◌, ◌≤◌, length, take, drop}

-- the first numbers of one buffer over those of another
abbrev pub copied : List ℕ → ℕ → List ℕ → List ℕ
copied from count to = take count from ++ drop count to

-- both buffers have room for so many arcs
abbrev pub RoomFor : ℕ → List ℕ → List ℕ → Type 0
RoomFor arcs from to = (arcs ≤ 192) × (4 * arcs ≤ length from) × (4 * arcs ≤ length to)
