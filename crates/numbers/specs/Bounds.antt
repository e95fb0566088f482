-- The bound that the reader of one number asks of what it has read.
use Rattle.std.specs.Prelude.{ℕ, ◌<◌}
use Rattle.numbers.specs.Groups.{Number}
use Rattle.numbers.specs.Groups.{Value, Refused}

-- a value is below m
abbrev pub Below : ℕ → Number → Type 0
Below m (Value v began next) = v < m
Below m (Refused r) = Unit
