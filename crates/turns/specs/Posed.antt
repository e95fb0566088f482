-- What the rounds are handed of a sheet and a cycle time.
use Rattle.std.specs.Prelude.{List, ℕ, ◌+◌, ◌≤◌, ◌<◌, length, get_or}

-- The numbers of events and positions are within their limits, and so is p.
pub record Limits (n positions p : ℕ) : Type 0 where
  pub some_events : 1 ≤ n
  pub few_events : n ≤ 12
  pub some_positions : 1 ≤ positions
  pub few_positions : positions ≤ 16
  pub p_small : p ≤ 1000000000

-- What is asked is within its limits, and each position's mode has a part of the records.
pub record Posed (n positions p q : ℕ) (schedule : List ℕ) : Type 0 where
  pub limits : Limits n positions p
  pub q_small : q ≤ 1000
  pub long : positions ≤ length schedule
  pub mode : (g : ℕ) → g < positions → get_or schedule g 0 + 1 < 9
