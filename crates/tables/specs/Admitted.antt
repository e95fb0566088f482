-- A sheet in memory that is not refused, in full (document 01, "Numbers and room"). That a refusal of 0 gives this is a theorem (proofs/Laws accepted).
use Rattle.std.specs.Prelude.{◌≡◌, true, ℕ, ◌≤◌, ◌<◌, length, get_or, pos}
use Rattle.tables.specs.Sheets.{Sheet, places, admits}

-- "n 1..12; m 1..8; V 1..16", and lists that are long enough for them
pub record Sizes (s : Sheet) : Type 0 where
  pub some_events : 1 ≤ s.n
  pub few_events : s.n ≤ 12
  pub some_modes : 1 ≤ s.m
  pub few_modes : s.m ≤ 8
  pub some_positions : 1 ≤ s.positions
  pub few_positions : s.positions ≤ 16
  pub long_tables : places s.n s.m ≤ length s.tables
  pub long_schedule : s.positions ≤ length s.schedule

-- a sheet within these sizes whose schedule names modes below m, and whose tables hold admitted values only
pub record Admitted (s : Sheet) : Type 0 where
  pub size : Sizes s
  pub modes : (h : ℕ) → h < s.positions → get_or s.schedule h 0 < s.m
  pub values : (k : ℕ) → k < places s.n s.m → admits (get_or s.tables k (pos 0)) ≡ true
