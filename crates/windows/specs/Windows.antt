-- The windows of a mode (document 01, "Windows and plans").
use Rattle.std.specs.Prelude.{◌≡◌, ◌≢◌, ℕ, pred, ◌%◌, ◌≤◌, get_or, ℤ}
use Rattle.tables.specs.Sheets.{Sheet, no_window, place}

-- "one of four kinds", by the names of 000's matrices
pub data Kind : Type 0 where
  A0 B0 A1 B1 : Kind

-- the number of a kind
abbrev pub number : Kind → ℕ
number A0 = 0
number B0 = 1
number A1 = 2
number B1 = 3

-- "one of four kinds, an event "to" = i, an event "from" = j, and a whole number w"
pub record Window : Type 0 where
  pub kind : Kind
  pub to : ℕ
  pub from : ℕ
  pub w : ℤ

module _ (s : Sheet) where
  -- events are 1..n
  abbrev pub Event : ℕ → Type 0
  Event i = (1 ≤ i) × (i ≤ s.n)

  -- what the tables hold for mode t, kind, to, from
  abbrev pub entry : ℕ → Kind → ℕ → ℕ → ℤ
  entry t kind to from = get_or s.tables (place s.n t (number kind) to from) no_window

  -- The mode t has the window a.
  pub record Has (t : ℕ) (a : Window) : Type 0 where
    pub to_event : Event a.to
    pub from_event : Event a.from
    pub stands : entry t a.kind a.to a.from ≡ a.w
    pub present : a.w ≢ no_window

  -- The mode at position h of the endless schedule, h = 1, 2, ..: "After position V comes position 1 of the next period". `pred h` is h - 1.
  abbrev pub mode : ℕ → ℕ
  mode h = get_or s.schedule (pred h % s.positions) 0
