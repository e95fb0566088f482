-- The published inequalities: source document 000, (6) of 4.1, in the periodic form of 4.3, over the endless schedule.
use Rattle.std.specs.Prelude.{◌≡◌, ℕ, suc, ◌+◌, ◌≤◌, ℤ, pos, ◌+ℤ◌, ◌-ℤ◌, ◌*ℤ◌, ◌≤ℤ◌}
use Rattle.tables.specs.Sheets.{Sheet}
use Rattle.windows.specs.Windows.{Kind, A0, B0, A1, B1, Window, Event, Has, mode}

-- "x_i(h) is the time of event i at position h", h = 1, 2, .., in whole steps of 1/q, of either sign.
abbrev pub Times : Type 0
Times = ℕ → ℕ → ℤ

-- What a window of each kind to i from j says at position h; "each limit w becomes q·w":
-- x_i(h) - x_j(h) is at least w; x_i(h) - x_j(h) is at most w; x_i(h+1) - x_j(h) is at least w; x_i(h+1) - x_j(h) is at most w.
abbrev pub Says : ℕ → Times → ℕ → Kind → ℕ → ℕ → ℤ → Type 0
Says q x h A0 i j w = (pos q *ℤ w) ≤ℤ (x h i -ℤ x h j)
Says q x h B0 i j w = (x h i -ℤ x h j) ≤ℤ (pos q *ℤ w)
Says q x h A1 i j w = (pos q *ℤ w) ≤ℤ (x (suc h) i -ℤ x h j)
Says q x h B1 i j w = (x (suc h) i -ℤ x h j) ≤ℤ (pos q *ℤ w)

module _ (s : Sheet) where
  -- Every window of the mode at every position is kept. "The mode at h, not at h+1, supplies kinds 2 and 3."
  abbrev pub Keeps : ℕ → Times → Type 0
  Keeps q x = (h : ℕ) → 1 ≤ h → (a : Window) → Has s (mode s h) a → Says q x h a.kind a.to a.from a.w

  -- "After position V comes position 1 of the next period, where x_i is x_i(1) plus the cycle time", and so at every position; the cycle time becomes p.
  abbrev pub Periodic : ℕ → Times → Type 0
  Periodic p x = (h i : ℕ) → 1 ≤ h → Event s i → x (h + s.positions) i ≡ x h i +ℤ pos p

  -- The times x are a periodic solution at the cycle time p/q. "No other condition binds a plan in this base."
  pub record Solves (p q : ℕ) (x : Times) : Type 0 where
    pub keeps : Keeps q x
    pub periodic : Periodic p x

  -- "every time is at least 0"
  abbrev pub FromZero : Times → Type 0
  FromZero x = (h i : ℕ) → 1 ≤ h → Event s i → pos 0 ≤ℤ x h i

  -- The cycle time p/q works: there is a periodic solution.
  abbrev pub Runs : ℕ → ℕ → Type 0
  Runs p q = (x : Times) × Solves p q x
