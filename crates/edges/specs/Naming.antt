-- The window that four numbers name: kind, position, to and from (document 01, "Circuits": "An arc is four numbers: kind, position, to, from"). These
-- definitions face the code: the numbers may be any.
use Rattle.std.specs.Prelude.{ℕ, ◌+◌, ◌*◌, ◌≤◌, ◌<◌, ◌≡◌, List, get_or, ℤ}
use Rattle.tables.specs.Sheets.{Sheet, no_window, place, refusal}
use Rattle.edges.specs.declared.Four.{Four}
use Rattle.windows.specs.Windows.{Event, mode}

-- those of the arc at k of a list, from 0
abbrev pub four_at : List ℕ → ℕ → Four
four_at list k = record { kind = get_or list (4 * k) 0; position = get_or list (4 * k + 1) 0; to = get_or list (4 * k + 2) 0; from = get_or list (4 * k + 3) 0 }

-- the limit that the tables hold for the four numbers of an arc
abbrev pub limit_of : Sheet → ℕ → ℕ → ℕ → ℕ → ℤ
limit_of s kind position to from = get_or s.tables (place s.n (mode s position) kind to from) no_window

-- the four numbers name a place of the tables of an admitted sheet
pub record NamesPlace (s : Sheet) (kind position to from : ℕ) : Type 0 where
  pub admitted : refusal s ≡ 0
  pub few_kinds : kind < 4
  pub from_first : 1 ≤ position
  pub to_last : position ≤ s.positions
  pub to_event : Event s to
  pub from_event : Event s from
