-- Surplus (document 01, "Numbers and room"): "Longer buffers than needed are allowed; the surplus is neither read nor written."
use Rattle.std.specs.Prelude.{◌≡◌}
use Rattle.tables.specs.Sheets.{Sheet, exact}

-- The two sheets have the same n, m and V, and the same places that are needed.
abbrev pub SameButSurplus : Sheet → Sheet → Type 0
SameButSurplus s s' = exact s ≡ exact s'
