-- What the private steps of the reader promise each other.
use Rattle.std.specs.Prelude.{ℕ, ◌≡◌, List, ℤ, Result, Ok, Err}
use Rattle.std.proofs.lemmas.List.Edits.{sets}
use Rattle.numbers.specs.Refusals.{said}
use Rattle.numbers.specs.declared.refusals.Refusal as code
use Rattle.tables.specs.Sheets.{Sheet}
use Rattle.sheet.specs.File.{Part, got, refused, counts}
use Rattle.sheet.specs.File as file
use Rattle.records.specs.Steps.{Refuses}
use Rattle.reader.specs.declared.Counts.{Counts}

-- n, m and V that were read, with the place after them, as the part that they are
abbrev pub head_part : Result Counts code.Refusal → ℕ → Part file.Counts
head_part (Ok c) next = got (counts c.n c.m c.positions) next
head_part (Err r) next = refused (said r)

-- n, m and V of a sheet
abbrev pub counted : Sheet → Counts
counted s = record { n = s.n; m = s.m; positions = s.positions }

-- a sheet was read into two lists as far as they have room, or it was refused
unfoldable pub Fills : Part Sheet → List ℤ → List ℕ → Result Counts code.Refusal → List ℤ → List ℕ → Type 0
Fills (got s next) tables₀ schedule₀ r tables schedule =
    (r ≡ Ok (counted s)) × (tables ≡ sets tables₀ 0 s.tables) × (schedule ≡ sets schedule₀ 0 s.schedule)
Fills (refused why) tables₀ schedule₀ r tables schedule = Refuses why r
