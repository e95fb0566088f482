-- `tables::sheets::are_admitted` meets its contract. The invariant: the values passed may stand in a table.
use mathlib.Core.Path.{◌≡◌}
use mathlib.Core.Bool.{true}
use lib.ListN.{take}
use Rattle.std.specs.List.{list_all}
use Rattle.tables.specs.Sheets.{admits}
use Rattle.tables.proofs.sheets.are_admitted.Given as goal

abbrev pub invariant-loop-value : goal.invariant-loop-value
invariant-loop-value l = list_all admits (take l.value-index l.values) ≡ true
