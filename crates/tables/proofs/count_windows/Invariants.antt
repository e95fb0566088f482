-- `tables::count_windows` meets its contract. The invariant: the windows of the places passed are counted, and they are no more than these places.
use mathlib.Core.Path.{◌≡◌}
use Prim.Native.Nat.{◌≤◌}
use lib.ListN.{take}
use Rattle.std.specs.Prelude.{not, count_by}
use Rattle.tables.specs.Sheets.{absent}
use Rattle.tables.proofs.count_windows.Given as goal

abbrev pub invariant-loop-value : goal.invariant-loop-value
invariant-loop-value l = (l.count ≤ l.value-index) × (l.count ≡ count_by (λ v. not (absent v)) (take l.value-index l.part))
