-- The invariant: the modes before t are counted.
use mathlib.Core.Path.{◌≡◌}
use lib.ListN.{length}
use Rattle.layout.specs.Records.{Starts}
use Rattle.layout.proofs.starts.Given as goal

abbrev pub invariant-loop-t : goal.invariant-loop-t
invariant-loop-t l = (length l.start ≡ 9) × Starts l.sheet.tables.now l.sheet.n l.start l.t
