-- `values::give` meets its contract. The invariant: the first k values are stored, as far as the list reaches.
use mathlib.Core.Path.{◌≡◌}
use lib.ListN.{take}
use lib.Seq.{sets}
use Rattle.values.proofs.give.Given as goal

abbrev pub invariant-loop-k : goal.invariant-loop-k
invariant-loop-k l = l.values ≡ sets l.initial.values 0 (take l.k l.list)
