-- The outer invariant: the records of the modes before t are laid out. The inner one: so are those of the places of the mode's part before k.
use Rattle.layout.proofs.Laying.{Filling}
use Rattle.layout.proofs.lay_out.Given as goal

abbrev pub invariant-loop-k : goal.invariant-loop-k
invariant-loop-k l = Filling l.sheet.tables.now l.sheet.n l.t l.k l.list l.w

abbrev pub invariant-loop-t : goal.invariant-loop-t
invariant-loop-t l = Filling l.sheet.tables.now l.sheet.n l.t 0 l.list l.w
