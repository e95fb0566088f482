-- Closing, then a node left twice; the rest is the callee's.
use mathlib.Core.Bool.{true, false}
use Rattle.theory.specs.Circuits.{Distinct, departures}
use Rattle.tables.specs.Lent.{lent}
use Rattle.calls.specs.ProposedArcs.{Closed}
use Rattle.refuting.proofs.Judging.{known, open_is, twice_is}
use Rattle.refuting.proofs.Chain.test.Goals as goal

pub returns-then-is_open : goal.returns-then-is_open
returns-then-is_open c = let h = c.args.self.now in let t = c.is_closed-closed in
    open_is h.line h.arcs.now h.unrefused h.present h.follows (known (lent h.line.sheet) h.arcs.now Closed t.result false c.if-is_open.true t.ensures)

pub returns-then-not-once : goal.returns-then-not-once
returns-then-not-once c = let h = c.args.self.now in let t = c.is_closed-closed in let u = c.leaves_once-once in
    twice_is h.line h.arcs.now h.unrefused h.present h.follows (known (lent h.line.sheet) h.arcs.now Closed t.result true c.if-is_open.false t.ensures)
    (known (lent h.line.sheet) h.arcs.now (λ a. Distinct (departures a)) u.result false c.if-not-once.true u.ensures)

pub weigh-requires-clause-closed : goal.weigh-requires-clause-closed
weigh-requires-clause-closed c = let h = c.args.self.now in let t = c.is_closed-closed in known (lent h.line.sheet) h.arcs.now Closed t.result true c.if-is_open.false t.ensures

pub weigh-requires-clause-once : goal.weigh-requires-clause-once
weigh-requires-clause-once c = let h = c.args.self.now in let u = c.leaves_once-once in
    known (lent h.line.sheet) h.arcs.now (λ a. Distinct (departures a)) u.result true c.if-not-once.false u.ensures
