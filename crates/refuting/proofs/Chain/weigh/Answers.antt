-- The smallest node first, then the total, whose sums are of at most 192 arcs.
use mathlib.Core.Bool.{true, false}
use Rattle.theory.specs.Circuits.{departures, FirstSmallest, Above}
use Rattle.tables.specs.Lent.{lent}
use Rattle.refuting.proofs.Tests.{once_few}
use Rattle.refuting.proofs.Judging.{known, larger_is, below_is, accepted_is}
use Rattle.refuting.proofs.Chain.weigh.Goals as goal

pub is_above-above-requires : goal.is_above-above-requires
is_above-above-requires c = let h = c.args.self.now in once_few h.line h.arcs.now h.unrefused h.present h.follows c.requires.once

pub returns-then-is_misplaced : goal.returns-then-is_misplaced
returns-then-is_misplaced c = let h = c.args.self.now in let t = c.starts_smallest-smallest in
    larger_is h.line h.arcs.now h.unrefused h.present h.follows c.requires.closed c.requires.once
    (known (lent h.line.sheet) h.arcs.now (λ a. FirstSmallest (departures a)) t.result false c.if-is_misplaced.true t.ensures)

pub returns-then-not-above : goal.returns-then-not-above
returns-then-not-above c = let h = c.args.self.now in let t = c.starts_smallest-smallest in let u = c.is_above-above in
    below_is h.line h.arcs.now h.unrefused h.present h.follows c.requires.closed c.requires.once
    (known (lent h.line.sheet) h.arcs.now (λ a. FirstSmallest (departures a)) t.result true c.if-is_misplaced.false t.ensures)
    (known (lent h.line.sheet) h.arcs.now (Above h.line.time.top h.line.time.bottom) u.result false c.if-not-above.true u.ensures)

pub returns : goal.returns
returns c = let h = c.args.self.now in let t = c.starts_smallest-smallest in let u = c.is_above-above in
    accepted_is h.line h.arcs.now h.unrefused h.present h.follows c.requires.closed c.requires.once
    (known (lent h.line.sheet) h.arcs.now (λ a. FirstSmallest (departures a)) t.result true c.if-is_misplaced.false t.ensures)
    (known (lent h.line.sheet) h.arcs.now (Above h.line.time.top h.line.time.bottom) u.result true c.if-not-above.false u.ensures)
