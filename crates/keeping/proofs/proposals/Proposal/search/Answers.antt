-- The invariant: no place of the positions passed is broken.
use mathlib.Core.Path.{sym, subst}
use native.Mathlib.Omega.{arith}
use Rattle.tables.specs.Lent.{lent}
use Rattle.calls.specs.ProposedTimes.{Outcome}
use Rattle.keeping.specs.Answers.{answer_held}
use Rattle.keeping.specs.declared.TimesHeld.{TimesHeld}
use Rattle.keeping.proofs.Windows.{granted, first_broken, none_broken}
use Rattle.keeping.proofs.proposals.Proposal.search.Goals as goal

pub broken-requires : goal.broken-requires
broken-requires c = let p = c.args.self.now in let z = (granted p.line p.times.now p.unrefused).sheet_ok.size in
    (z.some_events, z.few_events, omega (arith, z.few_positions, c.loop-g-test.true), c.in-Some.ensures.inside)

pub returns-in-Some : goal.returns-in-Some
returns-in-Some c = let p = c.args.self.now in
    subst (λ (r : TimesHeld). Outcome (lent p.line.sheet) p.line.time.top p.line.time.bottom p.times.now (answer_held r)) (sym c.broken.ensures)
    (first_broken p.line p.times.now p.unrefused c.loop-g.g c.in-Some.k c.loop-g-test.true c.loop-g.invariant c.in-Some.ensures)

pub returns : goal.returns
returns c = let p = c.args.self.now in
    none_broken p.line p.times.now p.unrefused (λ g below. c.loop-g.invariant g (omega (arith, c.loop-g-test.false)))
