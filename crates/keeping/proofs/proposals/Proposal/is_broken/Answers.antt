-- What stands at the place is what is tested.
use mathlib.Core.Path.{sym, ap, ◌∙◌, subst}
use mathlib.Core.Bool.{not}
use mir.Syntax.{w32}
use mir.ValLaws.{to_z-of_z}
use Rattle.tables.specs.Sheets.{absent}
use Rattle.edges.specs.declared.Record.{Record}
use Rattle.edges.specs.Edges.{from_place}
use Rattle.keeping.specs.Breaks.{keeps_at, breaks_at, arc_at, Reach}
use Rattle.keeping.proofs.Windows.{granted, spreads}
use Rattle.keeping.proofs.proposals.Proposal.is_broken.Goals as goal

pub returns-then-is_absent : goal.returns-then-is_absent
unfolding breaks_at
returns-then-is_absent c = let value = to_z-of_z w32 c.args.value c.ranges.value ∙ c.requires.stands in rw (ap absent (sym value) ∙ sym c.is_absent.ensures ∙ c.if-is_absent.true)

pub from_place-requires : goal.from_place-requires
from_place-requires c = let p = c.args.self.now in let z = (granted p.line p.times.now p.unrefused).sheet_ok.size in (z.some_events, z.few_events, c.requires.place.1)

pub is_kept-requires-clause-reach : goal.is_kept-requires-clause-reach
is_kept-requires-clause-reach c =
    let p = c.args.self.now in
    let value = to_z-of_z w32 c.args.value c.ranges.value ∙ c.requires.stands in
    let w = c.from_place.ensures ∙ ap (from_place p.line.sheet.n c.args.k) value in
    subst (λ (a : Record). Reach (arc_at p.line c.args.g a) p.times.now) (sym w)
    (spreads p.line p.times.now p.unrefused c.args.g c.requires.place.0 c.args.k c.requires.place.1 (ap absent (sym value) ∙ sym c.is_absent.ensures ∙ c.if-is_absent.false))

pub returns : goal.returns
unfolding breaks_at
returns c =
    let p = c.args.self.now in
    let value = to_z-of_z w32 c.args.value c.ranges.value ∙ c.requires.stands in
    let w = c.from_place.ensures ∙ ap (from_place p.line.sheet.n c.args.k) value in
    rw (ap absent (sym value) ∙ sym c.is_absent.ensures ∙ c.if-is_absent.false) (ap not (c.is_kept.ensures ∙ ap (λ (a : Record). keeps_at p.line c.args.g a p.times.now) w))
