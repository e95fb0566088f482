-- `reader::read_sheet` meets its contract. The first walk says what the file is; the second, over the same file, fills the buffers.
use Rattle.sheet.specs.File.{sheet_in}
use Rattle.reader.proofs.Filling.{Filled, filled, unfilled, small, room}
use Rattle.reader.proofs.Outcomes.{reads_refused, reads_short, reads_done}
use Rattle.numbers.proofs.Reasons.{handed_on}
use mathlib.Core.Path.{sym, ◌∙◌}
use Rattle.reader.proofs.read_sheet.Goals as goal

pub returns-in_err-counts : goal.returns-in_err-counts
returns-in_err-counts c = let a = c.args in
    reads_refused a.file.now a.tables.now a.schedule.now _ _ (handed_on _ _ c.from_residual.ensures.1) (unfilled _ _ _ _ _ _ _ c.in_err-counts.was c.read_into.ensures)

pub places-places-requires : goal.places-places-requires
places-places-requires c = small _ _ (filled (sheet_in c.args.file.now) _ _ _ _ _ _ c.in_ok-counts.was c.read_into.ensures)

pub returns-then-not-is_roomy : goal.returns-then-not-is_roomy
returns-then-not-is_roomy c = let a = c.args in
    let f : Filled (sheet_in a.file.now) c.in_ok-counts.counts = filled _ _ _ _ _ _ _ c.in_ok-counts.was c.read_into.ensures in
    reads_short a.file.now a.tables.now a.schedule.now f.s f.next f.is
    (room _ _ f a.tables.now a.schedule.now _ c.places-places.ensures ∙ sym c.is_roomy.ensures ∙ c.if-not-is_roomy.true)

pub returns : goal.returns
returns c = let a = c.args in
    let f : Filled (sheet_in a.file.now) c.in_ok-counts.counts = filled _ _ _ _ _ _ _ c.in_ok-counts.was c.read_into.ensures in
    reads_done a.file.now a.tables.now a.schedule.now f.s f.next f.is _ _ _
    (room _ _ f a.tables.now a.schedule.now _ c.places-places.ensures ∙ sym c.is_roomy.ensures ∙ c.if-not-is_roomy.false) c.read_into-2.ensures
