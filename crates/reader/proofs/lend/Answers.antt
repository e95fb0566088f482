-- `reader::lend` meets its contract: what the reader left in the first places is the sheet of the bytes, and that is admitted.
use Rattle.reader.proofs.Leaves.{read_leaves, leaves_sizes}
use Rattle.reader.proofs.Lending.{lends_admitted, lends_held, lends_none}
use Rattle.numbers.proofs.Reasons.{handed_on}
use Rattle.reader.proofs.lend.Goals as goal

pub returns-in_err-n : goal.returns-in_err-n
returns-in_err-n c = let a = c.args in
    rw (handed_on _ _ c.from_residual.ensures.1) (lends_none a.file.now a.tables.now a.schedule.now _ _ _ _ c.in_err-n.was c.read_sheet.ensures)

pub places-places-requires : goal.places-places-requires
places-places-requires c =
    let k = leaves_sizes (read_leaves _ c.args.tables.now c.args.schedule.now _ _ _ _ c.in_ok-n.was c.read_sheet.ensures) in (k.few_events, k.few_modes)

pub invariant_of-result : goal.invariant_of-result
invariant_of-result c = let a = c.args in
    record { admitted = lends_admitted a.file.now a.tables.now a.schedule.now _ _ _ _ _ c.places-places.ensures c.in_ok-n.was c.read_sheet.ensures }

pub returns : goal.returns
returns c = let a = c.args in
    lends_held a.file.now a.tables.now a.schedule.now _ _ _ _ _ c.places-places.ensures c.in_ok-n.was c.read_sheet.ensures
