-- The part of the position's mode lies in the tables.
use native.Mathlib.Omega.{arith}
use Rattle.tables.proofs.Laws.{square}
use Rattle.keeping.proofs.Windows.{granted, part_few, part_inside}
use Rattle.keeping.proofs.proposals.Proposal.first_at.Goals as goal

pub overflow_mul-size : goal.overflow_mul-size
overflow_mul-size c = let p = c.args.self.now in omega (arith, square p.line.sheet.n (granted p.line p.times.now p.unrefused).sheet_ok.size.few_events)

pub overflow_mul-size-2 : goal.overflow_mul-size-2
overflow_mul-size-2 c = let p = c.args.self.now in omega (arith, square p.line.sheet.n (granted p.line p.times.now p.unrefused).sheet_ok.size.few_events)

pub bounds-sheet-g : goal.bounds-sheet-g
bounds-sheet-g c = let p = c.args.self.now in omega (arith, c.requires, (granted p.line p.times.now p.unrefused).sheet_ok.size.long_schedule)

pub overflow_mul-first : goal.overflow_mul-first
overflow_mul-first c = let p = c.args.self.now in rw c.from.ensures (omega (arith, part_few p.line p.times.now p.unrefused c.args.g c.requires))

pub overflow_add-part : goal.overflow_add-part
overflow_add-part c = let p = c.args.self.now in rw c.from.ensures (omega (arith, part_few p.line p.times.now p.unrefused c.args.g c.requires))

pub offset_bounds-sheet-first : goal.offset_bounds-sheet-first
offset_bounds-sheet-first c = let p = c.args.self.now in rw c.from.ensures (omega (arith, part_few p.line p.times.now p.unrefused c.args.g c.requires))

pub slice_bounds-part-end : goal.slice_bounds-part-end
slice_bounds-part-end c = let p = c.args.self.now in rw c.from.ensures (omega (arith, part_inside p.line p.times.now p.unrefused c.args.g c.requires))
