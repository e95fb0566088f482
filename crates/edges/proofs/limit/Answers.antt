-- `edges::limit` meets its contract: the place of the window that the four numbers name, with the mode that the schedule has there.
use mathlib.Core.Path.{ap, ◌∙◌}
use native.Mathlib.Omega.{arith}
use Prim.Native.Nat.{ℕ, ◌-◌}
use lib.ListN.{get_or}
use lib.IntN.{pos}
use Rattle.numbers.proofs.Signs.{passed}
use Rattle.edges.proofs.Naming.{named, place_is}
use Rattle.edges.proofs.limit.Goals as goal

pub bounds-sheet-from : goal.bounds-sheet-from
bounds-sheet-from c = let names = c.requires in omega (arith, c.from.ensures, names.from_first, (named _ _ _ _ _ names).scheduled)

pub place_of-at-requires : goal.place_of-at-requires
place_of-at-requires c = let names = c.requires in
    let f = named _ _ _ _ _ names in (
      f.few_events,
      omega (arith, f.mode_below, c.from-t.ensures, ap (λ (k : ℕ). get_or c.args.sheet.now.schedule.now (k - 1) 0) c.from.ensures),
      omega (arith, c.from-2.ensures, names.few_kinds),
      omega (arith, c.from-3.ensures, names.to_event.0),
      omega (arith, c.from-3.ensures, names.to_event.1),
      omega (arith, c.from-4.ensures, names.from_event.0),
      omega (arith, c.from-4.ensures, names.from_event.1),
    )

pub offset_bounds-sheet-at : goal.offset_bounds-sheet-at
offset_bounds-sheet-at c = omega (arith, (place_is _ _ _ _ _ c.requires _ _ _ _ _ _ c.from.ensures c.from-t.ensures c.from-2.ensures c.from-3.ensures c.from-4.ensures c.place_of-at.ensures).0)

pub bounds-sheet-at : goal.bounds-sheet-at
bounds-sheet-at c = (place_is _ _ _ _ _ c.requires _ _ _ _ _ _ c.from.ensures c.from-t.ensures c.from-2.ensures c.from-3.ensures c.from-4.ensures c.place_of-at.ensures).1

pub returns : goal.returns
returns c = passed (get_or c.args.sheet.now.tables.now c.place_of-at.result (pos 0)) c.result-1.given ∙ (place_is _ _ _ _ _ c.requires _ _ _ _ _ _ c.from.ensures c.from-t.ensures c.from-2.ensures c.from-3.ensures c.from-4.ensures c.place_of-at.ensures).2
