-- The numbers in their order, each after what is written so far.
use mathlib.Core.Path.{◌≡◌, sym}
use native.Mathlib.Omega.{arith}
use lib.Seq.{length-take-le}
use Rattle.std.proofs.Common.{rules}
use Rattle.tables.specs.Lent.{lent}
use Rattle.tables.proofs.Laws.{accepted}
use Rattle.sheet.proofs.Sheets.{places_are}
use Rattle.sheet.specs.Written.{sheet_numbers}
use Rattle.writer.specs.Steps.{state, run}
use Rattle.writer.proofs.Runs.{adds_then}
use Rattle.writer.proofs.write_all.Goals as goal

pub slice_bounds-schedule-end : goal.slice_bounds-schedule-end
slice_bounds-schedule-end c = let s = c.args.admitted.now.sheet in
    let z = (accepted (lent s) c.args.admitted.now.admitted).size in sym (length-take-le s.positions s.schedule.now z.long_schedule)

pub schedule-requires : goal.schedule-requires
schedule-requires c = let s = c.args.admitted.now.sheet in
    let z = (accepted (lent s) c.args.admitted.now.admitted).size in
    (omega (arith, z.few_positions, length-take-le s.positions s.schedule.now z.long_schedule), omega (arith, c.number.ensures.near, c.number-2.ensures.near, c.number-3.ensures.near, c.number-4.ensures.near))

pub modes-requires : goal.modes-requires
modes-requires c = let s = c.args.admitted.now.sheet in
    let z = (accepted (lent s) c.args.admitted.now.admitted).size in (
      z.some_events,
      z.few_events,
      z.few_modes,
      rw (places_are s.n s.m) z.long_tables,
      omega (arith, c.number.ensures.near, c.number-2.ensures.near, c.number-3.ensures.near, c.number-4.ensures.near, c.schedule.ensures.near),
    )

pub returns : goal.returns
unfolding sheet_numbers
returns c = let four = adds_then c.number.ensures.adds (adds_then c.number-2.ensures.adds (adds_then c.number-3.ensures.adds c.number-4.ensures.adds)) in
    let all = adds_then (adds_then four c.schedule.ensures.adds) c.modes.ensures in
    let wrote : state c.modes.new.self.at c.modes.new.self.out.now ≡ run c.args.out.now 0 (sheet_numbers (lent c.args.admitted.now.sheet)) = all.wrote in
    search rules
