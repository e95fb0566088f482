-- The numbers name a place of the tables, and so a position and two events.
use native.Mathlib.Omega.{arith}
use Rattle.tables.specs.Lent.{lent}
use Rattle.refuting.proofs.Present.{named_place, present_named, ready}
use Rattle.refuting.proofs.edge_for.Goals as goal

pub edge_at-requires : goal.edge_at-requires
edge_at-requires c = let l = c.args.line.now in let s = lent l.sheet in let g = ready l in
    let t = named_place s l.admitted c.args.arc (present_named s c.args.arc c.requires) in
    let z = g.sheet_ok.size in
    (z.few_events, z.few_positions, omega (arith, c.from.ensures, t.from_first, t.to_last), g.p_small, g.q_small, t.to_event.0, t.from_event.0)
