-- What a line at a cycle time hands to the rounds: everything within its limits.
use mathlib.Core.Path.{◌≡◌, sym}
use mathlib.Core.Bool.{true}
use mathlib.Core.List.{List}
use Prim.Native.Nat.{ℕ}
use native.Mathlib.Omega.{arith}
use Rattle.tables.specs.Sheets.{Sheet}
use Rattle.tables.specs.Lent.{lent}
use Rattle.turns.specs.Posed.{Posed}
use Rattle.calls.specs.Ask.{roomy}
use Rattle.calls.proofs.Ask.Refusals.{Granted, granted, refused_none}
use Rattle.edges.specs.declared.lines.Line.{Line}

-- with room besides, no refusal fits
pub line_granted : (l : Line) (plan circuit : List ℕ) → roomy (lent l.sheet) plan circuit ≡ true → Granted (lent l.sheet) l.time.top l.time.bottom plan circuit
line_granted l plan circuit room = granted (lent l.sheet) l.time.top l.time.bottom plan circuit (refused_none (lent l.sheet) l.time.top l.time.bottom plan circuit (sym l.admitted) l.timed room)

pub posed : (s : Sheet) (p q : ℕ) (plan circuit : List ℕ) → Granted s p q plan circuit → Posed s.n s.positions p q s.schedule
posed s p q plan circuit g =
    let z = g.sheet_ok.size in
    record {
      limits = record { some_events = z.some_events; few_events = z.few_events; some_positions = z.some_positions; few_positions = z.few_positions; p_small = g.p_small };
      q_small = g.q_small;
      long = z.long_schedule;
      mode = λ h below. omega (arith, g.sheet_ok.modes h below, z.few_modes);
    }
