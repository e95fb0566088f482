-- The rounds run over a list that is laid out, and what is written is what the laws of acceptance and of circuits ask.
use mathlib.Core.Path.{refl}
use Prim.Native.Nat.{ℕ}
use native.Mathlib.Omega.{arith}
use lib.ListN.{length-replicate}
use Rattle.windows.proofs.Limits.{nodes_few}
use Rattle.layout.proofs.Laying.{modes}
use Rattle.tables.specs.Lent.{lent}
use Rattle.turns.proofs.Sheets.{parts}
use Rattle.ask.proofs.Posing.{line_granted, posed}
use Rattle.ask.proofs.Deciding.{leads, settles}
use Rattle.ask.proofs.decide.Goals as goal

pub starts-start-requires : goal.starts-start-requires
starts-start-requires c =
    let z = (line_granted c.args.line.now c.args.plan.now c.args.circuit.now c.requires).sheet_ok.size in (z.some_events, z.few_events, z.few_modes, omega (arith, z.long_tables))

pub invariant_of-job : goal.invariant_of-job
invariant_of-job c =
    let l = c.args.line.now in
    let g = line_granted l c.args.plan.now c.args.circuit.now c.requires in
    record { posed = posed (lent l.sheet) l.time.top l.time.bottom c.args.plan.now c.args.circuit.now g }

pub run-last-requires : goal.run-last-requires
run-last-requires c =
    let l = c.args.line.now in
    let s = l.sheet in
    let g = line_granted l c.args.plan.now c.args.circuit.now c.requires in
    let z = g.sheet_ok.size in (
      z.few_modes,
      omega (arith, z.long_tables),
      (λ r is. parts (lent s) g.sheet_ok l.time.top l.time.bottom r c.starts-start.result (modes s.tables.now s.n c.starts-start.result s.m c.starts-start.ensures r is)),
      refl,
      length-replicate {A = ℕ} 192 0,
    )

pub finish-requires : goal.finish-requires
finish-requires c =
    let l = c.args.line.now in
    let s = l.sheet in
    let g = line_granted l c.args.plan.now c.args.circuit.now c.requires in
    let few = nodes_few (lent s) g.sheet_ok in
    let e = c.run-last.ensures in
    let laid = modes s.tables.now s.n c.starts-start.result s.m c.starts-start.ensures e.0 e.1 in (
      leads (lent s) g.sheet_ok l.time.top l.time.bottom e.0 c.starts-start.result laid c.run-last.result.rounds c.run-last.result.node c.run-last.new.times c.run-last.new.row e.2
          (omega (arith, few, c.run-last.auto.row, length-replicate {A = ℕ} 192 0)),
      few,
      omega (arith, few, c.run-last.auto.times, length-replicate {A = ℕ} 192 0),
      g.plan_long,
      omega (arith, g.circuit_long),
    )

pub returns : goal.returns
returns c =
    let l = c.args.line.now in
    let s = l.sheet in
    let g = line_granted l c.args.plan.now c.args.circuit.now c.requires in
    let e = c.run-last.ensures in
    settles (lent s) g.sheet_ok l.time.top l.time.bottom e.0 c.starts-start.result (modes s.tables.now s.n c.starts-start.result s.m c.starts-start.ensures e.0 e.1)
    c.run-last.result.rounds c.run-last.result.node c.run-last.new.times c.run-last.new.row e.2
    c.args.plan.now c.args.circuit.now (omega (arith, g.circuit_long)) c.finish.result c.finish.new.plan c.finish.new.circuit c.finish.ensures
