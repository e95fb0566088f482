-- `telling::tell_plan` meets its contract: at low Ask accepts, and the other arms are never taken.
use mathlib.Core.Path.{refl, ap, ◌∙◌}
use Rattle.std.specs.Prelude.{Ok}
use native.Mathlib.Omega.{arith}
use Rattle.tables.proofs.Laws.{accepted}
use Rattle.windows.proofs.Limits.{nodes_few}
use Rattle.telling.proofs.Telling.{asked_plan, asked_refuted, asked_ok}
use Rattle.telling.proofs.tell_plan.Goals as goal

pub put_plan-requires : goal.put_plan-requires
put_plan-requires c = let ok = accepted _ c.requires.0.admitted in
    let z = ok.size in
    (omega (arith, c.requires.1), z.some_events, z.few_events, z.few_positions, omega (arith, nodes_few _ ok, c.ask.auto.plan))

pub unwrap-requires : goal.unwrap-requires
unwrap-requires c = let a = c.ask in asked_ok _ _ _ c.requires.0 _ _ refl refl a.result _ _ a.ensures

pub unreachable-requires : goal.unreachable-requires
unreachable-requires c = let a = c.ask in asked_refuted _ _ _ c.requires.0 _ _ refl refl a.result _ _ a.ensures _ (c.unwrap.ensures ∙ ap Ok c.in-Refuted.is)

pub returns : goal.returns
returns c = let a = c.ask in
    asked_plan _ _ _ c.requires.0 _ _ refl refl a.result _ _ a.ensures _ (c.unwrap.ensures ∙ ap Ok c.in-Accepted.is) a.auto.plan c.put_plan.ensures.adds
