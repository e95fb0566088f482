-- `telling::tell_admitted` meets its contract: the ends or none.
use mathlib.Core.Path.{refl, ap, ◌∙◌}
use native.Mathlib.Omega.{arith}
use Rattle.std.specs.Prelude.{Ok}
use Rattle.telling.proofs.Telling.{stands_few, low_askable, found_told, none_told, tells_ends, tells_none, ended_found, ended_none, ended_ok}
use Rattle.telling.proofs.tell_admitted.Goals as goal

pub unwrap-requires : goal.unwrap-requires
unwrap-requires c = let e = c.ends in ended_ok _ c.args.admitted.now.admitted _ _ refl refl e.result _ _ e.ensures

pub put_found-requires : goal.put_found-requires
put_found-requires c = let e = c.ends in
    let f = ended_found _ c.args.admitted.now.admitted _ _ refl refl e.result _ _ e.ensures _ _ (c.unwrap.ensures ∙ ap Ok c.in-Found.is) e.auto.first e.auto.second in
    let a = stands_few _ f.admitted f.first_stands in
    let b = stands_few _ f.admitted f.second_stands in
    (omega (arith, c.requires), a.0, b.0, a.1, b.1)

pub tell_plan-requires : goal.tell_plan-requires
tell_plan-requires c = let e = c.ends in
    let f = ended_found _ c.args.admitted.now.admitted _ _ refl refl e.result _ _ e.ensures _ _ (c.unwrap.ensures ∙ ap Ok c.in-Found.is) e.auto.first e.auto.second in
    (low_askable _ f.admitted f.shown, omega (arith, c.put_found.ensures.short, c.requires))

pub put_none-requires : goal.put_none-requires
put_none-requires c = let e = c.ends in
    let n = ended_none _ c.args.admitted.now.admitted _ _ refl refl e.result _ _ e.ensures _ (c.unwrap.ensures ∙ ap Ok c.in-None.is) e.auto.first e.auto.second in
    let a = stands_few _ n.admitted n.first_stands in
    let b = stands_few _ n.admitted n.second_stands in
    (omega (arith, c.requires), a.0, b.0, a.1, b.1)

pub returns-in-Found : goal.returns-in-Found
returns-in-Found c = let e = c.ends in
    let f = ended_found _ c.args.admitted.now.admitted _ _ refl refl e.result _ _ e.ensures _ _ (c.unwrap.ensures ∙ ap Ok c.in-Found.is) e.auto.first e.auto.second in
    tells_ends _ (found_told _ f c.put_found.ensures.adds c.tell_plan.ensures)

pub returns-in-None : goal.returns-in-None
returns-in-None c = let e = c.ends in
    tells_none _ (none_told _ (ended_none _ c.args.admitted.now.admitted _ _ refl refl e.result _ _ e.ensures _ (c.unwrap.ensures ∙ ap Ok c.in-None.is) e.auto.first e.auto.second) c.put_none.ensures.adds)
