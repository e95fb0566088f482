-- One value that may not stand there decides.
use mathlib.Core.Path.{◌≡◌, refl, sym, ap, ◌∙◌}
use borrow.Author.Rules.{rules}
use lib.IntN.{pos}
use lib.ListN.{get_or}
use mir.Syntax.{w32}
use mir.Val.{to_z, of_z}
use Rattle.std.specs.List.{list_all}
use Rattle.std.proofs.lemmas.List.{take_all}
use Rattle.std.proofs.lemmas.List.Folds.{list_all_more, list_all_at}
use Rattle.tables.specs.Sheets.{admits}
use Rattle.tables.proofs.Laws.{yes}
use Rattle.tables.proofs.sheets.are_admitted.Goals as goal

pub loop-value-init : goal.loop-value-init
loop-value-init c = refl

pub returns-then-not-is_admitted : goal.returns-then-not-is_admitted
returns-then-not-is_admitted c =
    let values = c.args.values.now in
    let k = c.loop-value.value-index in
    let v = get_or values k (pos 0) in
    let back : to_z w32 (of_z w32 v) ≡ v = search rules in
    sym (list_all_at admits values k (pos 0) c.loop-value-test.true (sym (c.is_admitted.ensures ∙ ap admits back) ∙ c.if-not-is_admitted.true))

pub loop-value-preserved : goal.loop-value-preserved
loop-value-preserved c =
    let values = c.args.values.now in
    let k = c.loop-value.value-index in
    let v = get_or values k (pos 0) in
    let back : to_z w32 (of_z w32 v) ≡ v = search rules in
    list_all_more admits values k (pos 0) c.loop-value-test.true ∙ yes _ _ c.loop-value.invariant (sym (c.is_admitted.ensures ∙ ap admits back) ∙ c.if-not-is_admitted.false)

pub returns : goal.returns
returns c = sym (sym (ap (list_all admits) (take_all c.loop-value.value-index c.args.values.now c.loop-value-test.false)) ∙ c.loop-value.invariant)
