-- A place with a window counts one more, a place without one nothing.
use mathlib.Core.Path.{◌≡◌, refl, sym, ap, ◌∙◌}
use Prim.Native.Nat.{ℕ, ◌+◌}
use native.Mathlib.Omega.{arith}
use borrow.Author.Rules.{rules}
use lib.IntN.{pos}
use lib.ListN.{get_or}
use mir.Syntax.{w32}
use mir.Val.{to_z, of_z}
use Rattle.std.specs.Prelude.{not, count_by}
use Rattle.std.proofs.lemmas.List.{take_all}
use Rattle.std.proofs.lemmas.List.Sums.{count_by_more_no, count_by_more_yes}
use Rattle.tables.specs.Sheets.{absent}
use Rattle.tables.proofs.count_windows.Goals as goal
use Rattle.tables.proofs.count_windows.Goals.{then-not-is_absent, else-not-is_absent}

pub loop-value-init : goal.loop-value-init
loop-value-init c = (omega arith, refl)

pub overflow_add-count : goal.overflow_add-count
overflow_add-count c = omega (arith, c.loop-value.invariant.0, c.loop-value-test.true)

pub loop-value-preserved : goal.loop-value-preserved
loop-value-preserved c =
    let part = c.args.part.now in
    let k = c.loop-value.value-index in
    let v = get_or part k (pos 0) in
    let back : to_z w32 (of_z w32 v) ≡ v = search rules in
    let told : c.is_absent.result ≡ absent v = c.is_absent.ensures ∙ ap absent back in
    elim c.if-not-is_absent.branch [
      | then-not-is_absent r ↦ (
        omega (arith, r.count-is, c.loop-value.invariant.0),
        r.count-is ∙ ap (λ (x : ℕ). x + 1) c.loop-value.invariant.1 ∙ sym (count_by_more_yes (λ v. not (absent v)) part k (pos 0) c.loop-value-test.true (ap not (sym told ∙ r.if-not-is_absent.true))),
      )
      | else-not-is_absent r ↦ (
        omega (arith, r.count-is, c.loop-value.invariant.0),
        r.count-is ∙ c.loop-value.invariant.1 ∙ sym (count_by_more_no (λ v. not (absent v)) part k (pos 0) c.loop-value-test.true (ap not (sym told ∙ r.if-not-is_absent.false))),
      )
    ]

pub returns : goal.returns
returns c = c.loop-value.invariant.1 ∙ ap (count_by (λ v. not (absent v))) (take_all c.loop-value.value-index c.args.part.now c.loop-value-test.false)
