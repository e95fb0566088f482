-- `records::read_windows` meets its contract. The invariant: the file is the same, and what ends the records that are left ends them all.
use Rattle.sheet.proofs.Windows.{place_within, few}
use Rattle.records.proofs.Records.{store, next, stop, done}
use Rattle.sheet.specs.File.{got, placed, record_at, records_at}
use Rattle.records.specs.Steps.{Walks}
use Rattle.records.proofs.Taking.{found, found_no}
use Rattle.numbers.specs.Signs.{decoded}
use Rattle.numbers.proofs.Signs.{passed}
use Rattle.numbers.proofs.Reasons.{handed_on}
use mathlib.Core.Path.{◌≡◌, refl, ap, subst, ◌∙◌}
use mathlib.Core.List.{List}
use Prim.Native.Nat.{ℕ, ◌+◌, ◌-◌}
use native.Mathlib.Omega.{arith}
use native.Mathlib.Nat.{sub-zero}
use lib.ListN.{set}
use lib.IntN.{ℤ}
use Rattle.records.proofs.read_windows.Goals as goal

pub loop-init : goal.loop-init
loop-init c = let a = c.args in
    (refl, λ r now h. subst (λ (m : ℕ). Walks store (records_at a.cursor.now.file.now a.n m 0 a.cursor.now.at) a.part.now r now) (sub-zero a.count) h)

pub returns-in_err-found-clause-walks : goal.returns-in_err-found-clause-walks
returns-in_err-found-clause-walks c = let a = c.args in
    rw (handed_on _ _ c.from_residual.ensures.1)
    (c.loop.invariant.1 _ _ (stop a.cursor.now.file.now a.n a.count c.loop.counter c.loop.low c.loop.cursor.at c.loop.part c.loop-test.true c.in_err-found.field-0.0
    (found_no _ _ _ (rw c.loop.invariant.0 at c.read_window.ensures.reads) _ c.in_err-found.was)))

pub overflow_add-low : goal.overflow_add-low
overflow_add-low c =
    let here : record_at c.args.cursor.now.file.now c.args.n c.loop.low c.loop.cursor.at ≡ got (placed c.in_ok-found.found.place (decoded c.in_ok-found.found.code)) c.read_window.new.cursor.at = found _ _ _ (rw c.loop.invariant.0 at c.read_window.ensures.reads) _ c.in_ok-found.was in
    omega (arith, place_within _ _ _ _ _ _ here, few c.args.n c.requires)

pub loop-preserved : goal.loop-preserved
loop-preserved c =
    let here : record_at c.args.cursor.now.file.now c.args.n c.loop.low c.loop.cursor.at ≡ got (placed c.in_ok-found.found.place (decoded c.in_ok-found.found.code)) c.read_window.new.cursor.at = found _ _ _ (rw c.loop.invariant.0 at c.read_window.ensures.reads) _ c.in_ok-found.was in
    let a = c.args in
    let e : c.put.new.list ≡ set c.loop.part c.in_ok-found.found.place (decoded c.in_ok-found.found.code) =
    c.put.ensures ∙ ap (λ (z : ℤ). set c.loop.part c.in_ok-found.found.place z) (passed c.decode.result c.decode.type_inv ∙ c.decode.ensures) in (
      c.read_window.ensures.kept ∙ c.loop.invariant.0,
      λ r now h. c.loop.invariant.1 r now (next a.cursor.now.file.now a.n a.count c.loop.counter c.loop.low c.loop.cursor.at c.loop.part c.loop-test.true _ _ here r now
          (subst (λ (t : List ℤ). Walks store (records_at a.cursor.now.file.now a.n (a.count - (c.loop.counter + 1)) (c.in_ok-found.found.place + 1) c.read_window.new.cursor.at) t r now) e h)),
    )

pub returns-clause-walks : goal.returns-clause-walks
returns-clause-walks c = let a = c.args in
    c.loop.invariant.1 _ _ (done a.cursor.now.file.now a.n a.count c.loop.counter c.loop.low c.loop.cursor.at c.loop.part c.loop-test.false)
