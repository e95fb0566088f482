-- `records::read_mode` meets its contract: the windows are put into a cleared part, which is the part laid out.
use Rattle.sheet.specs.File.{Part, Placed, mode_at, records_at, tested}
use Rattle.records.specs.Steps.{Walks, between, left}
use Rattle.sheet.proofs.Numbers.{after_value, after_refused, tested_same}
use Rattle.records.proofs.Ranges.{up_to}
use Rattle.records.proofs.Walking.{stopped}
use Rattle.records.proofs.Taking.{took, took_no}
use Rattle.records.proofs.Records.{store}
use Rattle.records.proofs.Modes.{store_mode, mode_walks}
use Rattle.numbers.proofs.Reasons.{handed_on}
use mathlib.Core.Path.{◌≡◌, sym, subst, ◌∙◌}
use mathlib.Core.List.{List}
use Prim.Native.Nat.{ℕ, ◌*◌}
use lib.Dec.{leb}
use lib.IntN.{ℤ}
use Rattle.numbers.specs.Groups.{number_at}
use Rattle.records.proofs.read_mode.Goals as goal

-- the count, refused above 4·n²
count_is : (file : List ℕ) (n at : ℕ) → tested (λ count. leb count (4 * (n * n))) 6 (number_at file at) ≡ tested (between 0 (4 * (n * n))) 6 (number_at file at)
count_is file n at = sym (tested_same (between 0 (4 * (n * n))) (λ count. leb count (4 * (n * n))) (λ v. up_to v (4 * (n * n))) 6 (number_at file at))

pub returns-in_err-count-clause-walks : goal.returns-in_err-count-clause-walks
unfolding mode_at
returns-in_err-count-clause-walks c = let a = c.args in
    rw (handed_on _ _ c.from_residual.ensures.1)
    (stopped (store_mode a.n) _ a.part.now a.part.now c.in_err-count.field-0.0
    (after_refused _ _ _ (count_is a.cursor.now.file.now a.n a.cursor.now.at ∙ took_no _ _ _ _ (rw c.places-size.ensures at c.number_within.ensures.reads) _ c.in_err-count.was)))

pub returns-clause-walks : goal.returns-clause-walks
unfolding mode_at
returns-clause-walks c = let a = c.args in
    let file = a.cursor.now.file.now in
    let at = c.number_within.new.self.at in
    subst (λ (x : Part (List Placed)). Walks (store_mode a.n) x a.part.now (left c.read_windows.result c.read_windows.new.cursor.at) c.read_windows.new.part)
    (sym (after_value _ _ _ _ (count_is file a.n a.cursor.now.at ∙ took _ _ _ _ (rw c.places-size.ensures at c.number_within.ensures.reads) _ c.in_ok-count.was)))
    (mode_walks file a.n c.in_ok-count.count at a.part.now _ _
    (subst (λ (l : List ℤ). Walks store (records_at file a.n c.in_ok-count.count 0 at) l (left c.read_windows.result c.read_windows.new.cursor.at) c.read_windows.new.part)
    (rw c.places-size.ensures at c.clear.ensures) (rw c.number_within.ensures.kept at c.read_windows.ensures.walks)))
