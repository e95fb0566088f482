-- `reader::read_tables` meets its contract: the modes, and then the end of the file.
use Rattle.numbers.specs.Groups.{bad}
use Rattle.numbers.proofs.Reasons.{handed_on}
use Rattle.sheet.specs.File.{got, refused, tables_of, ended, tables_at}
use Rattle.records.proofs.Walking.{walked, unwalked, stopped, arrived}
use Rattle.sheet.proofs.Following.{then_value, then_refused}
use Rattle.records.proofs.Taking.{left_at, left_no}
use Rattle.records.proofs.Modes.{store_from}
use mathlib.Core.Path.{◌≡◌, ◌∙◌}
use mathlib.Core.List.{List}
use Prim.Native.Nat.{ℕ}
use borrow.Author.Tests.{eq-eqb, ne_eqb}
use lib.ListN.{length}
use lib.Seq.{sets}
use lib.IntN.{ℤ}
use Rattle.reader.proofs.read_tables.Goals as goal

-- the two ways of a file whose records are right
module _ (file : List ℕ) (tables : List ℤ) (next : ℕ) where
  ended-yes : next ≡ length file → ended file tables next ≡ got tables next
  unfolding ended
  ended-yes h = rw (eq-eqb next (length file) h)

  ended-no : (next ≡ length file → ⊥) → ended file tables next ≡ refused (bad 8 next)
  unfolding ended
  ended-no h = rw (ne_eqb next (length file) h)

-- what is put into the tables
abbrev all : List ℤ → List ℤ → List ℤ
all was values = sets was 0 values

pub returns-in_err-read_modes-clause-walks : goal.returns-in_err-read_modes-clause-walks
unfolding tables_at
returns-in_err-read_modes-clause-walks c = let a = c.args in
    rw (handed_on _ _ c.from_residual.ensures.1)
    (stopped all (tables_at a.cursor.now.file.now a.n a.m a.cursor.now.at) a.tables.now _ _ (then_refused _ _ _ (unwalked (store_from a.n 0) _ _ _ _ _ (left_no _ _ _ c.in_err-read_modes.was) c.read_modes.ensures.walks)))

pub returns-then-has_surplus-clause-walks : goal.returns-then-has_surplus-clause-walks
unfolding tables_at
returns-then-has_surplus-clause-walks c = let a = c.args in
    let k = walked (store_from a.n 0) _ _ _ _ _ (left_at _ _ _ c.in_ok-read_modes.was) c.read_modes.ensures.walks in
    stopped all (tables_at a.cursor.now.file.now a.n a.m a.cursor.now.at) a.tables.now _ _ (then_value _ _ _ _ k.is ∙ ended-no _ _ _ (rw c.read_modes.ensures.kept at c.if-has_surplus.true))

pub returns-clause-walks : goal.returns-clause-walks
unfolding tables_at
returns-clause-walks c = let a = c.args in
    let k = walked (store_from a.n 0) _ _ _ _ _ (left_at _ _ _ c.in_ok-read_modes.was) c.read_modes.ensures.walks in
    arrived all (tables_at a.cursor.now.file.now a.n a.m a.cursor.now.at) a.tables.now _ (tables_of a.n k.thing) _ (then_value _ _ _ _ k.is ∙ ended-yes _ _ _ (rw c.read_modes.ensures.kept at c.if-has_surplus.false)) k.after
