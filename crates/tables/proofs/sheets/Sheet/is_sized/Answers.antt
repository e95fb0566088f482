-- `tables::Sheet::is_sized` meets its contract: each test that is passed is a part of the definition, and bounds the product of the next.
use mathlib.Core.Path.{◌≡◌, refl, sym, ap, ◌∙◌}
use mathlib.Core.Bool.{Bool, true, false, ◌&&◌}
use Prim.Native.Nat.{ℕ}
use lib.Dec.{leb}
use lib.ListN.{length}
use Rattle.tables.specs.Sheets.{within, sized, places}
use Rattle.tables.proofs.sheets.Sheet.is_sized.Goals as goal
use Rattle.tables.proofs.sheets.Sheet.is_sized.Goals.{then-is_within, else-is_within, then-is_within-2, else-is_within-2, then-is_within-3, else-is_within-3}

-- a conjunction, by its first part
yes : (a b : Bool) {r : Bool} → a ≡ true → r ≡ b → r ≡ (a && b)
yes a b e f = rw e f

no : (a b : Bool) {r : Bool} → a ≡ false → r ≡ false → r ≡ (a && b)
no a b e f = rw e f

pub returns-then-places-self : goal.returns-then-places-self
unfolding sized
returns-then-places-self c = let s = c.args.self.now in
    let one : c.if-is_within.value ≡ (within 12 s.n && within 8 s.m) = elim c.if-is_within.branch [
      | then-is_within w ↦ yes _ _ (sym c.is_within.ensures ∙ w.if-is_within.true) (w.value-is ∙ w.is_within-then-is_within.ensures)
      | else-is_within w ↦ no _ _ (sym c.is_within.ensures ∙ w.if-is_within.false) (w.value-is ∙ w.if-is_within.false)
    ] in
    let two : c.if-is_within-2.value ≡ (within 12 s.n && within 8 s.m && within 16 s.positions) = elim c.if-is_within-2.branch [
      | then-is_within-2 w ↦ yes _ _ (sym one ∙ w.if-is_within-2.true) (w.value-is ∙ w.is_within-then-is_within-2.ensures)
      | else-is_within-2 w ↦ no _ _ (sym one ∙ w.if-is_within-2.false) (w.value-is ∙ w.if-is_within-2.false)
    ] in
    let three : c.if-is_within-3.value ≡ (within 12 s.n && within 8 s.m && within 16 s.positions && leb (places s.n s.m) (length s.tables.now)) = elim c.if-is_within-3.branch [
      | then-is_within-3 w ↦ yes _ _ (sym two ∙ w.if-is_within-3.true) (w.value-is ∙ ap (λ (k : ℕ). leb k (length s.tables.now)) w.places.ensures)
      | else-is_within-3 w ↦ no _ _ (sym two ∙ w.if-is_within-3.false) (w.value-is ∙ w.if-is_within-3.false)
    ] in
    yes _ _ (sym three ∙ c.if-places-self.true) refl

pub returns-else-places-self : goal.returns-else-places-self
unfolding sized
returns-else-places-self c = let s = c.args.self.now in
    let one : c.if-is_within.value ≡ (within 12 s.n && within 8 s.m) = elim c.if-is_within.branch [
      | then-is_within w ↦ yes _ _ (sym c.is_within.ensures ∙ w.if-is_within.true) (w.value-is ∙ w.is_within-then-is_within.ensures)
      | else-is_within w ↦ no _ _ (sym c.is_within.ensures ∙ w.if-is_within.false) (w.value-is ∙ w.if-is_within.false)
    ] in
    let two : c.if-is_within-2.value ≡ (within 12 s.n && within 8 s.m && within 16 s.positions) = elim c.if-is_within-2.branch [
      | then-is_within-2 w ↦ yes _ _ (sym one ∙ w.if-is_within-2.true) (w.value-is ∙ w.is_within-then-is_within-2.ensures)
      | else-is_within-2 w ↦ no _ _ (sym one ∙ w.if-is_within-2.false) (w.value-is ∙ w.if-is_within-2.false)
    ] in
    let three : c.if-is_within-3.value ≡ (within 12 s.n && within 8 s.m && within 16 s.positions && leb (places s.n s.m) (length s.tables.now)) = elim c.if-is_within-3.branch [
      | then-is_within-3 w ↦ yes _ _ (sym two ∙ w.if-is_within-3.true) (w.value-is ∙ ap (λ (k : ℕ). leb k (length s.tables.now)) w.places.ensures)
      | else-is_within-3 w ↦ no _ _ (sym two ∙ w.if-is_within-3.false) (w.value-is ∙ w.if-is_within-3.false)
    ] in
    no _ _ (sym three ∙ c.if-places-self.false) c.if-places-self.false
