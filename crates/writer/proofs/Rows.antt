-- The windows of a part, the modes and the schedule, written one after the other: the steps of the writer's loops.
use mathlib.Core.Path.{◌≡◌, refl, sym, ap, ◌∙◌}
use mathlib.Core.Bool.{Bool, true, false, cond, not}
use mathlib.Core.List.{List, [], ◌∷◌, ◌++◌}
use Prim.Native.Nat.{ℕ, suc, ◌+◌, ◌-◌, ◌*◌, ◌/◌, ◌%◌, ◌≤◌, ◌<◌}
use native.Mathlib.Omega.{arith}
use native.Mathlib.Numerals.{add-one}
use native.Mathlib.Nat.{add-mul, zero-mul, sub-zero}
use lib.IntN.{ℤ, pos}
use lib.ListN.{length, take, drop, get_or}
use lib.Seq.{drop-cons, drop-drop}
use Rattle.std.specs.List.{count_by}
use Rattle.std.proofs.lemmas.List.{drop_all}
use Rattle.std.proofs.lemmas.List.Recursion.{is_count_by}
use Rattle.numbers.specs.Signs.{encoded}
use Rattle.tables.specs.Sheets.{absent}
use Rattle.sheet.specs.File.{Placed}
use Rattle.sheet.specs.Written.{cell, placed_of, records, mode_numbers, modes_numbers}
use Rattle.sheet.proofs.Counting.{one, none}
use Rattle.sheet.proofs.Parts.{cell_absent, cell_present}
use Rattle.writer.specs.Steps.{Adds}
use Rattle.writer.specs.declared.Numbers.{Numbers}
use Rattle.writer.proofs.Runs.{Leaves, leaves_all, leaves_less, leaves_none}

-- ---- the windows of a part: k places are passed
abbrev pub left : List ℤ → ℕ → List Placed
left part k = placed_of k (drop k part)

module _ (part : List ℤ) (k : ℕ) where
  pub left_cons : k < length part → left part k ≡ cell k (get_or part k (pos 0)) ++ left part (k + 1)
  unfolding placed_of
  left_cons h = rw (drop-cons part k (pos 0) h, add-one k)

  pub left_none : length part ≤ k → left part k ≡ []
  unfolding placed_of
  left_none h = rw (drop_all k part h)

-- how many windows there are does not turn on where the part begins
anywhere : (k j : ℕ) (part : List ℤ) → length (placed_of k part) ≡ length (placed_of j part)
unfolding placed_of
anywhere k j [] = refl
anywhere k j (v ∷ part) = go (absent v) refl (anywhere (k + 1) (j + 1) part)
  where
    go : (b : Bool) → absent v ≡ b → length (placed_of (k + 1) part) ≡ length (placed_of (j + 1) part) → length (cell k v ++ placed_of (k + 1) part) ≡ length (cell j v ++ placed_of (j + 1) part)
    go true e rest = rw (cell_absent k v e, cell_absent j v e) rest
    go false e rest = rw (cell_present k v e, cell_present j v e) (ap suc rest)

-- there are as many as values that say one
pub counted : (part : List ℤ) → count_by (λ v. not (absent v)) part ≡ length (placed_of 0 part)
unfolding placed_of
counted part = sym (is_count_by (λ xs. length (placed_of 0 xs)) (λ v. not (absent v)) refl (λ v xs. go v xs (absent v) refl) part)
  where
    go : (v : ℤ) (xs : List ℤ) (b : Bool) → absent v ≡ b → length (cell 0 v ++ placed_of (0 + 1) xs) ≡ cond (not b) (1 + length (placed_of 0 xs)) (length (placed_of 0 xs))
    go v xs true e = rw (cell_absent 0 v e) (anywhere (0 + 1) 0 xs)
    go v xs false e = rw (cell_present 0 v e) (omega (arith, anywhere (0 + 1) 0 xs))

pub records_append : (n : ℕ) (a b : List Placed) → records n (a ++ b) ≡ records n a ++ records n b
unfolding records
records_append n [] b = refl
records_append n (w ∷ a) b = ap (λ (l : List ℕ). (w.place / (n * n)) ∷ (w.place / n % n + 1) ∷ (w.place % n + 1) ∷ encoded w.limit ∷ l) (records_append n a b)

module _ {s t : Numbers} {whole : List ℕ} (part : List ℤ) (k n : ℕ) (e : Leaves s whole t (records n (left part k))) where
  pub windows_next : {u : Numbers} → k < length part → Adds t (records n (cell k (get_or part k (pos 0)))) u → Leaves s whole u (records n (left part (k + 1)))
  windows_next h x = leaves_less (rw (left_cons part k h, records_append n (cell k (get_or part k (pos 0))) (left part (k + 1))) at e) x

  pub windows_done : length part ≤ k → Adds s whole t
  unfolding records
  windows_done h = leaves_none (rw (left_none part k h) at e)

-- ---- the modes: g of them are passed
abbrev pub left_modes : ℕ → ℕ → List ℤ → ℕ → List ℕ
left_modes n m tables g = modes_numbers n (m - g) (drop (g * (4 * (n * n))) tables)

-- the part of the tables that has a mode's windows
abbrev part_of : ℕ → List ℤ → ℕ → List ℤ
part_of n tables g = take (4 * (n * n)) (drop (g * (4 * (n * n))) tables)

pub modes_first : (t : Numbers) (tables : List ℤ) (n m : ℕ) → Leaves t (modes_numbers n m tables) t (left_modes n m tables 0)
modes_first t tables n m = rw (sub-zero m, zero-mul (4 * (n * n))) (leaves_all t (modes_numbers n m tables))

module _ (tables : List ℤ) (n m g : ℕ) where
  left_modes_cons : g < m → left_modes n m tables g ≡ mode_numbers n (part_of n tables g) ++ left_modes n m tables (g + 1)
  unfolding modes_numbers
  left_modes_cons h =
      ap (λ (k : ℕ). modes_numbers n k (drop (g * (4 * (n * n))) tables)) (one m g h)
      ∙ ap (λ (l : List ℤ). mode_numbers n (part_of n tables g) ++ modes_numbers n (m - (g + 1)) l) (drop-drop (4 * (n * n)) (g * (4 * (n * n))) tables ∙ ap (λ (k : ℕ). drop k tables) (step g (4 * (n * n))))
    where
      step : (g k : ℕ) → g * k + k ≡ (g + 1) * k
      step g k = omega (arith, add-mul g 1 k)

  left_modes_none : m ≤ g → left_modes n m tables g ≡ []
  unfolding modes_numbers
  left_modes_none h = ap (λ (k : ℕ). modes_numbers n k (drop (g * (4 * (n * n))) tables)) (none m g h)

  module _ {s t : Numbers} {whole : List ℕ} (e : Leaves s whole t (left_modes n m tables g)) where
    pub modes_next : {u : Numbers} → g < m → Adds t (mode_numbers n (part_of n tables g)) u → Leaves s whole u (left_modes n m tables (g + 1))
    modes_next h x = leaves_less (rw (left_modes_cons h) at e) x

    pub modes_done : m ≤ g → Adds s whole t
    modes_done h = leaves_none (rw (left_modes_none h) at e)

-- ---- the schedule: h positions are passed
module _ {s t : Numbers} {whole : List ℕ} (schedule : List ℕ) (h : ℕ) (e : Leaves s whole t (drop h schedule)) where
  pub schedule_next : {u : Numbers} → h < length schedule → Adds t (get_or schedule h 0 ∷ []) u → Leaves s whole u (drop (h + 1) schedule)
  schedule_next l x = leaves_less (rw (drop-cons schedule h 0 l, ← add-one h) at e) x

  pub schedule_done : length schedule ≤ h → Adds s whole t
  schedule_done l = leaves_none (rw (drop_all h schedule l) at e)
