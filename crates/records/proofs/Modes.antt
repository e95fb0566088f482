-- A mode's windows put into its part of the tables, and the modes one after the other.
use mathlib.Core.Path.{◌≡◌, refl, sym, ap, ◌∙◌}
use mathlib.Core.List.{List, [], ◌∷◌}
use Prim.Native.Nat.{ℕ, ◌+◌, ◌-◌, ◌*◌, ◌≤◌, ◌<◌}
use native.Mathlib.Omega.{arith}
use native.Mathlib.Nat.{add-mul}
use lib.IntN.{ℤ}
use lib.ListN.{length, set, replicate, length-set, length-replicate}
use lib.Seq.{sets}
use Rattle.std.specs.Prelude.{Result, Ok, Err}
use Rattle.numbers.specs.Refusals.{said}
use Rattle.numbers.specs.declared.refusals.Refusal as code
use Rattle.tables.specs.Sheets.{no_window}
use Rattle.sheet.specs.File.{Part, got, refused, and_then, Placed, records_at, mode_at, modes_at, put, laid, tables_of}
use Rattle.sheet.proofs.Counting.{one, none}
use Rattle.sheet.proofs.Following.{then_value, then_refused}
use Rattle.sheet.proofs.Windows.{Good, good, length_laid}
use Rattle.sheet.proofs.Sets.{sets_append, set_sets}
use Rattle.records.specs.Steps.{Walks}
use Rattle.records.proofs.Walking.{grow, stopped}
use Rattle.records.proofs.Records.{store}

-- windows put into a part that was cleared
put_sets : (windows : List Placed) (xs part : List ℤ) (size low : ℕ) → length xs ≡ size → Good size low windows → put windows (sets part 0 xs) ≡ sets part 0 (put windows xs)
unfolding put Good
put_sets [] xs part size low e g = refl
put_sets (w ∷ rest) xs part size low e g =
    ap (λ (l : List ℤ). put rest l) (ap (λ (k : ℕ). set (sets part 0 xs) k w.limit) (zero-add w.place) ∙ set_sets xs part 0 w.place w.limit (omega (arith, g.1)))
    ∙ put_sets rest (set xs w.place w.limit) part size (w.place + 1) (length-set xs w.place w.limit ∙ e) g.3
  where
    zero-add : (k : ℕ) → k ≡ 0 + k
    zero-add k = omega arith

-- what is put into the part of one mode, and into the tables from a place on
abbrev pub store_mode : ℕ → List ℤ → List Placed → List ℤ
store_mode n was windows = sets was 0 (laid (4 * (n * n)) windows)

abbrev pub store_from : ℕ → ℕ → List ℤ → List (List Placed) → List ℤ
store_from n base was modes = sets was base (tables_of n modes)

pub mode_walks : (file : List ℕ) (n count at : ℕ) (part : List ℤ) (r : Result ℕ code.Refusal) (now : List ℤ)
    → Walks store (records_at file n count 0 at) (sets part 0 (replicate (4 * (n * n)) no_window)) r now → Walks (store_mode n) (records_at file n count 0 at) part r now
unfolding Walks laid
mode_walks file n count at part r now h = cases (records_at file n count 0 at) refl h
  where
    cases : (x : Part (List Placed)) → records_at file n count 0 at ≡ x → Walks store x (sets part 0 (replicate (4 * (n * n)) no_window)) r now → Walks (store_mode n) x part r now
    cases (got windows next) e h = (h.0, h.1 ∙ put_sets windows (replicate (4 * (n * n)) no_window) part (4 * (n * n)) 0 (length-replicate (4 * (n * n)) no_window) (good file n count 0 at windows next e))
    cases (refused why) e h = h

-- ---- the loop over the modes: t of them are passed
unroll : (file : List ℕ) (n m t p : ℕ) → t < m → modes_at file n (m - t) p ≡ and_then (mode_at file n p) (λ windows a. and_then (modes_at file n (m - (t + 1)) a) (λ rest b. got (windows ∷ rest) b))
unfolding modes_at
unroll file n m t p h = ap (λ (k : ℕ). modes_at file n k p) (one m t h)

module _ (file : List ℕ) (n m t p : ℕ) (tables : List ℤ) where
  pub mode_next : t < m → (windows : List Placed) (a : ℕ) → mode_at file n p ≡ got windows a → (after : List ℤ) → after ≡ sets tables (t * (4 * (n * n))) (laid (4 * (n * n)) windows)
      → (r : Result ℕ code.Refusal) (now : List ℤ) → Walks (store_from n ((t + 1) * (4 * (n * n)))) (modes_at file n (m - (t + 1)) a) after r now → Walks (store_from n (t * (4 * (n * n)))) (modes_at file n (m - t) p) tables r now
  unfolding tables_of
  mode_next h windows a e after q r now g =
      rw (unroll file n m t p h ∙ then_value _ _ windows a e)
      (grow (store_from n (t * (4 * (n * n)))) (store_from n ((t + 1) * (4 * (n * n)))) windows tables after
      (λ rest. sets_append (laid (4 * (n * n)) windows) (tables_of n rest) tables (t * (4 * (n * n)))
      ∙ ap (λ (l : List ℤ). sets l (t * (4 * (n * n)) + length (laid (4 * (n * n)) windows)) (tables_of n rest)) (sym q)
      ∙ ap (λ (k : ℕ). sets after k (tables_of n rest)) (step (laid (4 * (n * n)) windows) (length_laid (4 * (n * n)) windows)))
      _ r now g)
    where
      step : (l : List ℤ) → length l ≡ 4 * (n * n) → t * (4 * (n * n)) + length l ≡ (t + 1) * (4 * (n * n))
      step l e = omega (arith, add-mul t 1 (4 * (n * n)))

  pub mode_stop : t < m → (why : code.Refusal) → mode_at file n p ≡ refused (said why) → (base : ℕ) (now : List ℤ) → Walks (store_from n base) (modes_at file n (m - t) p) tables (Err why) now
  mode_stop h why e base now = stopped (store_from n base) _ tables now why (unroll file n m t p h ∙ then_refused _ _ (said why) e)

  pub mode_done : m ≤ t → (base : ℕ) → Walks (store_from n base) (modes_at file n (m - t) p) tables (Ok p) tables
  unfolding Walks modes_at tables_of
  mode_done h base = rw (none m t h) (refl, refl)
