-- The records of a mode, read one after the other.
use mathlib.Core.Path.{◌≡◌, refl, ap, ◌∙◌}
use mathlib.Core.List.{List, ◌∷◌}
use Prim.Native.Nat.{ℕ, ◌+◌, ◌-◌, ◌≤◌, ◌<◌}
use lib.IntN.{ℤ}
use lib.ListN.{set}
use Rattle.std.specs.Prelude.{Result, Ok, Err}
use Rattle.numbers.specs.Refusals.{said}
use Rattle.numbers.specs.declared.refusals.Refusal as code
use Rattle.sheet.specs.File.{got, refused, and_then, Placed, record_at, records_at, put}
use Rattle.sheet.proofs.Counting.{one, none}
use Rattle.sheet.proofs.Following.{then_value, then_refused}
use Rattle.records.specs.Steps.{Walks}
use Rattle.records.proofs.Walking.{grow, stopped}

-- ---- the loop over the records: k of them are passed
abbrev pub store : List ℤ → List Placed → List ℤ
store was windows = put windows was

unroll : (file : List ℕ) (n count k low p : ℕ) → k < count
    → records_at file n (count - k) low p ≡ and_then (record_at file n low p) (λ w a. and_then (records_at file n (count - (k + 1)) (w.place + 1) a) (λ rest b. got (w ∷ rest) b))
unfolding records_at
unroll file n count k low p h = ap (λ (m : ℕ). records_at file n m low p) (one count k h)

module _ (file : List ℕ) (n count k low p : ℕ) (part : List ℤ) where
  pub next : k < count → (w : Placed) (a : ℕ) → record_at file n low p ≡ got w a → (r : Result ℕ code.Refusal) (now : List ℤ)
      → Walks store (records_at file n (count - (k + 1)) (w.place + 1) a) (set part w.place w.limit) r now → Walks store (records_at file n (count - k) low p) part r now
  unfolding put
  next h w a e r now g = rw (unroll file n count k low p h ∙ then_value _ _ w a e) (grow store store w part (set part w.place w.limit) (λ xs. refl) _ r now g)

  pub stop : k < count → (why : code.Refusal) → record_at file n low p ≡ refused (said why) → Walks store (records_at file n (count - k) low p) part (Err why) part
  stop h why e = stopped store _ part part why (unroll file n count k low p h ∙ then_refused _ _ (said why) e)

  pub done : count ≤ k → Walks store (records_at file n (count - k) low p) part (Ok p) part
  unfolding Walks records_at put
  done h = rw (none count k h) (refl, refl)
