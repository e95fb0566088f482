-- Where the modes' records begin: one mode more is counted behind those before it.
use mathlib.Core.Path.{◌≡◌, refl, ◌∙◌}
use mathlib.Core.List.{List}
use Prim.Native.Nat.{ℕ, zero, suc, ◌+◌, ◌<◌}
use native.Mathlib.Omega.{arith}
use native.Mathlib.Decide.{ℕ_discrete}
use native.Mathlib.Numerals.{add-one}
use lib.IntN.{ℤ}
use lib.ListN.{length, get_or, set, replicate, length-append}
use lib.Seq.{get_or-set_same, get_or-set_other}
use Rattle.layout.specs.Records.{mode_records, laid_out, Starts}

pub starts_none : (tables : List ℤ) (n : ℕ) → Starts tables n (replicate 9 0) 0
unfolding laid_out
starts_none tables n zero h = refl
starts_none tables n (suc j) h = absurd (omega arith)

pub starts_more : (tables : List ℤ) (n : ℕ) (start : List ℕ) (t : ℕ) → Starts tables n start t → (w : ℕ) → w ≡ length (mode_records tables n t) → t + 1 < length start
    → Starts tables n (set start (t + 1) (get_or start t 0 + w)) (t + 1)
unfolding laid_out
starts_more tables n start t s w e h j p =
    elim (ℕ_discrete j (t + 1)) [
      | yes x ↦ rw (x, get_or-set_same start (t + 1) (get_or start t 0 + w) 0 h, add-one t, length-append (laid_out tables n t) (mode_records tables n t), s t (omega arith), e)
      | no x ↦ get_or-set_other start (t + 1) j (get_or start t 0 + w) 0 x ∙ s j (omega arith)
    ]
