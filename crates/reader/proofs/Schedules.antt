-- The mode numbers of a schedule, one after the other.
use mathlib.Core.Path.{◌≡◌, refl, sym, ap, ◌∙◌}
use mathlib.Core.List.{List, ◌∷◌}
use Prim.Native.Nat.{ℕ, ◌+◌, ◌-◌, ◌≤◌, ◌<◌}
use native.Mathlib.Numerals.{add-one}
use lib.Dec.{ltb}
use lib.ListN.{set}
use lib.Seq.{sets}
use Rattle.sheet.proofs.Counting.{one, none}
use Rattle.numbers.specs.Groups.{number_at}
use Rattle.std.specs.Prelude.{Result, Ok, Err}
use Rattle.numbers.specs.Refusals.{said}
use Rattle.numbers.specs.declared.refusals.Refusal as code
use Rattle.numbers.specs.Groups.{Value, Refused}
use Rattle.sheet.specs.File.{got, tested, after, and_then, schedule_at}
use Rattle.records.specs.Steps.{Walks}
use Rattle.sheet.proofs.Numbers.{after_value, after_refused}
use Rattle.records.proofs.Walking.{grow, stopped}

abbrev pub store_modes : ℕ → List ℕ → List ℕ → List ℕ
store_modes h was modes = sets was h modes

unroll : (file : List ℕ) (m v h p : ℕ) → h < v → schedule_at file m (v - h) p ≡ after (tested (λ t. ltb t m) 5 (number_at file p)) (λ t a. and_then (schedule_at file m (v - (h + 1)) a) (λ rest b. got (t ∷ rest) b))
unfolding schedule_at
unroll file m v h p l = ap (λ (k : ℕ). schedule_at file m k p) (one v h l)

module _ (file : List ℕ) (m v h p : ℕ) (schedule : List ℕ) where
  pub position_next : h < v → (t began a : ℕ) → tested (λ t. ltb t m) 5 (number_at file p) ≡ Value t began a → (r : Result ℕ code.Refusal) (now : List ℕ)
      → Walks (store_modes (h + 1)) (schedule_at file m (v - (h + 1)) a) (set schedule h t) r now → Walks (store_modes h) (schedule_at file m (v - h) p) schedule r now
  position_next l t began a e r now g =
      rw (unroll file m v h p l ∙ after_value _ _ t a e)
      (grow (store_modes h) (store_modes (h + 1)) t schedule (set schedule h t) (λ rest. ap (λ (k : ℕ). sets (set schedule h t) k rest) (sym (add-one h))) _ r now g)

  pub position_stop : h < v → (why : code.Refusal) → tested (λ t. ltb t m) 5 (number_at file p) ≡ Refused (said why) → Walks (store_modes h) (schedule_at file m (v - h) p) schedule (Err why) schedule
  position_stop l why e = stopped (store_modes h) _ schedule schedule why (unroll file m v h p l ∙ after_refused _ _ (said why) e)

  pub position_done : v ≤ h → Walks (store_modes h) (schedule_at file m (v - h) p) schedule (Ok p) schedule
  unfolding Walks schedule_at
  position_done l = rw (none v h l) (refl, refl)
