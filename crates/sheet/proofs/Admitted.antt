-- A sheet that was read is admitted in memory: none of 4, 5 and 6 is its refusal.
use mathlib.Core.Path.{◌≡◌, refl, sym, ap, ◌∙◌}
use mathlib.Core.Bool.{Bool, true, ◌||◌}
use mathlib.Core.List.{List, [], ◌∷◌, ◌++◌}
use Prim.Native.Nat.{ℕ, zero, suc, ◌+◌, ◌*◌}
use native.Mathlib.Omega.{arith}
use lib.IntN.{ℤ}
use lib.Dec.{ltb}
use lib.ListN.{set, replicate}
use lib.Seq.{take_all}
use Rattle.tables.specs.Sheets.{Sheet, no_window, in_limit, absent, admits, all, places, scheduled, admitted, refusal}
use Rattle.tables.specs.Admitted.{Sizes}
use Rattle.tables.proofs.Laws.{both, sized_yes, refused_not, yes}
use Rattle.sheet.specs.File.{got, Placed, mode_at, modes_at, put, laid, tables_of, schedule_at, sheet_in}
use Rattle.sheet.proofs.Numbers.{after_got, tested_value}
use Rattle.sheet.proofs.Following.{then_got}
use Rattle.sheet.proofs.Windows.{Good, good}
use Rattle.sheet.proofs.Sheets.{sheeted}

-- ---- a test of every element
module _ {A : Type 0} (f : A → Bool) where
  pub all_append : (a b : List A) → all f a ≡ true → all f b ≡ true → all f (a ++ b) ≡ true
  unfolding all
  all_append [] b p q = q
  all_append (x ∷ a) b p q = let h = both (f x) (all f a) p in yes (f x) (all f (a ++ b)) h.0 (all_append a b h.1 q)

  all_replicate : (n : ℕ) (x : A) → f x ≡ true → all f (replicate n x) ≡ true
  unfolding all
  all_replicate zero x h = refl
  all_replicate (suc n) x h = yes (f x) (all f (replicate n x)) h (all_replicate n x h)

  all_set : (l : List A) (i : ℕ) (x : A) → all f l ≡ true → f x ≡ true → all f (set l i x) ≡ true
  unfolding all
  all_set [] i x p h = refl
  all_set (y ∷ l) zero x p h = yes (f x) (all f l) h (both (f y) (all f l) p).1
  all_set (y ∷ l) (suc i) x p h = let b = both (f y) (all f l) p in yes (f y) (all f (set l i x)) b.0 (all_set l i x b.1 h)

-- ---- the values of the tables
limit_admitted : (v : ℤ) → in_limit v ≡ true → admits v ≡ true
limit_admitted v e = ap (λ (b : Bool). b || absent v) e

admitted_put : (windows : List Placed) (size low : ℕ) (part : List ℤ) → Good size low windows → all admits part ≡ true → all admits (put windows part) ≡ true
unfolding put Good
admitted_put [] size low part g h = h
admitted_put (w ∷ rest) size low part g h = admitted_put rest size (w.place + 1) (set part w.place w.limit) g.3 (all_set admits part w.place w.limit h (limit_admitted w.limit g.2))

admitted_mode : (file : List ℕ) (n at : ℕ) (windows : List Placed) (next : ℕ) → mode_at file n at ≡ got windows next → all admits (laid (4 * (n * n)) windows) ≡ true
unfolding mode_at laid
admitted_mode file n at windows next h =
    let c = after_got _ _ _ _ h in
    admitted_put windows (4 * (n * n)) 0 (replicate (4 * (n * n)) no_window) (good file n c.value 0 c.place windows next c.rest) (all_replicate admits (4 * (n * n)) no_window refl)

admitted_modes : (file : List ℕ) (n m at : ℕ) (modes : List (List Placed)) (next : ℕ) → modes_at file n m at ≡ got modes next → all admits (tables_of n modes) ≡ true
unfolding modes_at tables_of all
admitted_modes file n zero at modes next h = let e : modes ≡ [] = cc in rw e
admitted_modes file n (suc m) at modes next h =
    let w = then_got _ _ _ _ h in
    let r = then_got _ _ _ _ w.rest in
    let e : modes ≡ w.thing ∷ r.thing = cc r.rest in
    rw e (all_append admits (laid (4 * (n * n)) w.thing) (tables_of n r.thing) (admitted_mode file n at w.thing w.place w.is) (admitted_modes file n m w.place r.thing r.place r.is))

-- ---- the modes of the schedule
below_m : (file : List ℕ) (m positions at : ℕ) (schedule : List ℕ) (next : ℕ) → schedule_at file m positions at ≡ got schedule next → all (λ t. ltb t m) schedule ≡ true
unfolding schedule_at all
below_m file m zero at schedule next h = let e : schedule ≡ [] = cc in rw e
below_m file m (suc positions) at schedule next h =
    let t = after_got _ _ _ _ h in
    let r = then_got _ _ _ _ t.rest in
    let e : schedule ≡ t.value ∷ r.thing = cc r.rest in
    let v = tested_value _ _ _ _ _ t.is in
    rw e (yes (ltb t.value m) (all (λ t. ltb t m) r.thing) v.1 (below_m file m positions t.place r.thing r.place r.is))

pub read_admitted : (file : List ℕ) (s : Sheet) (next : ℕ) → sheet_in file ≡ got s next → refusal s ≡ 0
unfolding scheduled admitted
read_admitted file s next h =
    let d = sheeted file s next h in
    let c = d.count in
    let t = d.tables in
    let size : Sizes s = record {
      some_events = c.some_events;
      few_events = c.few_events;
      some_modes = c.some_modes;
      few_modes = c.few_modes;
      some_positions = c.some_positions;
      few_positions = c.few_positions;
      long_tables = omega (arith, d.long_tables);
      long_schedule = omega (arith, d.long_schedule);
    } in
    let modes : scheduled s ≡ true =
    ap (λ (l : List ℕ). all (λ t. ltb t s.m) l) (take_all s.positions s.schedule (omega (arith, d.long_schedule))) ∙ below_m file s.m s.positions d.a s.schedule d.b d.schedule in
    let values : admitted s ≡ true =
    ap (λ (l : List ℤ). all admits l) (take_all (places s.n s.m) s.tables (omega (arith, d.long_tables)) ∙ t.is) ∙ admitted_modes file s.n s.m d.b t.modes next t.are in
    sym (refused_not s (sized_yes s size) modes values)
