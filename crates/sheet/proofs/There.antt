-- What was written is read: the bytes of an admitted sheet are read as its n, m, V, tables and schedule, without the surplus.
use mathlib.Core.Path.{◌≡◌, refl, sym, ap, ap₂, subst, ◌∙◌}
use mathlib.Core.Bool.{Bool, true}
use mathlib.Core.List.{List, [], ◌∷◌, ◌++◌, append_assoc, append-nil}
use Prim.Native.Nat.{ℕ, zero, suc, ◌+◌, ◌*◌, ◌/◌, ◌%◌, ◌≤◌, ◌<◌}
use native.Mathlib.Omega.{arith}
use native.Mathlib.Nat.{suc-mul}
use borrow.Author.Tests.{leb-true, ltb-true, le-leb, eq-eqb}
use lib.IntN.{ℤ, pos, negsuc}
use lib.Dec.{leb, ltb, eqb}
use lib.ListN.{length, take, drop, length-drop}
use lib.Seq.{take-add, drop-drop, drop-append_seam, length-take-le}
use Rattle.numbers.specs.Groups.{number_at, groups}
use Rattle.numbers.specs.Signs.{encoded, decoded}
use Rattle.numbers.specs.Groups.{Value}
use Rattle.numbers.proofs.Signs.{decoded_encoded}
use Rattle.numbers.proofs.Ways.{read_groups}
use Rattle.numbers.proofs.Reading as reading
use Rattle.tables.specs.Sheets.{Sheet, exact, in_limit, admits, all, within, places, sized, scheduled, admitted, refusal}
use Rattle.tables.proofs.Laws.{both, accepted, passes, yes}
use Rattle.sheet.specs.File.{Part, got, Placed, rising, value_at, record_at, records_at, mode_at, modes_at, tables_of, ended, tables_at, schedule_at, counts, counts_at, sheet_after, sheet_in}
use Rattle.sheet.specs.Written.{in_groups, placed_of, records, mode_numbers, modes_numbers, sheet_numbers, written}
use Rattle.sheet.proofs.Numbers.{after_value, tested_yes}
use Rattle.sheet.proofs.Following.{then_value}
use Rattle.sheet.proofs.Places.{place_of, fit_of}
use Rattle.sheet.proofs.Windows.{few, Good}
use Rattle.sheet.proofs.Parts.{windows_few, laid_windows, good_windows}
use Rattle.sheet.proofs.Sheets.{places_are}

-- from a place on the file is these numbers, to its end
pub record Holds (file : List ℕ) (at : ℕ) (numbers : List ℕ) : Type 0 where
  pub bytes : drop at file ≡ in_groups numbers
  pub inside : at ≤ length file

-- a thing is read, and other numbers follow
pub record There {A : Type 0} (file : List ℕ) (x : Part A) (thing : A) (more : List ℕ) : Type 0 where
  pub next : ℕ
  pub is : x ≡ got thing next
  pub after : Holds file next more

pub record Number (file : List ℕ) (at v : ℕ) (more : List ℕ) : Type 0 where
  pub next : ℕ
  pub is : number_at file at ≡ Value v at next
  pub after : Holds file next more

-- the code of a limit in its range
pub limit_code : (v : ℤ) → in_limit v ≡ true → encoded v ≤ 2000000
limit_code (pos a) e = omega (arith, leb-true a 1000000 e)
limit_code (negsuc a) e = omega (arith, ltb-true a 1000000 e)

module _ (file : List ℕ) where
  pub number : (at v : ℕ) (more : List ℕ) → v < 268435456 → Holds file at (v ∷ more) → Number file at v more
  unfolding in_groups
  number at v more h k =
      let e = read_groups v file at (in_groups more) h k.bytes in
      record {
        next = at + length (groups v);
        is = e;
        after = record {
          bytes = sym (drop-drop (length (groups v)) at file) ∙ ap (λ (l : List ℕ). drop (length (groups v)) l) k.bytes ∙ drop-append_seam (groups v) (in_groups more);
          inside = (reading.value file at v (at + length (groups v)) (sym e)).2;
        };
      }

  -- ---- a record
  window_there : (n low at : ℕ) (w : Placed) (more : List ℕ) → 0 < n → n ≤ 12 → low ≤ w.place → w.place < 4 * (n * n) → in_limit w.limit ≡ true
      → Holds file at ((w.place / (n * n)) ∷ (w.place / n % n + 1) ∷ (w.place % n + 1) ∷ encoded w.limit ∷ more) → There file (record_at file n low at) w more
  unfolding record_at value_at rising
  window_there n low at w more h g l p i k =
      let f = fit_of n w.place h p in
      let c = limit_code w.limit i in
      let a = number at (w.place / (n * n)) _ (omega (arith, f.kinds)) k in
      let b = number a.next (w.place / n % n + 1) _ (omega (arith, f.few_to)) a.after in
      let d = number b.next (w.place % n + 1) _ (omega (arith, f.few_from)) b.after in
      let e = number d.next (encoded w.limit) more (omega arith) d.after in
      record {
        next = e.next;
        is =
            after_value _ _ _ _ (tested_yes (λ kind. leb kind 3) 6 (number_at file at) _ _ a.is (le-leb _ _ f.kinds))
            ∙ after_value _ _ _ _ (tested_yes (within n) 6 (number_at file a.next) _ _ b.is (yes _ _ (le-leb _ _ f.some_to) (le-leb _ _ f.few_to)))
            ∙ after_value _ _ _ _ (tested_yes (within n) 6 (number_at file b.next) _ _ d.is (yes _ _ (le-leb _ _ f.some_from) (le-leb _ _ f.few_from)))
            ∙ after_value _ _ _ _ (tested_yes (λ u. in_limit (decoded u)) 6 (number_at file d.next) _ _ e.is (ap in_limit (decoded_encoded w.limit) ∙ i))
            ∙ rw (place_of n w.place h, decoded_encoded w.limit, le-leb low w.place l);
        after = e.after;
      }

  windows_there : (n low at : ℕ) (windows : List Placed) (more : List ℕ) → 0 < n → n ≤ 12 → Good (4 * (n * n)) low windows → Holds file at (records n windows ++ more)
      → There file (records_at file n (length windows) low at) windows more
  unfolding records_at records Good
  windows_there n low at [] more h g f k = record { next = at; is = refl; after = k }
  windows_there n low at (w ∷ rest) more h g f k =
      let a = window_there n low at w (records n rest ++ more) h g f.0 f.1 f.2 k in
      let b = windows_there n (w.place + 1) a.next rest more h g f.3 a.after in
      record { next = b.next; is = then_value _ _ w a.next a.is ∙ then_value _ _ rest b.next b.is; after = b.after }

  -- ---- a mode
  mode_there : (n at : ℕ) (part : List ℤ) (more : List ℕ) → 0 < n → n ≤ 12 → length part ≡ 4 * (n * n) → all admits part ≡ true → Holds file at (mode_numbers n part ++ more)
      → There file (mode_at file n at) (placed_of 0 part) more
  unfolding mode_at mode_numbers
  mode_there n at part more h g e q k =
      let s = few n g in
      let l = windows_few 0 part in
      let a = number at (length (placed_of 0 part)) (records n (placed_of 0 part) ++ more) (omega arith) k in
      let b = windows_there n 0 a.next (placed_of 0 part) more h g (good_windows (4 * (n * n)) 0 part (omega arith) q) a.after in
      record {
        next = b.next;
        is = after_value _ _ _ _ (tested_yes (λ count. leb count (4 * (n * n))) 6 (number_at file at) _ _ a.is (le-leb (length (placed_of 0 part)) (4 * (n * n)) (omega arith))) ∙ b.is;
        after = b.after;
      }

-- the windows of each mode
unfoldable pub mode_list : ℕ → ℕ → List ℤ → List (List Placed)
mode_list n zero tables = []
mode_list n (suc m) tables = placed_of 0 (take (4 * (n * n)) tables) ∷ mode_list n m (drop (4 * (n * n)) tables)

pub all_both : {A : Type 0} (f : A → Bool) (a b : List A) → all f (a ++ b) ≡ true → (all f a ≡ true) × (all f b ≡ true)
unfolding all
all_both f [] b e = (refl, e)
all_both f (x ∷ a) b e = let h = both (f x) (all f (a ++ b)) e in let q = all_both f a b h.1 in (yes (f x) (all f a) h.0 q.0, q.1)

-- the first mode's part, and the others'
module _ (tables : List ℤ) (n m : ℕ) (h : suc m * (4 * (n * n)) ≤ length tables) where
  pub first_long : length (take (4 * (n * n)) tables) ≡ 4 * (n * n)
  first_long = length-take-le (4 * (n * n)) tables (omega (arith, suc-mul m (4 * (n * n))))

  pub others_long : m * (4 * (n * n)) ≤ length (drop (4 * (n * n)) tables)
  others_long = omega (arith, suc-mul m (4 * (n * n)), length-drop (4 * (n * n)) tables)

  pub parted : take (suc m * (4 * (n * n))) tables ≡ take (4 * (n * n)) tables ++ take (m * (4 * (n * n))) (drop (4 * (n * n)) tables)
  parted = ap (λ (k : ℕ). take k tables) (turn (suc-mul m (4 * (n * n)))) ∙ take-add (4 * (n * n)) (m * (4 * (n * n))) tables
    where
      turn : {x : ℕ} → x ≡ m * (4 * (n * n)) + 4 * (n * n) → x ≡ 4 * (n * n) + m * (4 * (n * n))
      turn e = omega arith

pub tables_listed : (n m : ℕ) (tables : List ℤ) → m * (4 * (n * n)) ≤ length tables → tables_of n (mode_list n m tables) ≡ take (m * (4 * (n * n))) tables
unfolding mode_list tables_of
tables_listed n zero tables h = ap (λ (k : ℕ). take k tables) (none (4 * (n * n)))
  where
    none : (k : ℕ) → 0 ≡ zero * k
    none k = omega arith
tables_listed n (suc m) tables h =
    ap₂ (λ (a b : List ℤ). a ++ b) (laid_windows (take (4 * (n * n)) tables) (4 * (n * n)) (first_long tables n m h)) (tables_listed n m (drop (4 * (n * n)) tables) (others_long tables n m h))
    ∙ sym (parted tables n m h)

module _ (file : List ℕ) where
  modes_there : (n m at : ℕ) (tables : List ℤ) (more : List ℕ) → 0 < n → n ≤ 12 → m * (4 * (n * n)) ≤ length tables → all admits (take (m * (4 * (n * n))) tables) ≡ true
      → Holds file at (modes_numbers n m tables ++ more) → There file (modes_at file n m at) (mode_list n m tables) more
  unfolding modes_at modes_numbers mode_list
  modes_there n zero at tables more h g l q k = record { next = at; is = refl; after = k }
  modes_there n (suc m) at tables more h g l q k =
      let p = take (4 * (n * n)) tables in
      let r = drop (4 * (n * n)) tables in
      let b = all_both admits p (take (m * (4 * (n * n))) r) (subst (λ (x : List ℤ). all admits x ≡ true) (parted tables n m l) q) in
      let a = mode_there file n at p (modes_numbers n m r ++ more) h g (first_long tables n m l) b.0 (subst (Holds file at) (append_assoc (mode_numbers n p) (modes_numbers n m r) more) k) in
      let d = modes_there n m a.next r more h g (others_long tables n m l) b.1 a.after in
      record { next = d.next; is = then_value _ _ _ a.next a.is ∙ then_value _ _ _ d.next d.is; after = d.after }

  -- ---- the schedule
  schedule_there : (m at : ℕ) (schedule more : List ℕ) → m ≤ 8 → all (λ t. ltb t m) schedule ≡ true → Holds file at (schedule ++ more) → There file (schedule_at file m (length schedule) at) schedule more
  unfolding schedule_at all
  schedule_there m at [] more g q k = record { next = at; is = refl; after = k }
  schedule_there m at (t ∷ rest) more g q k =
      let b = both (ltb t m) (all (λ t. ltb t m) rest) q in
      let l = ltb-true t m b.0 in
      let a = number file at t (rest ++ more) (omega arith) k in
      let d = schedule_there m a.next rest more g b.1 a.after in
      record {
        next = d.next;
        is = after_value _ _ _ _ (tested_yes (λ t. ltb t m) 5 (number_at file at) _ _ a.is b.0) ∙ then_value _ _ _ d.next d.is;
        after = d.after;
      }

  -- ---- n, m and V
  counts_there : (n m positions : ℕ) (more : List ℕ) → within 12 n ≡ true → within 8 m ≡ true → within 16 positions ≡ true → n ≤ 12 → m ≤ 8 → positions ≤ 16
      → Holds file 0 (1 ∷ n ∷ m ∷ positions ∷ more) → There file (counts_at file 0) (counts n m positions) more
  unfolding counts_at
  counts_there n m positions more h i j f g l k =
      let a = number file 0 1 _ (omega arith) k in
      let b = number file a.next n _ (omega arith) a.after in
      let c = number file b.next m _ (omega arith) b.after in
      let d = number file c.next positions more (omega arith) c.after in
      record {
        next = d.next;
        is =
            after_value _ _ _ _ (tested_yes (λ format. eqb format 1) 3 (number_at file 0) _ _ a.is refl)
            ∙ after_value _ _ _ _ (tested_yes (within 12) 4 (number_at file a.next) _ _ b.is h)
            ∙ after_value _ _ _ _ (tested_yes (within 8) 4 (number_at file b.next) _ _ c.is i)
            ∙ after_value _ _ _ _ (tested_yes (within 16) 4 (number_at file c.next) _ _ d.is j);
        after = d.after;
      }

-- the end of the file
ended_there : (file : List ℕ) (at : ℕ) → Holds file at [] → at ≡ length file
unfolding in_groups
ended_there file at k = omega (arith, length-drop at file, ap length k.bytes, k.inside)

-- THEOREM: reading a written sheet gives the sheet back, without its surplus
pub read_written : (s : Sheet) → refusal s ≡ 0 → sheet_in (written s) ≡ got (exact s) (length (written s))
unfolding refusal sized scheduled admitted written sheet_numbers sheet_in sheet_after tables_at ended
read_written s e =
    let file = written s in
    let z = (accepted s e).size in
    let p = passes (sized s) (scheduled s) (admitted s) e in
    let n = s.n in
    let m = s.m in
    let v = s.positions in
    let schedule = take v s.schedule in
    let numbers = modes_numbers n m s.tables in
    let w : (within 12 n ≡ true) × (within 8 m ≡ true) × (within 16 v ≡ true) =
    (let a = both _ _ p.0 in let b = both _ _ a.0 in let c = both _ _ b.0 in let d = both (within 12 n) (within 8 m) c.0 in (d.0, d.1, c.1)) in
    let k : Holds file 0 (1 ∷ n ∷ m ∷ v ∷ schedule ++ numbers) = record { bytes = refl; inside = omega arith } in
    let a = counts_there file n m v (schedule ++ numbers) w.0 w.1 w.2 z.few_events z.few_modes z.few_positions k in
    let b = schedule_there file m a.next schedule numbers z.few_modes p.1 a.after in
    let q = places_are n m in
    let c = modes_there file n m b.next s.tables [] z.some_events z.few_events (omega (arith, z.long_tables)) (subst (λ (j : ℕ). all admits (take j s.tables) ≡ true) (sym q) p.2) (subst (Holds file b.next) (sym (append-nil numbers)) b.after) in
    let d = ended_there file c.next c.after in
    let l : schedule_at file m v a.next ≡ got schedule b.next = ap (λ (j : ℕ). schedule_at file m j a.next) (sym (length-take-le v s.schedule z.long_schedule)) ∙ b.is in
    let t : tables_of n (mode_list n m s.tables) ≡ take (places n m) s.tables = tables_listed n m s.tables (omega (arith, z.long_tables)) ∙ ap (λ (j : ℕ). take j s.tables) q in
    then_value _ _ _ a.next a.is
    ∙ then_value _ _ _ b.next l
    ∙ then_value _ _ (take (places n m) s.tables) (length file) (then_value _ _ _ c.next c.is ∙ rw (eq-eqb c.next (length file) d, t, d))
