-- What was read is written: a sheet that the bytes are is written as these bytes, and it is admitted in memory.
-- So no two byte strings are the same sheet.
use mathlib.Core.Path.{◌≡◌, refl, sym, ap, subst, ◌∙◌}
use mathlib.Core.List.{List, [], ◌∷◌, ◌++◌, append_assoc, append-nil}
use Prim.Native.Nat.{ℕ, zero, suc, ◌+◌, ◌*◌, ◌/◌, ◌%◌}
use native.Mathlib.Omega.{arith}
use lib.ListN.{length, take, drop, length-append}
use lib.Seq.{take_at, drop_at, take_all, drop-length}
use Rattle.numbers.specs.Groups.{number_at, groups, Bytes, Spans}
use Rattle.numbers.specs.Signs.{encoded}
use Rattle.numbers.specs.Groups.{Value}
use Rattle.numbers.proofs.Signs.{encoded_decoded}
use Rattle.numbers.proofs.Ways.{groups_read}
use Rattle.tables.specs.Sheets.{Sheet}
use Rattle.sheet.specs.File.{got, Placed, in_mode, record_at, records_at, mode_at, modes_at, laid, tables_of, schedule_at, sheet_in}
use Rattle.sheet.specs.Written.{in_groups, records, mode_numbers, modes_numbers, sheet_numbers, written}
use Rattle.sheet.proofs.Numbers.{after_got, tested_value}
use Rattle.sheet.proofs.Following.{then_got}
use Rattle.sheet.proofs.Places.{kind_of, to_of, from_of}
use Rattle.sheet.proofs.Windows.{recorded, good, length_laid}
use Rattle.sheet.proofs.Groups.{in_groups_append}
use Rattle.sheet.proofs.Parts.{windows_laid}
use Rattle.sheet.proofs.Sheets.{sheeted}

-- ---- numbers that stand in a file one after the other
pub spans_append : (file : List ℕ) (at : ℕ) (a b : List ℕ) (p q : ℕ) → Spans file at a p → Spans file p b q → Spans file at (a ++ b) q
spans_append file at a b p q s t =
    record {
      here = s.here ∙ ap (λ (l : List ℕ). a ++ l) t.here ∙ sym (append_assoc a b (drop q file));
      ends = omega (arith, s.ends, t.ends, length-append a b);
    }

pub spans_none : (file : List ℕ) (at : ℕ) → Spans file at (in_groups []) at
unfolding in_groups
spans_none file at = record { here = refl; ends = omega arith }

module _ (file : List ℕ) (f : Bytes file) where
  pub spans_number : (at v : ℕ) {began : ℕ} (a : ℕ) (numbers : List ℕ) (next : ℕ) → number_at file at ≡ Value v began a → Spans file a (in_groups numbers) next → Spans file at (in_groups (v ∷ numbers)) next
  unfolding in_groups
  spans_number at v a numbers next e s = spans_append file at (groups v) (in_groups numbers) a next (groups_read file at v a f e) s

  pub spans_numbers : (at : ℕ) (a b : List ℕ) (p q : ℕ) → Spans file at (in_groups a) p → Spans file p (in_groups b) q → Spans file at (in_groups (a ++ b)) q
  spans_numbers at a b p q s t = subst (λ (l : List ℕ). Spans file at l q) (sym (in_groups_append a b)) (spans_append file at (in_groups a) (in_groups b) p q s t)

  -- ---- a record
  spans_window : (n low at : ℕ) (w : Placed) (a : ℕ) (rest : List Placed) (next : ℕ) → record_at file n low at ≡ got w a → Spans file a (in_groups (records n rest)) next → Spans file at (in_groups (records n (w ∷ rest))) next
  unfolding records
  spans_window n low at w a rest next e s =
      let r = recorded file n low at w a e in
      let p : w.place ≡ in_mode n r.kind r.to r.from = ap (λ (x : Placed). x.place) r.is in
      let k : w.place / (n * n) ≡ r.kind = ap (λ (x : ℕ). x / (n * n)) p ∙ kind_of n r.kind r.to r.from r.fit in
      let t : w.place / n % n + 1 ≡ r.to = ap (λ (x : ℕ). x / n % n + 1) p ∙ to_of n r.kind r.to r.from r.fit in
      let g : w.place % n + 1 ≡ r.from = ap (λ (x : ℕ). x % n + 1) p ∙ from_of n r.kind r.to r.from r.fit in
      let u : encoded w.limit ≡ r.code = ap (λ (x : Placed). encoded x.limit) r.is ∙ encoded_decoded r.code in
      rw (k, t, g, u)
      (spans_number at r.kind r.a _ next r.kind_at
      (spans_number r.a r.to r.b _ next r.to_at
      (spans_number r.b r.from r.c _ next r.from_at
      (spans_number r.c r.code a _ next r.code_at s))))

  -- the records of a mode
  pub record Listed (n count at : ℕ) (windows : List Placed) (next : ℕ) : Type 0 where
    pub stand : Spans file at (in_groups (records n windows)) next
    pub long : length windows ≡ count

  listed : (n count low at : ℕ) (windows : List Placed) (next : ℕ) → records_at file n count low at ≡ got windows next → Listed n count at windows next
  unfolding records_at records
  listed n zero low at windows next h =
      let e : windows ≡ [] = cc in
      let q : at ≡ next = cc in
      rw e (record { stand = subst (λ (k : ℕ). Spans file at (in_groups []) k) q (spans_none file at); long = refl })
  listed n (suc count) low at windows next h =
      let w = then_got _ _ _ _ h in
      let r = then_got _ _ _ _ w.rest in
      let e : windows ≡ w.thing ∷ r.thing = cc r.rest in
      let q : r.place ≡ next = cc r.rest in
      let l = listed n count (w.thing.place + 1) w.place r.thing r.place r.is in
      rw e (record {
        stand = spans_window n low at w.thing w.place r.thing next w.is (subst (λ (k : ℕ). Spans file w.place (in_groups (records n r.thing)) k) q l.stand);
        long = ap suc l.long;
      })

  -- a mode, as it stands in the tables
  spans_mode : (n at : ℕ) (windows : List Placed) (next : ℕ) → mode_at file n at ≡ got windows next → Spans file at (in_groups (mode_numbers n (laid (4 * (n * n)) windows))) next
  unfolding mode_at mode_numbers
  spans_mode n at windows next h =
      let c = after_got _ _ _ _ h in
      let v = tested_value _ _ _ _ _ c.is in
      let l = listed n c.value 0 c.place windows next c.rest in
      rw (windows_laid (4 * (n * n)) windows (good file n c.value 0 c.place windows next c.rest), l.long)
      (spans_number at c.value c.place _ next v.0 l.stand)

  spans_modes : (n m at : ℕ) (modes : List (List Placed)) (next : ℕ) → modes_at file n m at ≡ got modes next → Spans file at (in_groups (modes_numbers n m (tables_of n modes))) next
  unfolding modes_at modes_numbers tables_of
  spans_modes n zero at modes next h = let q : at ≡ next = cc in subst (λ (k : ℕ). Spans file at (in_groups []) k) q (spans_none file at)
  spans_modes n (suc m) at modes next h =
      let w = then_got _ _ _ _ h in
      let r = then_got _ _ _ _ w.rest in
      let e : modes ≡ w.thing ∷ r.thing = cc r.rest in
      let q : r.place ≡ next = cc r.rest in
      let size = 4 * (n * n) in
      rw (
        e,
        take_at (laid size w.thing) (tables_of n r.thing) size (length_laid size w.thing),
        drop_at (laid size w.thing) (tables_of n r.thing) size (length_laid size w.thing),
      )
      (spans_numbers at (mode_numbers n (laid size w.thing)) (modes_numbers n m (tables_of n r.thing)) w.place next (spans_mode n at w.thing w.place w.is)
      (subst (λ (k : ℕ). Spans file w.place (in_groups (modes_numbers n m (tables_of n r.thing))) k) q (spans_modes n m w.place r.thing r.place r.is)))

  -- ---- the schedule
  spans_schedule : (m positions at : ℕ) (schedule : List ℕ) (next : ℕ) → schedule_at file m positions at ≡ got schedule next → Spans file at (in_groups schedule) next
  unfolding schedule_at
  spans_schedule m zero at schedule next h =
      let e : schedule ≡ [] = cc in
      let q : at ≡ next = cc in
      rw e (subst (λ (k : ℕ). Spans file at (in_groups []) k) q (spans_none file at))
  spans_schedule m (suc positions) at schedule next h =
      let t = after_got _ _ _ _ h in
      let r = then_got _ _ _ _ t.rest in
      let e : schedule ≡ t.value ∷ r.thing = cc r.rest in
      let q : r.place ≡ next = cc r.rest in
      let v = tested_value _ _ _ _ _ t.is in
      rw e (spans_number at t.value t.place r.thing next v.0
      (subst (λ (k : ℕ). Spans file t.place (in_groups r.thing) k) q (spans_schedule m positions t.place r.thing r.place r.is)))

  -- ---- the whole sheet
  spans_sheet : (s : Sheet) (next : ℕ) → sheet_in file ≡ got s next → Spans file 0 (written s) next
  unfolding written sheet_numbers
  spans_sheet s next h =
      let d = sheeted file s next h in
      let c = d.count in
      let t = d.tables in
      let z : take s.positions s.schedule ≡ s.schedule = take_all s.positions s.schedule (omega (arith, d.long_schedule)) in
      rw (z, t.is)
      (spans_numbers 0 (1 ∷ s.n ∷ s.m ∷ s.positions ∷ s.schedule) (modes_numbers s.n s.m (tables_of s.n t.modes)) d.b next
      (spans_number 0 1 c.a _ d.b c.format_at
      (spans_number c.a s.n c.b _ d.b c.n_at
      (spans_number c.b s.m c.d _ d.b c.m_at
      (spans_number c.d s.positions d.a _ d.b c.positions_at
      (spans_schedule s.m s.positions d.a s.schedule d.b d.schedule)))))
      (spans_modes s.n s.m d.b t.modes next t.are))

  -- THEOREM: writing what was read gives the same bytes
  pub write_read : (s : Sheet) (next : ℕ) → sheet_in file ≡ got s next → written s ≡ file
  write_read s next h =
      let d = sheeted file s next h in
      let t = spans_sheet s next h in
      sym (t.here ∙ ap (λ (k : ℕ). written s ++ drop k file) d.tables.ends ∙ ap (λ (l : List ℕ). written s ++ l) (drop-length file) ∙ append-nil (written s))

-- THEOREM: no two byte strings read as the same sheet
pub read_one : (file other : List ℕ) → Bytes file → Bytes other → (s : Sheet) (next end : ℕ) → sheet_in file ≡ got s next → sheet_in other ≡ got s end → file ≡ other
read_one file other f g s next end h k = sym (write_read file f s next h) ∙ write_read other g s end k
