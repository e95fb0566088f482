-- A sheet that was read: what its parts are.
use mathlib.Core.Path.{◌≡◌, sym, ap, ◌∙◌}
use mathlib.Core.List.{List, [], ◌∷◌}
use Prim.Native.Nat.{ℕ, zero, suc, ◌*◌, ◌≤◌}
use native.Mathlib.Omega.{arith}
use native.Mathlib.Nat.{mul_assoc, mul_comm, suc-mul}
use borrow.Author.Tests.{eqb-true}
use lib.Dec.{eqb}
use lib.IntN.{ℤ}
use lib.ListN.{length, length-append}
use Rattle.numbers.specs.Groups.{number_at}
use Rattle.numbers.specs.Groups.{Value}
use Rattle.numbers.proofs.Reading.{value_began}
use Rattle.tables.specs.Sheets.{Sheet, sheet, places}
use Rattle.tables.proofs.Laws.{within_is}
use Rattle.sheet.specs.File.{got, Placed, Counts, counts, counts_at, schedule_at, modes_at, tables_of, laid, ended, tables_at, sheet_after, sheet_in}
use Rattle.sheet.proofs.Numbers.{after_got, tested_value}
use Rattle.sheet.proofs.Following.{passed, then_got}
use Rattle.sheet.proofs.Windows.{length_laid}

-- ---- n, m and V
pub record Counted (file : List ℕ) (at : ℕ) (c : Counts) (next : ℕ) : Type 0 where
  pub a : ℕ
  pub b : ℕ
  pub d : ℕ
  pub format_at : number_at file at ≡ Value 1 at a
  pub n_at : number_at file a ≡ Value c.n a b
  pub m_at : number_at file b ≡ Value c.m b d
  pub positions_at : number_at file d ≡ Value c.positions d next
  pub some_events : 1 ≤ c.n
  pub few_events : c.n ≤ 12
  pub some_modes : 1 ≤ c.m
  pub few_modes : c.m ≤ 8
  pub some_positions : 1 ≤ c.positions
  pub few_positions : c.positions ≤ 16

same_counts : (n m v : ℕ) (e : ℕ) (c : Counts) (next : ℕ) → got (counts n m v) e ≡ got c next → (c ≡ counts n m v) × (e ≡ next)
same_counts n m v e c next h = (cc, cc)

pub counted : (file : List ℕ) (at : ℕ) (c : Counts) (next : ℕ) → counts_at file at ≡ got c next → Counted file at c next
unfolding counts_at
counted file at c next h =
    let f = after_got _ _ _ _ h in
    let n = after_got _ _ _ _ f.rest in
    let m = after_got _ _ _ _ n.rest in
    let v = after_got _ _ _ _ m.rest in
    let fv = tested_value _ _ _ _ _ f.is in
    let nv = tested_value _ _ _ _ _ n.is in
    let mv = tested_value _ _ _ _ _ m.is in
    let vv = tested_value _ _ _ _ _ v.is in
    let q = same_counts n.value m.value v.value v.place c next v.rest in
    let nw = within_is 12 n.value nv.1 in
    let mw = within_is 8 m.value mv.1 in
    let vw = within_is 16 v.value vv.1 in
    rw q.0 (record {
      a = f.place;
      b = n.place;
      d = m.place;
      format_at = value_began file at fv.0 ∙ ap (λ (k : ℕ). Value k at f.place) (eqb-true f.value 1 fv.1);
      n_at = value_began file f.place nv.0;
      m_at = value_began file n.place mv.0;
      positions_at = value_began file m.place vv.0 ∙ ap (λ (k : ℕ). Value v.value m.place k) q.1;
      some_events = nw.0;
      few_events = nw.1;
      some_modes = mw.0;
      few_modes = mw.1;
      some_positions = vw.0;
      few_positions = vw.1;
    })

-- ---- the schedule
pub length_schedule : (file : List ℕ) (m positions at : ℕ) (schedule : List ℕ) (next : ℕ) → schedule_at file m positions at ≡ got schedule next → length schedule ≡ positions
unfolding schedule_at
length_schedule file m zero at schedule next h = let e : schedule ≡ [] = cc in rw e
length_schedule file m (suc positions) at schedule next h =
    let t = after_got _ _ _ _ h in
    let r = then_got _ _ _ _ t.rest in
    let e : schedule ≡ t.value ∷ r.thing = cc r.rest in
    rw e (ap suc (length_schedule file m positions t.place r.thing r.place r.is))

-- ---- the tables
pub record Tabled (file : List ℕ) (n m at : ℕ) (tables : List ℤ) (next : ℕ) : Type 0 where
  pub modes : List (List Placed)
  pub are : modes_at file n m at ≡ got modes next
  pub is : tables ≡ tables_of n modes
  pub ends : next ≡ length file

record Complete (file : List ℕ) (tables : List ℤ) (p : ℕ) (values : List ℤ) (next : ℕ) : Type 0 where
  is : values ≡ tables
  ends : next ≡ length file
  same : p ≡ next

complete : (file : List ℕ) (tables : List ℤ) (p : ℕ) (values : List ℤ) (next : ℕ) → ended file tables p ≡ got values next → Complete file tables p values next
unfolding ended
complete file tables p values next h =
    let q = passed (eqb p (length file)) (got tables p) _ _ _ h in
    let z : p ≡ next = cc q.1 in
    record { is = cc q.1; ends = sym z ∙ eqb-true _ _ q.0; same = z }

pub tabled : (file : List ℕ) (n m at : ℕ) (tables : List ℤ) (next : ℕ) → tables_at file n m at ≡ got tables next → Tabled file n m at tables next
unfolding tables_at
tabled file n m at tables next h =
    let t = then_got _ _ _ _ h in
    let e = complete file (tables_of n t.thing) t.place tables next t.rest in
    record { modes = t.thing; are = t.is ∙ ap (got t.thing) e.same; is = e.is; ends = e.ends }

pub length_modes : (file : List ℕ) (n m at : ℕ) (modes : List (List Placed)) (next : ℕ) → modes_at file n m at ≡ got modes next → length (tables_of n modes) ≡ m * (4 * (n * n))
unfolding modes_at tables_of
length_modes file n zero at modes next h = let e : modes ≡ [] = cc in rw e (omega arith)
length_modes file n (suc m) at modes next h =
    let w = then_got _ _ _ _ h in
    let r = then_got _ _ _ _ w.rest in
    let e : modes ≡ w.thing ∷ r.thing = cc r.rest in
    rw e (length-append (laid (4 * (n * n)) w.thing) (tables_of n r.thing) ∙ omega (arith, length_laid (4 * (n * n)) w.thing, length_modes file n m w.place r.thing r.place r.is, suc-mul m (4 * (n * n))))

pub places_are : (n m : ℕ) → m * (4 * (n * n)) ≡ places n m
places_are n m = sym (mul_assoc m 4 (n * n)) ∙ ap (λ (k : ℕ). k * (n * n)) (mul_comm m 4)

-- ---- the sheet
pub record Sheeted (file : List ℕ) (s : Sheet) (next : ℕ) : Type 0 where
  pub a : ℕ
  pub b : ℕ
  pub count : Counted file 0 (counts s.n s.m s.positions) a
  pub schedule : schedule_at file s.m s.positions a ≡ got s.schedule b
  pub tables : Tabled file s.n s.m b s.tables next
  pub long_schedule : length s.schedule ≡ s.positions
  pub long_tables : length s.tables ≡ places s.n s.m

pub sheeted : (file : List ℕ) (s : Sheet) (next : ℕ) → sheet_in file ≡ got s next → Sheeted file s next
unfolding sheet_in sheet_after
sheeted file s next h =
    let c = then_got _ _ _ _ h in
    let v = then_got _ _ _ _ c.rest in
    let t = then_got _ _ _ _ v.rest in
    let e : s ≡ sheet c.thing.n c.thing.m c.thing.positions t.thing v.thing = cc t.rest in
    let q : t.place ≡ next = cc t.rest in
    let z : tables_at file c.thing.n c.thing.m v.place ≡ got t.thing next = t.is ∙ ap (got t.thing) q in
    let d = tabled file c.thing.n c.thing.m v.place t.thing next z in
    rw e (record {
      a = c.place;
      b = v.place;
      count = counted file 0 c.thing c.place c.is;
      schedule = v.is;
      tables = d;
      long_schedule = length_schedule file c.thing.m c.thing.positions c.place v.thing v.place v.is;
      long_tables = ap length d.is ∙ length_modes file c.thing.n c.thing.m v.place d.modes next d.are ∙ places_are c.thing.n c.thing.m;
    })
