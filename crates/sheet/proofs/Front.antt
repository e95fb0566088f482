-- "Of a file over 27,685 bytes the first 27,685 are judged; the answer is the same."
-- The reader looks at no byte past these: what it has accepted takes no more bytes than the longest sheet, and a number that it then refuses at most four.
use mathlib.Core.Path.{◌≡◌, refl, sym, ap, ◌∙◌}
use mathlib.Core.Bool.{Bool}
use mathlib.Core.List.{List}
use Prim.Native.Nat.{ℕ, zero, suc, ◌+◌, ◌*◌, ◌≤◌, ◌<◌}
use native.Mathlib.Omega.{arith}
use borrow.Author.Tests.{ltb-true, leb-true, eqb-true, lt-ltb, ne_eqb}
use lib.Dec.{leb, ltb, eqb}
use lib.ListN.{length, get_or, take}
use lib.Seq.{get_or-take, length-take-le}
use Rattle.numbers.specs.Groups.{group, number_in, number_at, groups, Bytes}
use Rattle.numbers.specs.Signs.{decoded}
use Rattle.numbers.specs.Groups.{Number}
use Rattle.numbers.specs.Groups.{Value, Refused}
use Rattle.numbers.proofs.Signs.{encoded_decoded}
use Rattle.numbers.proofs.Writing.{size_one}
use Rattle.numbers.proofs.Ways.{groups_read}
use Rattle.tables.specs.Sheets.{in_limit, within}
use Rattle.tables.proofs.Laws.{within_is}
use Rattle.sheet.specs.File.{Part, got, refused, tested, after, and_then, Placed, value_at, record_at, records_at, mode_at, modes_at, ended, tables_at, schedule_at, Counts, counts_at, sheet_after, sheet_in}
use Rattle.sheet.proofs.Numbers.{after_got, tested_value}
use Rattle.sheet.proofs.Following.{then_got}
use Rattle.sheet.proofs.Windows.{recorded, few}
use Rattle.sheet.proofs.Sheets.{counted}
use Rattle.sheet.proofs.There.{limit_code}
use Rattle.sheet.proofs.Longest.{two_at_most, three_at_most}

-- what follows is the same where it is the same after whatever was read
pub after_same : {A : Type 0} (x y : Number) (go to : ℕ → ℕ → Part A) → x ≡ y → ((v began next : ℕ) → x ≡ Value v began next → go v next ≡ to v next) → after x go ≡ after y to
unfolding after
after_same x y go to e h = cases x refl ∙ ap (λ (z : Number). after z to) e
  where
    cases : (z : Number) → x ≡ z → after x go ≡ after x to
    cases (Value v began next) q = rw q (h v began next q)
    cases (Refused r) q = rw q refl

pub then_same : {A B : Type 0} (x y : Part A) (go to : A → ℕ → Part B) → x ≡ y → ((a : A) (next : ℕ) → x ≡ got a next → go a next ≡ to a next) → and_then x go ≡ and_then y to
unfolding and_then
then_same x y go to e h = cases x refl ∙ ap (λ (z : Part _). and_then z to) e
  where
    cases : (z : Part _) → x ≡ z → and_then x go ≡ and_then x to
    cases (got a next) q = rw q (h a next q)
    cases (refused r) q = rw q refl

-- two files that are alike in their first bytes, and have these
pub record Alike (most : ℕ) (file other : List ℕ) : Type 0 where
  pub same : (i : ℕ) → i < most → get_or file i 0 ≡ get_or other i 0
  pub long : most ≤ length file
  pub other_long : most ≤ length other
  pub bytes : Bytes file

module _ (most : ℕ) (file other : List ℕ) (l : Alike most file other) where
  -- ---- a number looks at four bytes at most
  number_in_alike : (g at : ℕ) → at + g ≤ most → number_in g file at ≡ number_in g other at
  unfolding number_in group
  number_in_alike zero at h = refl
  number_in_alike (suc g) at h =
      rw (lt-ltb at (length file) (omega (arith, l.long)), lt-ltb at (length other) (omega (arith, l.other_long)), l.same at (omega arith), number_in_alike g (at + 1) (omega arith)) refl

  number_alike : (at : ℕ) (ok : ℕ → Bool) (k : ℕ) → at + 4 ≤ most → tested ok k (number_at file at) ≡ tested ok k (number_at other at)
  number_alike at ok k h = ap (tested ok k) (number_in_alike 4 at h)

  -- where an accepted number ends
  number_ends : (at : ℕ) (ok : ℕ → Bool) (k v : ℕ) {began : ℕ} (next : ℕ) → tested ok k (number_at file at) ≡ Value v began next → next ≡ at + length (groups v)
  number_ends at ok k v next e = (groups_read file at v next l.bytes (tested_value ok k (number_at file at) v next e).0).ends

  short : (at : ℕ) (ok : ℕ → Bool) (k v : ℕ) {began : ℕ} (next : ℕ) → tested ok k (number_at file at) ≡ Value v began next → v < 128 → next ≡ at + 1
  short at ok k v next e h = omega (arith, number_ends at ok k v next e, size_one v h)

  -- ---- a record: seven bytes are looked at, and six taken
  window_alike : (n low at : ℕ) → n ≤ 12 → at + 7 ≤ most → record_at file n low at ≡ record_at other n low at
  unfolding record_at value_at
  window_alike n low at g h =
      after_same _ _ _ _ (number_alike at (λ kind. leb kind 3) 6 (omega arith)) λ kind began a e.
      let p = short at (λ kind. leb kind 3) 6 kind a e (omega (arith, leb-true kind 3 (tested_value _ _ _ _ _ e).1)) in
      after_same _ _ _ _ (number_alike a (within n) 6 (omega arith)) λ to began b f.
      let q = short a (within n) 6 to b f (omega (arith, (within_is n to (tested_value _ _ _ _ _ f).1).1)) in
      after_same _ _ _ _ (number_alike b (within n) 6 (omega arith)) λ from began c i.
      let r = short b (within n) 6 from c i (omega (arith, (within_is n from (tested_value _ _ _ _ _ i).1).1)) in
      after_same _ _ _ _ (number_alike c (λ u. in_limit (decoded u)) 6 (omega arith)) λ u began d j. refl

  window_ends : (n low at : ℕ) (w : Placed) (next : ℕ) → n ≤ 12 → record_at file n low at ≡ got w next → next ≤ at + 6
  window_ends n low at w next g e =
      let r = recorded file n low at w next e in
      let f = r.fit in
      let c = three_at_most r.code (omega (arith, encoded_decoded r.code, limit_code (decoded r.code) r.limited)) in
      omega (
        arith,
        (groups_read file at r.kind r.a l.bytes r.kind_at).ends,
        size_one r.kind (omega (arith, f.kinds)),
        (groups_read file r.a r.to r.b l.bytes r.to_at).ends,
        size_one r.to (omega (arith, f.few_to)),
        (groups_read file r.b r.from r.c l.bytes r.from_at).ends,
        size_one r.from (omega (arith, f.few_from)),
        (groups_read file r.c r.code next l.bytes r.code_at).ends,
        c,
      )

  windows_alike : (n count low at : ℕ) → n ≤ 12 → at + 6 * count + 1 ≤ most → records_at file n count low at ≡ records_at other n count low at
  unfolding records_at
  windows_alike n zero low at g h = refl
  windows_alike n (suc count) low at g h =
      then_same _ _ _ _ (window_alike n low at g (omega arith)) λ w a e.
      let p = window_ends n low at w a g e in
      then_same _ _ _ _ (windows_alike n count (w.place + 1) a g (omega arith)) λ rest b f. refl

  windows_ends : (n count low at : ℕ) (windows : List Placed) (next : ℕ) → n ≤ 12 → records_at file n count low at ≡ got windows next → next ≤ at + 6 * count
  unfolding records_at
  windows_ends n zero low at windows next g e = let q : at ≡ next = cc in omega arith
  windows_ends n (suc count) low at windows next g e =
      let w = then_got _ _ _ _ e in
      let r = then_got _ _ _ _ w.rest in
      let q : r.place ≡ next = cc r.rest in
      omega (arith, window_ends n low at w.thing w.place g w.is, windows_ends n count (w.thing.place + 1) w.place r.thing r.place g r.is)

  -- ---- a mode: 3,458 bytes
  mode_alike : (n at : ℕ) → n ≤ 12 → at + 3459 ≤ most → mode_at file n at ≡ mode_at other n at
  unfolding mode_at
  mode_alike n at g h =
      after_same _ _ _ _ (number_alike at (λ count. leb count (4 * (n * n))) 6 (omega arith)) λ count began a e.
      let c = leb-true count (4 * (n * n)) (tested_value _ _ _ _ _ e).1 in
      let s = few n g in
      let z = two_at_most count (omega arith) in
      windows_alike n count 0 a g (omega (arith, number_ends at (λ count. leb count (4 * (n * n))) 6 count a e))

  mode_ends : (n at : ℕ) (windows : List Placed) (next : ℕ) → n ≤ 12 → mode_at file n at ≡ got windows next → next ≤ at + 3458
  unfolding mode_at
  mode_ends n at windows next g e =
      let v = after_got _ _ _ _ e in
      let c = leb-true v.value (4 * (n * n)) (tested_value _ _ _ _ _ v.is).1 in
      let s = few n g in
      let z = two_at_most v.value (omega arith) in
      omega (arith, number_ends at (λ count. leb count (4 * (n * n))) 6 v.value v.place v.is, windows_ends n v.value 0 v.place windows next g v.rest)

  modes_alike : (n m at : ℕ) → n ≤ 12 → at + 3458 * m + 1 ≤ most → modes_at file n m at ≡ modes_at other n m at
  unfolding modes_at
  modes_alike n zero at g h = refl
  modes_alike n (suc m) at g h =
      then_same _ _ _ _ (mode_alike n at g (omega arith)) λ w a e.
      let p = mode_ends n at w a g e in
      then_same _ _ _ _ (modes_alike n m a g (omega arith)) λ rest b f. refl

  modes_ends : (n m at : ℕ) (modes : List (List Placed)) (next : ℕ) → n ≤ 12 → modes_at file n m at ≡ got modes next → next ≤ at + 3458 * m
  unfolding modes_at
  modes_ends n zero at modes next g e = let q : at ≡ next = cc in omega arith
  modes_ends n (suc m) at modes next g e =
      let w = then_got _ _ _ _ e in
      let r = then_got _ _ _ _ w.rest in
      let q : r.place ≡ next = cc r.rest in
      omega (arith, mode_ends n at w.thing w.place g w.is, modes_ends n m w.place r.thing r.place g r.is)

  -- both files go on after the sheet: 8
  tables_alike : (n m at : ℕ) → n ≤ 12 → at + 3458 * m + 1 ≤ most → tables_at file n m at ≡ tables_at other n m at
  unfolding tables_at ended
  tables_alike n m at g h =
      then_same _ _ _ _ (modes_alike n m at g h) λ modes a e.
      let p = modes_ends n m at modes a g e in
      rw (ne_eqb a (length file) (λ q. omega (arith, l.long)), ne_eqb a (length other) (λ q. omega (arith, l.other_long))) refl

  -- ---- the schedule: a byte a position
  schedule_alike : (m positions at : ℕ) → m ≤ 8 → at + positions + 3 ≤ most → schedule_at file m positions at ≡ schedule_at other m positions at
  unfolding schedule_at
  schedule_alike m zero at g h = refl
  schedule_alike m (suc positions) at g h =
      after_same _ _ _ _ (number_alike at (λ t. ltb t m) 5 (omega arith)) λ t began a e.
      let p = short at (λ t. ltb t m) 5 t a e (omega (arith, ltb-true t m (tested_value _ _ _ _ _ e).1)) in
      then_same _ _ _ _ (schedule_alike m positions a g (omega arith)) λ rest b f. refl

  schedule_ends : (m positions at : ℕ) (schedule : List ℕ) (next : ℕ) → m ≤ 8 → schedule_at file m positions at ≡ got schedule next → next ≡ at + positions
  unfolding schedule_at
  schedule_ends m zero at schedule next g e = let q : at ≡ next = cc in omega arith
  schedule_ends m (suc positions) at schedule next g e =
      let t = after_got _ _ _ _ e in
      let r = then_got _ _ _ _ t.rest in
      let q : r.place ≡ next = cc r.rest in
      omega (arith, short at (λ t. ltb t m) 5 t.value t.place t.is (omega (arith, ltb-true t.value m (tested_value _ _ _ _ _ t.is).1)), schedule_ends m positions t.place r.thing r.place g r.is)

  -- ---- n, m and V: four bytes
  counts_alike : 7 ≤ most → counts_at file 0 ≡ counts_at other 0
  unfolding counts_at
  counts_alike h =
      after_same _ _ _ _ (number_alike 0 (λ format. eqb format 1) 3 (omega arith)) λ format began a e.
      let p = short 0 (λ format. eqb format 1) 3 format a e (omega (arith, eqb-true format 1 (tested_value _ _ _ _ _ e).1)) in
      after_same _ _ _ _ (number_alike a (within 12) 4 (omega arith)) λ n began b f.
      let q = short a (within 12) 4 n b f (omega (arith, (within_is 12 n (tested_value _ _ _ _ _ f).1).1)) in
      after_same _ _ _ _ (number_alike b (within 8) 4 (omega arith)) λ m began c i.
      let r = short b (within 8) 4 m c i (omega (arith, (within_is 8 m (tested_value _ _ _ _ _ i).1).1)) in
      after_same _ _ _ _ (number_alike c (within 16) 4 (omega arith)) λ v began d j. refl

  counts_end : (c : Counts) (next : ℕ) → counts_at file 0 ≡ got c next → next ≡ 4
  counts_end c next e =
      let k = counted file 0 c next e in
      omega (
        arith,
        (groups_read file 0 1 k.a l.bytes k.format_at).ends,
        size_one 1 (omega arith),
        (groups_read file k.a c.n k.b l.bytes k.n_at).ends,
        size_one c.n (omega (arith, k.few_events)),
        (groups_read file k.b c.m k.d l.bytes k.m_at).ends,
        size_one c.m (omega (arith, k.few_modes)),
        (groups_read file k.d c.positions next l.bytes k.positions_at).ends,
        size_one c.positions (omega (arith, k.few_positions)),
      )

  -- ---- the whole
  pub sheet_alike : 27685 ≤ most → sheet_in file ≡ sheet_in other
  unfolding sheet_in sheet_after
  sheet_alike h =
      then_same _ _ _ _ (counts_alike (omega arith)) λ c a e.
      let k = counted file 0 c a e in
      let p = counts_end c a e in
      then_same _ _ _ _ (schedule_alike c.m c.positions a k.few_modes (omega (arith, k.few_positions))) λ schedule b f.
      let q = schedule_ends c.m c.positions a schedule b k.few_modes f in
      then_same _ _ _ _ (tables_alike c.n c.m b k.few_events (omega (arith, k.few_positions, k.few_modes))) λ tables d i. refl

-- THEOREM: the first 27,685 bytes of a file are read as the whole file is
pub front : (file : List ℕ) → Bytes file → 27685 ≤ length file → sheet_in (take 27685 file) ≡ sheet_in file
front file f h =
    sym (sheet_alike 27685 file (take 27685 file) (record { same = λ i l. sym (get_or-take 27685 file i 0 l); long = h; other_long = omega (arith, length-take-le 27685 file h); bytes = f }) (omega arith))
