-- The records of a mode: what one is, and what they are together.
use mathlib.Core.Path.{◌≡◌, refl, sym, ap, ◌∙◌}
use mathlib.Core.Bool.{true}
use mathlib.Core.List.{List, [], ◌∷◌}
use Prim.Native.Nat.{ℕ, zero, suc, ◌+◌, ◌*◌, ◌≤◌, ◌<◌}
use native.Mathlib.Omega.{arith}
use native.Mathlib.Nat.{mul-le-mul}
use borrow.Author.Tests.{leb-true}
use lib.IntN.{ℤ}
use lib.ListN.{length, set, replicate, length-set, length-replicate}
use Rattle.numbers.specs.Groups.{number_at}
use Rattle.numbers.specs.Signs.{decoded}
use Rattle.numbers.specs.Groups.{Value}
use Rattle.numbers.proofs.Reading.{value_began}
use Rattle.tables.specs.Sheets.{in_limit, no_window}
use Rattle.tables.proofs.Laws.{within_is}
use Rattle.sheet.specs.File.{got, Placed, placed, in_mode, rising, value_at, record_at, records_at, put, laid}
use Rattle.sheet.proofs.Numbers.{after_got, tested_value}
use Rattle.sheet.proofs.Following.{passed, then_got}
use Rattle.sheet.proofs.Places.{Fit, in_part}

-- a record that was read: its four numbers, where each stands, and what they say
pub record Recorded (file : List ℕ) (n low at : ℕ) (w : Placed) (next : ℕ) : Type 0 where
  pub kind : ℕ
  pub to : ℕ
  pub from : ℕ
  pub code : ℕ
  pub a : ℕ
  pub b : ℕ
  pub c : ℕ
  pub kind_at : number_at file at ≡ Value kind at a
  pub to_at : number_at file a ≡ Value to a b
  pub from_at : number_at file b ≡ Value from b c
  pub code_at : number_at file c ≡ Value code c next
  pub fit : Fit n kind to from
  pub limited : in_limit (decoded code) ≡ true
  pub rises : low ≤ in_mode n kind to from
  pub is : w ≡ placed (in_mode n kind to from) (decoded code)

pub record Risen (low p : ℕ) (v : ℤ) (next : ℕ) (w : Placed) (end : ℕ) : Type 0 where
  pub above : low ≤ p
  pub is : w ≡ placed p v
  pub ends : end ≡ next

risen : (start low p : ℕ) (v : ℤ) (next : ℕ) (w : Placed) (end : ℕ) → rising start low p v next ≡ got w end → Risen low p v next w end
unfolding rising
risen start low p v next w end h = let q = passed _ _ _ _ _ h in record { above = leb-true _ _ q.0; is = cc q.1; ends = cc q.1 }

pub recorded : (file : List ℕ) (n low at : ℕ) (w : Placed) (next : ℕ) → record_at file n low at ≡ got w next → Recorded file n low at w next
unfolding record_at value_at
recorded file n low at w next h =
    let k = after_got _ _ _ _ h in
    let t = after_got _ _ _ _ k.rest in
    let f = after_got _ _ _ _ t.rest in
    let u = after_got _ _ _ _ f.rest in
    let r = risen _ _ _ _ _ _ _ u.rest in
    let kv = tested_value _ _ _ _ _ k.is in
    let tv = tested_value _ _ _ _ _ t.is in
    let fv = tested_value _ _ _ _ _ f.is in
    let uv = tested_value _ _ _ _ _ u.is in
    let tw = within_is n t.value tv.1 in
    let fw = within_is n f.value fv.1 in
    record {
      kind = k.value;
      to = t.value;
      from = f.value;
      code = u.value;
      a = k.place;
      b = t.place;
      c = f.place;
      kind_at = value_began file at kv.0;
      to_at = value_began file k.place tv.0;
      from_at = value_began file t.place fv.0;
      code_at = value_began file f.place uv.0 ∙ ap (λ (e : ℕ). Value u.value f.place e) (sym r.ends);
      fit = record { kinds = leb-true _ _ kv.1; some_to = tw.0; few_to = tw.1; some_from = fw.0; few_from = fw.1 };
      limited = uv.1;
      rises = r.above;
      is = r.is;
    }

-- the place of a record lies in its mode's part
pub place_within : (file : List ℕ) (n low at : ℕ) (w : Placed) (next : ℕ) → record_at file n low at ≡ got w next → w.place < 4 * (n * n)
place_within file n low at w next h =
    let r = recorded file n low at w next h in
    rw (ap (λ (x : Placed). x.place) r.is) (in_part n r.kind r.to r.from r.fit)

pub few : (n : ℕ) → n ≤ 12 → 4 * (n * n) ≤ 576
few n h = omega (arith, mul-le-mul h h)

-- windows that strictly rise from `low` on, below `size`, each with a limit in its range
unfoldable pub Good : ℕ → ℕ → List Placed → Type 0
Good size low [] = Unit
Good size low (w ∷ rest) = (low ≤ w.place) × (w.place < size) × (in_limit w.limit ≡ true) × Good size (w.place + 1) rest

pub good : (file : List ℕ) (n count low at : ℕ) (windows : List Placed) (next : ℕ) → records_at file n count low at ≡ got windows next → Good (4 * (n * n)) low windows
unfolding records_at Good
good file n zero low at windows next h = let e : windows ≡ [] = cc in rw e tt
good file n (suc count) low at windows next h =
    let w = then_got _ _ _ _ h in
    let r = then_got _ _ _ _ w.rest in
    let e : windows ≡ w.thing ∷ r.thing = cc r.rest in
    let d = recorded file n low at w.thing w.place w.is in
    rw e (
      rw (ap (λ (x : Placed). x.place) d.is) d.rises,
      place_within file n low at w.thing w.place w.is,
      rw (ap (λ (x : Placed). x.limit) d.is) d.limited,
      good file n count (w.thing.place + 1) w.place r.thing r.place r.is,
    )

pub length_put : (windows : List Placed) (part : List ℤ) → length (put windows part) ≡ length part
unfolding put
length_put [] part = refl
length_put (w ∷ rest) part = length_put rest (set part w.place w.limit) ∙ length-set part w.place w.limit

pub length_laid : (size : ℕ) (windows : List Placed) → length (laid size windows) ≡ size
unfolding laid
length_laid size windows = length_put windows (replicate size no_window) ∙ length-replicate size no_window
