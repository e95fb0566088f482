-- What the place of a refusal means to the person who opens the file there (document 02, E1): nothing before it is refused, and what is refused stands there and nowhere else.
-- Of two files that are the same up to a place, such as a file and a front of it, a number that ends by then is the same in both, and one that would begin where a front ends is missing there.
-- So a front that ends at a refusal holds all that the file holds before it, and then stops; and one that holds what is refused is refused as the file is, and the file as it is.
-- `Kept` says so of a part, and is handed on from part to part.
use mathlib.Core.Path.{◌≡◌, refl, sym, ap, subst, ◌∙◌}
use mathlib.Core.Bool.{Bool, true}
use mathlib.Core.List.{List, [], ◌∷◌}
use Prim.Native.Nat.{ℕ, zero, suc, ◌+◌, ◌-◌, ◌≤◌, ◌<◌}
use native.Mathlib.Omega.{arith}
use native.Mathlib.Decide.{dec_lt}
use borrow.Author.Tests.{eqb-false, le-ltb, eq-eqb, ne_eqb}
use lib.Dec.{leb, eqb}
use lib.IntN.{ℤ}
use lib.ListN.{length, get_or, take}
use lib.Seq.{get_or-take, length-take-le}
use Rattle.numbers.specs.Groups.{bad, group, number_in, number_at}
use Rattle.numbers.specs.Groups.{Refusal}
use Rattle.numbers.specs.Groups.{Number}
use Rattle.numbers.specs.Groups.{Value, Refused}
use Rattle.numbers.proofs.Tests.{split}
use Rattle.numbers.proofs.Reading.{EndsWithin, ends, Began, begins, value_began}
use Rattle.tables.specs.Sheets.{Sheet, within}
use Rattle.tables.proofs.Laws.{within_is}
use Rattle.sheet.specs.File.{Part, got, refused, tested, after, and_then, Placed, rising, value_at, record_at, records_at, mode_at, modes_at, tables_of, ended, tables_at, schedule_at, counts_at, sheet_after, sheet_in}
use Rattle.sheet.proofs.Numbers.{after_value, after_refused, tested_yes, tested_no, tested_refused}
use Rattle.sheet.proofs.Following.{never, then_value, then_refused}
use Rattle.sheet.proofs.Runs.{Run, none, more, Whole, inside, Same, number_same}
use Rattle.sheet.proofs.Faults.{together, Judged, numbers, byte, Fault, unread, judged, judged_number, judged_rises, judged_inside, fault_judged, fault_of, fault_at, fault_within, one_fault}

-- "refusals 1 to 8": the place of each is in the file, after whole numbers, and there is a byte to look at, unless one is missing
pub record Stands (file : List ℕ) (r : Refusal) : Type 0 where
  pub some : 1 ≤ r.number
  pub few : r.number ≤ 8
  pub before : Whole file r.at
  pub inside : r.at ≤ length file
  pub there : (r.number ≡ 1 → ⊥) → r.at < length file

-- what the bytes before a refusal's place are, y: before surplus they are a whole, and else they are refused for nothing but ending there
pub record Before {A : Type 0} (r : Refusal) (y : Part A) : Type 0 where
  pub short : (r.number ≡ 8 → ⊥) → y ≡ refused (bad 1 r.at)
  pub whole : r.number ≡ 8 → (a : A) × (y ≡ got a r.at)

-- a part from a place on, in the file, and y, the same part in another file that is the same up to `most`. Under `L` the file's end is looked at, and 8 is among the refusals.
data Kept {A : Type 0} (most : ℕ) (other file : List ℕ) (L : Type 0) (at : ℕ) (y : Part A) : Part A → Type 0 where
  read : {a : A} {next : ℕ} → Whole file next → at ≤ next → ((L → ⊥) → next ≤ most → y ≡ got a next) → Kept most other file L at y (got a next)
  stop : (r : Refusal) → Stands file r → (r.number ≡ 8 → L) → at ≤ r.at → (r.at ≡ most → length other ≤ most → Before r y) → Fault file r (λ end. end ≤ most → y ≡ refused r) → Kept most other file L at y (refused r)

module _ {A : Type 0} {most : ℕ} {other file : List ℕ} where
  -- a refusal other than 8
  halt : (r : Refusal) {at : ℕ} {y : Part A} → 1 ≤ r.number → r.number ≤ 7 → Whole file r.at → ((r.number ≡ 1 → ⊥) → r.at < length file) → at ≤ r.at
      → (r.at ≡ most → length other ≤ most → y ≡ refused (bad 1 r.at)) → Fault file r (λ end. end ≤ most → y ≡ refused r) → Kept most other file ⊥ at y (refused r)
  halt r s f w t l e =
      let n : r.number ≡ 8 → ⊥ = λ q. omega arith in
      stop r (record { some = s; few = omega arith; before = w; inside = inside w; there = t }) n l (λ p g. record { short = λ q. e p g; whole = λ q. absurd (n q) })

  -- and 8
  surplus : (r : Refusal) {at : ℕ} {y : Part A} (a : A) → r.number ≡ 8 → Whole file r.at → r.at < length file → at ≤ r.at → (r.at ≡ most → length other ≤ most → y ≡ got a r.at)
      → (r.at + 1 ≤ most → y ≡ refused r) → Kept most other file Unit at y (refused r)
  surplus r a n w h l e o =
      stop r (record { some = omega arith; few = omega arith; before = w; inside = omega arith; there = λ q. h }) (λ q. tt) l (λ p g. record { short = λ q. absurd (q n); whole = λ q. (a, e p g) }) (judged (r.at + 1) (byte n (omega arith) (omega arith)) o)

  -- what begins later, where the other is the same up to it
  later : {L : Type 0} {at next : ℕ} {x y z : Part A} → at ≤ next → (next ≤ most → z ≡ y) → Kept most other file L next y x → Kept most other file L at z x
  later l e (read h p k) = read h (omega arith) (λ n i. e (omega arith) ∙ k n i)
  later l e (stop r s f p k t) =
      stop r s f (omega arith) (λ i g. subst (Before r) (sym (e (omega arith))) (k i g)) (fault_of (λ end q g i. let j = judged_rises q in e (omega arith) ∙ g i) t)

  module _ {B : Type 0} {L : Type 0} {at : ℕ} {y : Part B} where
    -- one part after the other
    then_kept : {x : Part B} (go to : B → ℕ → Part A) → Kept most other file ⊥ at y x → ((b : B) (next : ℕ) → Whole file next → Kept most other file L next (to b next) (go b next)) → Kept most other file L at (and_then y to) (and_then x go)
    unfolding and_then
    then_kept go to (read h p k) f = later p (λ i. then_value y to _ _ (k (λ n. n) i)) (f _ _ h)
    then_kept go to (stop r s n l k t) f =
        stop r s (λ q. absurd (n q)) l (λ i g. record { short = λ q. then_refused y to _ ((k i g).short q); whole = λ q. absurd (n q) }) (fault_of (λ end q g i. then_refused y to _ (g i)) t)

    -- a part, put into another form
    got_kept : {x : Part B} (f : B → A) → Kept most other file L at y x → Kept most other file L at (and_then y (λ b next. got (f b) next)) (and_then x (λ b next. got (f b) next))
    unfolding and_then
    got_kept f (read h p k) = read h p (λ n i. then_value y _ _ _ (k n i))
    got_kept f (stop r s n l k t) =
        stop r s n l (λ i g. record { short = λ q. then_refused y _ _ ((k i g).short q); whole = λ q. let w = (k i g).whole q in (f w.0, then_value y _ _ _ w.1) }) (fault_of (λ end q g i. then_refused y _ _ (g i)) t)

-- a number that begins where the file ends is missing
missing : (file : List ℕ) (at : ℕ) → length file ≤ at → number_at file at ≡ Refused (bad 1 at)
unfolding number_in group
missing file at h = rw (le-ltb at (length file) h)

module _ (most : ℕ) (other file : List ℕ) (fits : most ≤ length other) (same : (i : ℕ) → i < most → get_or file i 0 ≡ get_or other i 0) where
  -- a number and what follows it, within a part that began at `start` and is y in the other: where that is the same up to the number, y comes down to it
  number_kept : {A : Type 0} (ok : ℕ → Bool) (k at : ℕ) (go to : ℕ → ℕ → Part A) {start : ℕ} {y : Part A} → within 4 (k - 2) ≡ true → start ≤ at → Whole file at
      → (at ≤ most → y ≡ after (tested ok k (number_at other at)) to)
      → ((v next : ℕ) → start < next → number_at file at ≡ Value v at next → Whole file next → (next ≤ most → y ≡ to v next) → Kept most other file ⊥ start y (go v next))
      → Kept most other file ⊥ start y (after (tested ok k (number_at file at)) go)
  unfolding tested after
  number_kept ok k at go to {start} {y} n l h e f = cases (number_at file at) refl (number_same most other file fits same 4 at) (ends 4 file at) (begins 4 file at)
    where
      cut : (began : ℕ) → began ≡ at → began ≡ most → length other ≤ most → y ≡ refused (bad 1 began)
      cut began p q g = e (omega arith) ∙ after_refused _ to _ (tested_refused ok k _ _ (missing other at (omega arith))) ∙ ap (λ (z : ℕ). refused (bad 1 z)) (sym p)

      here : (began : ℕ) → began ≡ at → Whole file began
      here began p = subst (Whole file) (sym p) h

      cases : (x : Number) → number_at file at ≡ x → Same most (number_at other at) x → EndsWithin at (length file) x → Began at x → Kept most other file ⊥ start y (after (tested ok k x) go)
      cases (Value v began next) q s w p =
          split (λ x. Kept most other file ⊥ start y (after x go)) (ok v)
          (λ i. f v next (omega arith) is (record { count = suc h.count; run = more h.run is }) (λ j. e (omega arith) ∙ after_value _ to v next (tested_yes ok k _ v next (s j) i)))
          (λ i. halt _ m.0 m.2 (here _ p) (λ j. omega arith) (omega arith) (cut _ p) (judged next (numbers m.1 m.2 there) (λ j. e (omega arith) ∙ after_refused _ to _ (tested_no ok k _ v began next (s j) i))))
        where
          m : (1 ≤ k) × (3 ≤ k) × (k ≤ 7) × (k ≡ 7 → ⊥)
          m = let b = within_is 4 (k - 2) n in (omega arith, omega arith, omega arith, λ i. omega arith)

          is : number_at file at ≡ Value v at next
          is = value_began file at q

          there : Run file began (together k) next
          there = rw (ne_eqb k 7 m.3) (subst (λ (z : ℕ). Run file z 1 next) (sym p) (more none is))
      cases (Refused r) q s w p =
          halt r s.0 (omega arith) (here _ p) there (omega arith) (cut _ p) (unread s.1 (ap (number_at file) p ∙ q))
        where
          there : (r.number ≡ 1 → ⊥) → r.at < length file
          there n = elim (dec_lt at (length file)) [
            | yes i ↦ omega arith
            | no i ↦ absurd (n (cc (missing file at (omega (arith, i)))))
          ]

  -- ---- a record, from its start on: "for 7, the start of the record"
  rising_kept : {at : ℕ} (start low p next : ℕ) (v : ℤ) {y : Part Placed} → Run file start 4 next → Whole file start → at ≤ start → start < next → Whole file next → (start ≡ most → length other ≤ most → y ≡ refused (bad 1 start))
      → (next ≤ most → y ≡ rising start low p v next) → Kept most other file ⊥ at y (rising start low p v next)
  unfolding rising
  rising_kept {at} start low p next v {y} t w i l h c =
      split (λ x. (next ≤ most → y ≡ x) → Kept most other file ⊥ at y x) (leb low p) (λ q e. read h (omega arith) (λ n. e))
      (λ q e. halt _ (omega arith) (omega arith) w (λ n. omega (arith, inside h)) i c (judged next (numbers (omega arith) (omega arith) t) e))

  record_kept : (n low at : ℕ) → Whole file at → Kept most other file ⊥ at (record_at other n low at) (record_at file n low at)
  unfolding record_at value_at
  record_kept n low at h =
      number_kept _ _ at _ _ refl (omega arith) h (λ i. refl) λ kind a l p g e.
      number_kept _ _ a _ _ refl (omega arith) g e λ to b l q g e.
      number_kept _ _ b _ _ refl (omega arith) g e λ from c l r g e.
      number_kept _ _ c _ _ refl (omega arith) g e λ u next l s g e.
      rising_kept _ _ _ next _ (more (more (more (more none p) q) r) s) h (omega arith) l g (λ i o. after_refused _ _ _ (tested_refused _ _ _ _ (missing other at (omega arith)))) e

  records_kept : (n count low at : ℕ) → Whole file at → Kept most other file ⊥ at (records_at other n count low at) (records_at file n count low at)
  unfolding records_at
  records_kept n zero low at h = read h (omega arith) (λ n i. refl)
  records_kept n (suc count) low at h = then_kept _ _ (record_kept n low at h) λ w a g. got_kept (λ rest. w ∷ rest) (records_kept n count (w.place + 1) a g)

  -- ---- modes, schedule, n, m and V
  modes_kept : (n m at : ℕ) → Whole file at → Kept most other file ⊥ at (modes_at other n m at) (modes_at file n m at)
  unfolding modes_at mode_at
  modes_kept n zero at h = read h (omega arith) (λ n i. refl)
  modes_kept n (suc m) at h =
      then_kept _ _ (number_kept _ _ at _ _ refl (omega arith) h (λ i. refl) λ count a l q g e. later (omega arith) e (records_kept n count 0 a g)) λ windows a g.
      got_kept (λ rest. windows ∷ rest) (modes_kept n m a g)

  schedule_kept : (m positions at : ℕ) → Whole file at → Kept most other file ⊥ at (schedule_at other m positions at) (schedule_at file m positions at)
  unfolding schedule_at
  schedule_kept m zero at h = read h (omega arith) (λ n i. refl)
  schedule_kept m (suc positions) at h = number_kept _ _ at _ _ refl (omega arith) h (λ i. refl) λ t a l q g e. later (omega arith) e (got_kept (λ rest. t ∷ rest) (schedule_kept m positions a g))

  counts_kept : Kept most other file ⊥ 0 (counts_at other 0) (counts_at file 0)
  unfolding counts_at
  counts_kept =
      number_kept _ _ 0 _ _ refl (omega arith) (record { count = 0; run = none }) (λ i. refl) λ format a l q g e.
      number_kept _ _ a _ _ refl (omega arith) g e λ n b l q g e.
      number_kept _ _ b _ _ refl (omega arith) g e λ m c l q g e.
      number_kept _ _ c _ _ refl (omega arith) g e λ positions d l q g e.
      read g (omega arith) (λ n. e)

  -- ---- the end: "for 8, the first surplus byte", where a front ends with its sheet
  ended_kept : (tables : List ℤ) (next : ℕ) → Whole file next → Kept most other file Unit next (ended other tables next) (ended file tables next)
  unfolding ended
  ended_kept tables next h =
      split (Kept most other file Unit next (ended other tables next)) (eqb next (length file)) (λ e. read h (omega arith) (λ n. absurd (n tt))) (λ e. surplus _ tables refl h (omega (arith, inside h, eqb-false next (length file) e)) (omega arith) done over)
    where
      done : next ≡ most → length other ≤ most → ended other tables next ≡ got tables next
      done i g = rw (eq-eqb next (length other) (omega arith))

      over : next + 1 ≤ most → ended other tables next ≡ refused (bad 8 next)
      over i = rw (ne_eqb next (length other) (λ j. omega arith))

  sheet_kept : Kept most other file Unit 0 (sheet_in other) (sheet_in file)
  unfolding sheet_in sheet_after tables_at
  sheet_kept =
      then_kept _ _ counts_kept λ c a g.
      then_kept _ _ (schedule_kept c.m c.positions a g) λ schedule b g.
      got_kept _ (then_kept _ _ (modes_kept c.n c.m b g) λ modes d g. ended_kept (tables_of c.n modes) d g)

told : {most : ℕ} {other file : List ℕ} {y x : Part Sheet} (r : Refusal) → Kept most other file Unit 0 y x → x ≡ refused r → Stands file r × (r.at ≡ most → length other ≤ most → Before r y) × Fault file r (λ end. end ≤ most → y ≡ refused r)
told r (read h p k) e = absurd (never (sym e))
told {most} {other} {file} {y} r (stop o s n l k t) e =
    let q : o ≡ r = cc in subst (λ (z : Refusal). Stands file z × (z.at ≡ most → length other ≤ most → Before z y) × Fault file z (λ end. end ≤ most → y ≡ refused z)) q (s, k, t)

module _ (file : List ℕ) (r : Refusal) (e : sheet_in file ≡ refused r) where
  -- what a front of the file tells
  fronted : (end : ℕ) → end ≤ length file → (r.at ≡ end → Before r (sheet_in (take end file))) × Fault file r (λ last. last ≤ end → sheet_in (take end file) ≡ refused r)
  fronted end h =
      let l = length-take-le end file h in
      let t = told r (sheet_kept end (take end file) file (omega arith) (λ i h. sym (get_or-take end file i 0 h))) e in
      ((λ p. t.1 p (omega arith)), t.2)

  -- THEOREM: a refusal of a file is one of 1 to 8, its place is in the file, after whole numbers, and a byte stands there unless one is missing
  pub refusal_stands : Stands file r
  refusal_stands = (told r (sheet_kept 0 [] file (omega arith) (λ i h. absurd (omega arith))) e).0

  -- THEOREM: nothing before the place of a refusal is refused
  pub sound_before : Before r (sheet_in (take r.at file))
  sound_before = (fronted r.at refusal_stands.inside).0 refl

  -- the bytes up to the end of what is refused are refused as the file is
  refused_there : Fault file r (λ end. sheet_in (take end file) ≡ refused r)
  refused_there = fault_of (λ end p s. fault_at p (fronted end (judged_inside refusal_stands.inside p)).1 (omega arith)) (fronted 0 (omega arith)).1

module _ (file : List ℕ) (j : ℕ) (h : j ≤ length file) (r : Refusal) (e : sheet_in (take j file) ≡ refused r) where
  within_front : r.at ≤ j
  within_front = omega (arith, (refusal_stands (take j file) r e).inside, length-take-le j file h)

  -- THEOREM: where the first bytes of a file are refused by 3 to 8, the file is refused as they are
  pub early : 3 ≤ r.number → sheet_in file ≡ refused r
  early l =
      let f = fault_judged l (told r (sheet_kept j file (take j file) h (λ i l. get_or-take j file i 0 l)) e).2 in
      f.2 (omega (arith, judged_inside (refusal_stands (take j file) r e).inside f.1, length-take-le j file h))

-- the first bytes of the file that are refused by k end here: fewer are not
pub record Shortest (file : List ℕ) (k end : ℕ) : Type 0 where
  pub at : ℕ
  pub so : sheet_in (take end file) ≡ refused (bad k at)
  pub no_fewer : (j at : ℕ) → sheet_in (take j file) ≡ refused (bad k at) → end ≤ j

module _ (file : List ℕ) (r : Refusal) (e : sheet_in file ≡ refused r) where
  no_fewer : {end : ℕ} → Judged file r end → (j at : ℕ) → sheet_in (take j file) ≡ refused (bad r.number at) → end ≤ j
  no_fewer p j at g = elim (dec_lt (length file) j) [
    | yes i ↦ omega (arith, i, judged_inside (refusal_stands file r e).inside p)
    | no i ↦
        let h : j ≤ length file = omega (arith, i) in
        let z : refused (bad r.number at) ≡ refused r = sym (early file j h (bad r.number at) g (judged_number p)) ∙ e in
        fault_within h (within_front file j h r (g ∙ z)) p (refused_there (take j file) r (g ∙ z))
  ]

  -- THEOREM: what is refused stands at the place of a refusal, and ends with the first bytes that are refused by its number
  pub fault_there : Fault file r (Shortest file r.number)
  fault_there = fault_of (λ end p s. record { at = r.at; so = s; no_fewer = no_fewer p }) (refused_there file r e)

  -- THEOREM: and it stands at no other place that has whole numbers before it: the numbers that first bytes are refused by tell the place
  pub only_there : (at : ℕ) → Whole file at → Fault file (bad r.number at) (Shortest file r.number) → at ≡ r.at
  only_there at w f = one_fault (bad r.number at) refl (λ a b x y. omega (arith, x.no_fewer b y.at y.so, y.no_fewer a x.at x.so)) w (refusal_stands file r e).before f fault_there
