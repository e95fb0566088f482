-- Both ways between a number and its bytes: what `groups v` wrote is read as v wherever it stands, and a number that was read stands as the groups of its value.
-- So no two byte strings at a place are the same number.
use mathlib.Core.Path.{◌≡◌, refl, sym, ap, ap₂, ◌∙◌}
use mathlib.Core.Bool.{Bool, true, false, cond}
use mathlib.Core.List.{List, ◌∷◌, ◌++◌}
use Prim.Native.Nat.{ℕ, zero, suc, ◌+◌, ◌-◌, ◌*◌, ◌/◌, ◌%◌, ◌≤◌, ◌<◌}
use native.Mathlib.Omega.{arith}
use native.Mathlib.Numerals.{add-one}
use native.Mathlib.Nat.{add-zero}
use native.Mathlib.Decide.{dec_lt}
use borrow.Author.Tests.{ltb-true, ltb-false, eqb-false, ne_eqb}
use lib.Dec.{ltb, eqb}
use lib.ListN.{length, get_or, drop, length-drop}
use lib.Seq.{drop-cons, drop-drop, get_or-drop}
use Rattle.numbers.specs.Groups.{bad, followed, group, number_in, number_at, grouped, groups, Bytes, Spans}
use Rattle.numbers.specs.Groups.{Number}
use Rattle.numbers.specs.Groups.{Value, Refused}
use Rattle.numbers.proofs.Reading.{clash, group_one, group_more}
use Rattle.numbers.proofs.Writing.{grouped_one, grouped_more}

-- the byte at a place, and the bytes after it
pub record Here (file : List ℕ) (at b : ℕ) (rest : List ℕ) : Type 0 where
  pub inside : at < length file
  pub byte : b ≡ get_or file at 0
  pub after : drop (at + 1) file ≡ rest

pub here : (file : List ℕ) (at b : ℕ) (rest : List ℕ) → drop at file ≡ b ∷ rest → Here file at b rest
here file at b rest e =
    record {
      inside = omega (arith, length-drop at file, ap length e);
      byte = sym (ap (λ (l : List ℕ). get_or l 0 0) e) ∙ get_or-drop at file 0 0 ∙ ap (λ (k : ℕ). get_or file k 0) (add-zero at);
      after = sym (drop-drop 1 at file) ∙ ap (λ (l : List ℕ). drop 1 l) e;
    }

-- v takes at most g groups
unfoldable pub Few : ℕ → ℕ → Type 0
Few zero v = ⊥
Few (suc g) v = 128 ≤ v → Few g (v / 128)

pub four : (v : ℕ) → v < 268435456 → Few 4 v
unfolding Few
four v h = λ a b c d. omega arith

-- ---- what was written is read
less : (g : ℕ) → suc g - 1 ≡ g
less g = omega arith

whole : (v : ℕ) → v ≡ (v % 128 + 128) % 128 + v / 128 * 128
whole v = omega arith

read_grouped : (g v : ℕ) (file : List ℕ) (at : ℕ) (rest : List ℕ) → Few g v → drop at file ≡ grouped g v ++ rest → number_in g file at ≡ Value v at (at + length (grouped g v))
unfolding Few number_in followed
read_grouped zero v file at rest f e = absurd f
read_grouped (suc g) v file at rest f e = elim (dec_lt v 128) [
  | yes h ↦
      let q = grouped_one (suc g) v (λ z. omega arith) h in
      let w = here file at v rest (e ∙ ap (λ (l : List ℕ). l ++ rest) q) in
      sym (group_one file at v (number_in g file (at + 1)) w.inside w.byte h) ∙ ap (λ (l : List ℕ). Value v at (at + length l)) (sym q)
  | no h ↦
      let h2 : 128 ≤ v = omega arith in
      let q : grouped (suc g) v ≡ (v % 128 + 128) ∷ grouped g (v / 128) = grouped_more (suc g) v (λ z. omega arith) h2 ∙ ap (λ (k : ℕ). (v % 128 + 128) ∷ grouped k (v / 128)) (less g) in
      let w = here file at (v % 128 + 128) (grouped g (v / 128) ++ rest) (e ∙ ap (λ (l : List ℕ). l ++ rest) q) in
      let i = read_grouped g (v / 128) file (at + 1) rest (f h2) w.after in
      sym (group_more file at (v % 128 + 128) (number_in g file (at + 1)) w.inside w.byte (omega arith))
      ∙ ap (followed at ((v % 128 + 128) % 128)) i
      ∙ rw (ne_eqb (v / 128) 0 (omega arith)) (ap₂ (λ (x y : ℕ). Value x at y) (sym (whole v)) (sum at (length (grouped g (v / 128))) ∙ ap (λ (l : List ℕ). at + length l) (sym q)))
]
  where
    sum : (x y : ℕ) → x + 1 + y ≡ x + suc y
    sum x y = omega arith

-- THEOREM: the groups of a number, wherever they stand in a file, are read as that number
pub read_groups : (v : ℕ) (file : List ℕ) (at : ℕ) (rest : List ℕ) → v < 268435456 → drop at file ≡ groups v ++ rest → number_at file at ≡ Value v at (at + length (groups v))
read_groups v file at rest h e = read_grouped 4 v file at rest (four v h) e

-- ---- what was read is written
-- a last group
spans_one : (g : ℕ) (file : List ℕ) (at v : ℕ) {began : ℕ} (next : ℕ) → at < length file → get_or file at 0 < 128 → Value (get_or file at 0) at (at + 1) ≡ Value v began next → Spans file at (grouped (suc g) v) next
spans_one g file at v next h l e =
    let a : get_or file at 0 ≡ v = cc in
    let b : at + 1 ≡ next = cc in
    let q = grouped_one (suc g) v (λ z. omega arith) (omega arith) in
    rw q (record {
      here = drop-cons file at 0 h ∙ ap₂ (λ (x : ℕ) (k : ℕ). x ∷ drop k file) a (sym (add-one at) ∙ b);
      ends = sym b;
    })

-- a group with others after it, whose number is w
spans_more : (g : ℕ) (file : List ℕ) (at w e v : ℕ) {began : ℕ} (next : ℕ) → at < length file → 128 ≤ get_or file at 0 → get_or file at 0 < 256 → (w ≡ 0 → ⊥) → Spans file (at + 1) (grouped g w) e → Value (get_or file at 0 % 128 + w * 128) at e ≡ Value v began next
    → Spans file at (grouped (suc g) v) next
spans_more g file at w e v next h l f z s q =
    let byte = get_or file at 0 in
    let a : get_or file at 0 % 128 + w * 128 ≡ v = cc in
    let b : e ≡ next = cc in
    let c : v % 128 + 128 ≡ get_or file at 0 = omega arith in
    let d : v / 128 ≡ w = omega arith in
    let r : grouped (suc g) v ≡ get_or file at 0 ∷ grouped g w = grouped_more (suc g) v (λ z. omega arith) (omega arith) ∙ ap (λ (k : ℕ). (v % 128 + 128) ∷ grouped k (v / 128)) (less g) ∙ ap₂ (λ (x y : ℕ). x ∷ grouped g y) c d in
    rw r (record {
      here = drop-cons file at 0 h ∙ ap (λ (k : ℕ). get_or file at 0 ∷ drop k file) (sym (add-one at)) ∙ ap (λ (t : List ℕ). get_or file at 0 ∷ t) (s.here ∙ ap (λ (k : ℕ). grouped g w ++ drop k file) b);
      ends = omega (arith, s.ends);
    })

followed_value : (g : ℕ) (file : List ℕ) (at v : ℕ) {began : ℕ} (next : ℕ) (x : Number) → at < length file → 128 ≤ get_or file at 0 → get_or file at 0 < 256
    → ((w p e : ℕ) → x ≡ Value w p e → Spans file (at + 1) (grouped g w) e) → followed at (get_or file at 0 % 128) x ≡ Value v began next → Spans file at (grouped (suc g) v) next
unfolding followed
followed_value g file at v next (Refused r) h l f i q = absurd (clash q)
followed_value g file at v {began} next (Value w p e) h l f i q = cases (eqb w 0) refl q
  where
    cases : (b : Bool) → eqb w 0 ≡ b → cond b (Refused (bad 2 at)) (Value (get_or file at 0 % 128 + w * 128) at e) ≡ Value v began next → Spans file at (grouped (suc g) v) next
    cases true z q = absurd (clash q)
    cases false z q = spans_more g file at w e v next h l f (eqb-false w 0 z) (i w p e refl) q

grouped_read : (g : ℕ) (file : List ℕ) (at v : ℕ) {began : ℕ} (next : ℕ) → Bytes file → number_in g file at ≡ Value v began next → Spans file at (grouped g v) next
unfolding number_in group
grouped_read zero file at v next f e = absurd (clash e)
grouped_read (suc g) file at v {began} next f e = inside (λ w p n i. grouped_read g file (at + 1) w n f i) (ltb at (length file)) refl e
  where
    Before : Type 0
    Before = (w p n : ℕ) → number_in g file (at + 1) ≡ Value w p n → Spans file (at + 1) (grouped g w) n

    small : Before → at < length file → (b : Bool) → ltb (get_or file at 0) 128 ≡ b → cond b (Value (get_or file at 0) at (at + 1)) (followed at (get_or file at 0 % 128) (number_in g file (at + 1))) ≡ Value v began next → Spans file at (grouped (suc g) v) next
    small i h true l q = spans_one g file at v next h (ltb-true _ _ l) q
    small i h false l q = followed_value g file at v next (number_in g file (at + 1)) h (ltb-false _ _ l) (f at) i q

    inside : Before → (b : Bool) → ltb at (length file) ≡ b → cond b (cond (ltb (get_or file at 0) 128) (Value (get_or file at 0) at (at + 1)) (followed at (get_or file at 0 % 128) (number_in g file (at + 1)))) (Refused (bad 1 at)) ≡ Value v began next → Spans file at (grouped (suc g) v) next
    inside i true h q = small i (ltb-true _ _ h) (ltb (get_or file at 0) 128) refl q
    inside i false h q = absurd (clash q)

-- THEOREM: a number that was read stands in the file as the groups of its value
pub groups_read : (file : List ℕ) (at v : ℕ) {began : ℕ} (next : ℕ) → Bytes file → number_at file at ≡ Value v began next → Spans file at (groups v) next
groups_read file at v next f e = grouped_read 4 file at v next f e
