-- What the number at a place is: its bound, where it began or is missing, and where it ends.
use mathlib.Core.Path.{◌≡◌, refl, sym, ap, subst, ◌∙◌}
use mathlib.Core.List.{List}
use Prim.Native.Nat.{ℕ, zero, suc, ◌+◌, ◌-◌, ◌*◌, ◌%◌, ◌≤◌, ◌<◌}
use native.Mathlib.Omega.{arith}
use borrow.Author.Tests.{ltb-true, lt-ltb, le-ltb, eq-eqb, ne_eqb}
use lib.Dec.{ltb, eqb}
use lib.ListN.{length, get_or}
use Rattle.numbers.specs.Groups.{bad, followed, group, number_in, number_at}
use Rattle.numbers.specs.Bounds.{Below}
use Rattle.numbers.specs.Groups.{Refusal}
use Rattle.numbers.specs.Groups.{Number}
use Rattle.numbers.specs.Groups.{Value, Refused}
use Rattle.numbers.proofs.Tests.{split}

-- a refusal is no value
pub clash : {r : Refusal} {v began next : ℕ} → Refused r ≡ Value v began next → ⊥
clash e = let z : ◌≡◌ {A = ℕ} 0 1 = cc in omega arith

-- number_in at a count that is not 0, as the code counts
pub unroll : (g : ℕ) (s : List ℕ) (at : ℕ) → (g ≡ 0 → ⊥) → number_in g s at ≡ group s at (number_in (g - 1) s (at + 1))
unfolding number_in
unroll zero s at h = absurd (h refl)
unroll (suc g) s at h = ap (λ (k : ℕ). group s at (number_in k s (at + 1))) (less g)
  where
    less : (g : ℕ) → g ≡ suc g - 1
    less g = omega arith

followed_below : (at low m : ℕ) (r : Number) → low < 128 → Below m r → Below (m * 128) (followed at low r)
unfolding followed
followed_below at low m (Value v began next) l h = split (Below (m * 128)) (eqb v 0) (λ e. tt) (λ e. omega arith)
followed_below at low m (Refused r) l h = tt

group_below : (s : List ℕ) (at m : ℕ) (r : Number) → 0 < m → Below m r → Below (m * 128) (group s at r)
unfolding group
group_below s at m r p h =
    split (Below (m * 128)) (ltb at (length s))
    (λ i. split (Below (m * 128)) (ltb (get_or s at 0) 128) (λ e. let k = ltb-true (get_or s at 0) 128 e in omega arith) (λ e. followed_below at (get_or s at 0 % 128) m r (omega arith) h))
    (λ i. tt)

below_more : (m n : ℕ) (r : Number) → m ≤ n → Below m r → Below n r
below_more m n (Value v began next) l h = omega arith
below_more m n (Refused r) l h = tt

-- in at most 3 groups a value is below 2 ^ 21
pub three : (g : ℕ) (s : List ℕ) (at : ℕ) → g ≤ 3 → Below 2097152 (number_in g s at)
unfolding number_in
three zero s at h = tt
three (suc zero) s at h = below_more 128 2097152 (number_in 1 s at) (omega arith) (group_below s at 1 (Refused (bad 2 (at + 1))) (omega arith) tt)
three (suc (suc zero)) s at h = below_more 16384 2097152 (number_in 2 s at) (omega arith) (group_below s at 128 (number_in 1 s (at + 1)) (omega arith) (group_below s (at + 1) 1 (Refused (bad 2 (at + 1 + 1))) (omega arith) tt))
three (suc (suc (suc zero))) s at h =
    group_below s at 16384 (number_in 2 s (at + 1)) (omega arith)
    (group_below s (at + 1) 128 (number_in 1 s (at + 1 + 1)) (omega arith) (group_below s (at + 1 + 1) 1 (Refused (bad 2 (at + 1 + 1 + 1))) (omega arith) tt))
three (suc (suc (suc (suc g)))) s at h = absurd (no g h)
  where
    no : (g : ℕ) → suc (suc (suc (suc g))) ≤ 3 → ⊥
    no g h = omega arith

-- the two ways of a byte b that was read
module _ (s : List ℕ) (at b : ℕ) (rest : Number) (h : at < length s) (e : b ≡ get_or s at 0) where
  pub group_one : b < 128 → Value b at (at + 1) ≡ group s at rest
  unfolding group
  group_one l = rw (lt-ltb _ _ h, ← e, lt-ltb _ _ l)

  pub group_more : 128 ≤ b → followed at (b % 128) rest ≡ group s at rest
  unfolding group
  group_more l = rw (lt-ltb _ _ h, ← e, le-ltb _ _ l)

-- the two ways of what stands after a group that is marked as followed
module _ (at low v began next : ℕ) where
  pub followed_zero : v ≡ 0 → Refused (bad 2 at) ≡ followed at low (Value v began next)
  unfolding followed
  followed_zero e = rw (eq-eqb _ _ e)

  pub followed_more : (v ≡ 0 → ⊥) → Value (low + v * 128) at next ≡ followed at low (Value v began next)
  unfolding followed
  followed_more h = rw (ne_eqb _ _ h)

-- a value ends after its start, and within the file
abbrev pub EndsWithin : ℕ → ℕ → Number → Type 0
EndsWithin at len (Value v began next) = (at < next) × (next ≤ len)
EndsWithin at len (Refused r) = Unit

followed_ends : (low at len : ℕ) (r : Number) → EndsWithin (at + 1) len r → EndsWithin at len (followed at low r)
unfolding followed
followed_ends low at len (Value v began next) h = split (EndsWithin at len) (eqb v 0) (λ e. tt) (λ e. (omega arith, h.1))
followed_ends low at len (Refused r) h = tt

pub ends : (g : ℕ) (s : List ℕ) (at : ℕ) → EndsWithin at (length s) (number_in g s at)
unfolding number_in group
ends zero s at = tt
ends (suc g) s at =
    split (EndsWithin at (length s)) (ltb at (length s))
    (λ e. let h = ltb-true at (length s) e in
    split (EndsWithin at (length s)) (ltb (get_or s at 0) 128) (λ i. omega arith) (λ i. followed_ends (get_or s at 0 % 128) at (length s) (number_in g s (at + 1)) (ends g s (at + 1))))
    (λ e. tt)

-- ---- where a number began or is missing
abbrev pub Began : ℕ → Number → Type 0
Began at (Value v began next) = began ≡ at
Began at (Refused r) = r.at ≡ at

followed_began : (at low : ℕ) (r : Number) → Began at (followed at low r)
unfolding followed
followed_began at low (Value v began next) = split (Began at) (eqb v 0) (λ e. refl) (λ e. refl)
followed_began at low (Refused r) = refl

-- THEOREM: the number that is read at a place began there, or is missing there
pub begins : (g : ℕ) (s : List ℕ) (at : ℕ) → Began at (number_in g s at)
unfolding number_in group
begins zero s at = refl
begins (suc g) s at =
    split (Began at) (ltb at (length s)) (λ e. split (Began at) (ltb (get_or s at 0) 128) (λ i. refl) (λ i. followed_began at (get_or s at 0 % 128) (number_in g s (at + 1)))) (λ e. refl)

-- for a caller: a value that was read began at its place
pub value_began : (s : List ℕ) (at : ℕ) {v began next : ℕ} → number_at s at ≡ Value v began next → number_at s at ≡ Value v at next
value_began s at {v} {began} {next} e = let b : Began at (Value v began next) = subst (Began at) e (begins 4 s at) in e ∙ ap (λ (p : ℕ). Value v p next) b

-- for a caller: what a value that was read is
pub value : (s : List ℕ) (at v : ℕ) {began : ℕ} (next : ℕ) → Value v began next ≡ number_at s at → (v < 268435456) × (at < next) × (next ≤ length s)
unfolding number_in
value s at v {began} next e =
    let b : Below 268435456 (Value v began next) = subst (Below 268435456) (sym e) (group_below s at 2097152 (number_in 3 s (at + 1)) (omega arith) (three 3 s (at + 1) (omega arith))) in
    let w : EndsWithin at (length s) (Value v began next) = subst (EndsWithin at (length s)) (sym e) (ends 4 s at) in
    (b, w.0, w.1)
