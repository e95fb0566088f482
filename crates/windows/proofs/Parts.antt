-- A whole number as a difference of two naturals, up - down: what is said of whole numbers, said so that omega reads it.
use mathlib.Core.Path.{◌≡◌, refl, ap}
use mathlib.Core.Logic.{◌↔◌}
use mathlib.Core.Bool.{Bool, true, false, not, cond}
use Prim.Native.Nat.{ℕ, zero, suc, ◌+◌, ◌-◌, ◌*◌, ◌≤◌}
use native.Mathlib.Omega.{arith}
use lib.Dec.{T, ltb, ltb→lt, nltb→le, leb→le, le→leb}
use lib.IntN.{ℤ, pos, negsuc, neg_ℤ, sub_ℕ, ◌+ℤ◌, ◌-ℤ◌, ◌*ℤ◌}
use lib.Signed.{◌≤ℤ◌}
use Rattle.windows.specs.Arcs.{up, down}

-- ---- sum, difference, multiple, order

by_test : (c : Bool) (x y : ℤ) (P : ℤ → Type 0) → (T c → P x) → (T (not c) → P y) → P (cond c x y)
by_test true x y P f g = f tt
by_test false x y P f g = g tt

sub_parts : (a b : ℕ) → (up (sub_ℕ a b) ≡ a - b) × (down (sub_ℕ a b) ≡ b - a)
sub_parts a b =
    by_test (ltb a b) (negsuc (b - suc a)) (pos (a - b)) (λ z. (up z ≡ a - b) × (down z ≡ b - a))
    (λ t. (omega (arith, ltb→lt a b t), omega (arith, ltb→lt a b t)))
    (λ t. (omega (arith, nltb→le a b t), omega (arith, nltb→le a b t)))

pub sum_parts : (a b : ℤ) → up (a +ℤ b) + down a + down b ≡ up a + up b + down (a +ℤ b)
sum_parts (pos a) (pos b) = omega arith
sum_parts (pos a) (negsuc b) = omega (arith, sub_parts a (suc b))
sum_parts (negsuc a) (pos b) = omega (arith, sub_parts b (suc a))
sum_parts (negsuc a) (negsuc b) = omega arith

pub neg_parts : (a : ℤ) → (up (neg_ℤ a) ≡ down a) × (down (neg_ℤ a) ≡ up a)
neg_parts (pos zero) = (refl, refl)
neg_parts (pos (suc a)) = (refl, refl)
neg_parts (negsuc a) = (refl, refl)

pub less_parts : (a b : ℤ) → up (a -ℤ b) + down a + up b ≡ up a + down b + down (a -ℤ b)
less_parts a b = omega (arith, sum_parts a (neg_ℤ b), neg_parts b)

pub times_parts : (q : ℕ) (w : ℤ) → (up (pos q *ℤ w) ≡ q * up w) × (down (pos q *ℤ w) ≡ q * down w)
times_parts q (pos a) = (omega arith, omega arith)
times_parts q (negsuc a) = (omega (arith, neg_parts (pos (q * suc a))), omega (arith, neg_parts (pos (q * suc a))))

pub le_parts : (a b : ℤ) → (a ≤ℤ b) ↔ (up a + down b ≤ up b + down a)
le_parts (pos a) (pos b) = (λ h. omega (arith, leb→le a b h.le), λ h. record { le = le→leb a b (omega arith) })
le_parts (pos a) (negsuc b) = (λ h. absurd h.le, λ h. absurd (omega arith))
le_parts (negsuc a) (pos b) = (λ h. omega arith, λ h. record { le = tt })
le_parts (negsuc a) (negsuc b) = (λ h. omega (arith, leb→le b a h.le), λ h. record { le = le→leb b a (omega arith) })

pub same_parts : (a b : ℤ) → up a + down b ≡ up b + down a → a ≡ b
same_parts (pos a) (pos b) h = ap pos (omega arith)
same_parts (pos a) (negsuc b) h = absurd (omega arith)
same_parts (negsuc a) (pos b) h = absurd (omega arith)
same_parts (negsuc a) (negsuc b) h = ap negsuc (omega arith)

-- ---- a difference of two times and a limit

-- The time b is at least the time a, plus u, minus d.
abbrev pub Rise : ℤ → ℤ → ℕ → ℕ → Type 0
Rise a b u d = up a + down b + u ≤ up b + down a + d

pub at_least : (q : ℕ) (w a b : ℤ) → ((pos q *ℤ w) ≤ℤ (a -ℤ b)) ↔ Rise b a (q * up w) (q * down w)
at_least q w a b = (
  λ h. omega (arith, (le_parts (pos q *ℤ w) (a -ℤ b)).0 h, times_parts q w, less_parts a b),
  λ h. (le_parts (pos q *ℤ w) (a -ℤ b)).1 (omega (arith, times_parts q w, less_parts a b)),
)

pub at_most : (q : ℕ) (w a b : ℤ) → ((a -ℤ b) ≤ℤ (pos q *ℤ w)) ↔ Rise a b (q * down w) (q * up w)
at_most q w a b = (
  λ h. omega (arith, (le_parts (a -ℤ b) (pos q *ℤ w)).0 h, times_parts q w, less_parts a b),
  λ h. (le_parts (a -ℤ b) (pos q *ℤ w)).1 (omega (arith, times_parts q w, less_parts a b)),
)
