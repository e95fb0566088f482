-- The lowest and highest cycle time (document 01, "Ends"), for any kind of fraction that "works".
use Rattle.std.specs.Prelude.{ℕ, ◌+◌, ◌-◌, ◌*◌, ◌≤◌, ◌<◌, ◌≡◌, List, []}
use Rattle.std.specs.Int.{◌∣◌}
use Rattle.theory.specs.Arcs.{Arc}
use Rattle.theory.specs.Circuits.{Circuit, Zero, ups, downs, forths, backs, Falling, Climbing, Level, Gaining}

-- p/q is at most p'/q'; is less
abbrev pub AtMost : ℕ → ℕ → ℕ → ℕ → Type 0
AtMost p q p' q' = p * q' ≤ p' * q

abbrev pub Under : ℕ → ℕ → ℕ → ℕ → Type 0
Under p q p' q' = p * q' < p' * q

-- "in lowest terms": nothing but 1 divides both
abbrev pub Lowest : ℕ → ℕ → Type 0
Lowest a b = (k : ℕ) → k ∣ a → k ∣ b → k ≡ 1

-- the greatest common divisor: it divides both, and whatever divides both divides it
pub record Greatest (g a b : ℕ) : Type 0 where
  pub left : g ∣ a
  pub right : g ∣ b
  pub all : (k : ℕ) → k ∣ a → k ∣ b → k ∣ g

-- a/b is the fraction t/s in lowest terms
pub record Reduces (t s a b : ℕ) : Type 0 where
  pub lowest : Lowest a b
  pub worth : a * s ≡ t * b
  pub positive : 0 < b

-- The highest cycle time: "open", or the fraction c/d.
pub data High : Type 0 where
  open_end : High
  up_to : ℕ → ℕ → High

-- p/q is not above the highest cycle time
abbrev pub Upper : ℕ → ℕ → High → Type 0
Upper p q open_end = Unit {0}
Upper p q (up_to c d) = AtMost p q c d

-- the highest cycle time is in lowest terms, "with bottom at least 1"
abbrev pub HighLowest : High → Type 0
HighLowest open_end = Unit {0}
HighLowest (up_to c d) = (0 < d) × Lowest c d

-- a/b is the lowest and `high` the highest of the fractions that work: "the ends named work, all between work, nothing outside does",
-- over every whole p from 0 and q from 1. Zero is 0/1, since nothing but 0/1 is a zero in lowest terms.
pub record Range (Ok : ℕ → ℕ → Type 0) (a b : ℕ) (high : High) : Type 0 where
  pub bottom : 0 < b
  pub lowest : Lowest a b
  pub upper : HighLowest high
  pub some : Upper a b high
  pub works : (p q : ℕ) → 0 < q → AtMost a b p q → Upper p q high → Ok p q
  pub only : (p q : ℕ) → 0 < q → Ok p q → AtMost a b p q × Upper p q high

-- No fraction works.
abbrev pub Never : (ℕ → ℕ → Type 0) → Type 0
Never Ok = (p q : ℕ) → 0 < q → Ok p q → ⊥

-- ---- the circuits that show the ends

-- "Low comes with a circuit of c below 0 and total zero at low, exactly when low is above 0; otherwise that circuit has no arcs."
pub data LowShown (arcs : List Arc) (b : ℕ) : ℕ → List Arc → Type 0 where
  at_zero : LowShown arcs b 0 []
  above_zero : {a : ℕ} {c : List Arc} → 0 < a → Circuit arcs c → Falling c → Zero a b c → LowShown arcs b a c

-- "High is a fraction with a circuit of c above 0 and total zero at high, or "open" with no circuit."
pub data HighShown (arcs : List Arc) : High → List Arc → Type 0 where
  no_limit : HighShown arcs open_end []
  limit : {a b : ℕ} {c : List Arc} → Circuit arcs c → Climbing c → Zero a b c → HighShown arcs (up_to a b) c

-- The limit W/(-c) of the first circuit is greater than the limit -W/c of the second: W₁·c₂ + W₂·(-c₁) is above 0.
abbrev pub Clash : List Arc → List Arc → Type 0
Clash c d = downs c * (forths d - backs d) + downs d * (backs c - forths c) < ups c * (forths d - backs d) + ups d * (backs c - forths c)

-- ""None" comes with one circuit (W above 0, c at least 0; the second list empty) or with two, the first of c below 0 whose limit
-- W/(-c) is greater than the limit -W/c of the second, with c above 0."
pub data NoneShown (arcs : List Arc) : List Arc → List Arc → Type 0 where
  single : {c : List Arc} → Circuit arcs c → Gaining c → Level c → NoneShown arcs c []
  double : {c d : List Arc} → Circuit arcs c → Falling c → Circuit arcs d → Climbing d → Clash c d → NoneShown arcs c d
