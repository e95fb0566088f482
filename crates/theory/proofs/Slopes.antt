-- A circuit's total as the cycle time changes: the cycle times that work are a range, and each circuit bounds it on one side.
use mathlib.Core.Path.{◌≡◌, ap}
use mathlib.Core.Logic.{inl, inr}
use mathlib.Core.List.{List, [], ◌∷◌}
use Prim.Native.Nat.{ℕ, ◌+◌, ◌-◌, ◌*◌, ◌≤◌, ◌<◌}
use native.Mathlib.Omega.{arith}
use native.Mathlib.Nat.{mul-le-mul_left, mul-lt-mul_of_pos_left, lt_of_mul-lt-mul_left, le_of_mul-le-mul_left}
use native.Mathlib.Decide.{dec_le}
use Rattle.theory.specs.Arcs.{Arc, rise, fall, Works, Within}
use Rattle.theory.specs.Circuits.{total, Circuit, Above, Fits, Zero, Refuted, ups, downs, forths, backs, Falling, Climbing, Level, Gaining}
use Rattle.theory.specs.Ends.{AtMost, Under, Clash}
use Rattle.theory.proofs.Walks.{walk_rises}
use Rattle.theory.proofs.Loops.{works_or_refuted}

-- ---- fractions

pub at_most_trans : (a b p q c d : ℕ) → 0 < q → AtMost a b p q → AtMost p q c d → AtMost a b c d
at_most_trans a b p q c d pos h k = le_of_mul-le-mul_left {k = q} (omega (arith, mul-le-mul_left d h, mul-le-mul_left b k)) pos

-- ---- the total is linear in p and q

module _ (p q : ℕ) where
  -- THEOREM: what a circuit adds at p/q
  pub total_rise : (c : List Arc) → total (rise p q) c ≡ q * ups c + p * forths c
  total_rise [] = omega arith
  total_rise (a ∷ c) = omega (arith, total_rise c)

  -- THEOREM: and what it takes away: so its total with q = 1 is W + c·p
  pub total_fall : (c : List Arc) → total (fall p q) c ≡ q * downs c + p * backs c
  total_fall [] = omega arith
  total_fall (a ∷ c) = omega (arith, total_fall c)

-- THEOREM: a cycle time works exactly if no circuit is above zero there
pub works_fits : (arcs : List Arc) (p q : ℕ) → Works arcs p q → (c : List Arc) → Circuit arcs c → Fits p q c
works_fits arcs p q x c r = omega (arith, walk_rises arcs p q x.0 x.1 c r.node r.node r.closed)

pub fits_works : (arcs : List Arc) (N p q : ℕ) → Within N arcs → ((c : List Arc) → Circuit arcs c → Fits p q c) → Works arcs p q
fits_works arcs N p q within fits =
    elim (works_or_refuted arcs p q N within) [
      | inl x ↦ x
      | inr b ↦ absurd (omega (arith, b.above, fits b.by b.circuit))
    ]

-- THEOREM: a refutation refutes at every finer clock too
pub refuted_finer : (arcs : List Arc) (p q k : ℕ) → 0 < k → Refuted arcs p q → Refuted arcs (k * p) (k * q)
refuted_finer arcs p q k pos r =
    record {
      by = r.by;
      circuit = r.circuit;
      above = omega (
        arith,
        mul-lt-mul_of_pos_left {k = k} r.above pos,
        ap (λ (t : ℕ). k * t) (total_rise p q r.by),
        ap (λ (t : ℕ). k * t) (total_fall p q r.by),
        total_rise (k * p) (k * q) r.by,
        total_fall (k * p) (k * q) r.by,
      );
    }

-- ---- where a circuit's c is not above 0 it fits at every later cycle time, and where it is not below 0 at every earlier one

-- U, D: its ups and downs; s: the size of its c
fits_later : (a b p q U D s : ℕ) → 0 < b → AtMost a b p q → b * U ≤ b * D + a * s → q * U ≤ q * D + p * s
fits_later a b p q U D s pos h f = le_of_mul-le-mul_left {k = b} (omega (arith, mul-le-mul_left q f, mul-le-mul_left s h)) pos

fits_earlier : (c d p q U D s : ℕ) → 0 < d → AtMost p q c d → d * U + c * s ≤ d * D → q * U + p * s ≤ q * D
fits_earlier c d p q U D s pos h f = le_of_mul-le-mul_left {k = d} (omega (arith, mul-le-mul_left q f, mul-le-mul_left s h)) pos

pub split : (a m n : ℕ) → m ≤ n → a * n ≡ a * m + a * (n - m)
split a m n h = go (n - m) (omega arith)
  where
    go : (k : ℕ) → n ≡ m + k → a * n ≡ a * m + a * k
    go k e = rw e (omega arith)

module _ (c : List Arc) (a b p q : ℕ) (pos : 0 < b) where
  pub later_fits : forths c ≤ backs c → AtMost a b p q → Fits a b c → Fits p q c
  later_fits falls h f =
      let fa = split a (forths c) (backs c) falls in
      let fp = split p (forths c) (backs c) falls in
      let f' : b * ups c ≤ b * downs c + a * (backs c - forths c) = omega (arith, total_rise a b c, total_fall a b c) in
      omega (arith, total_rise p q c, total_fall p q c, fits_later a b p q (ups c) (downs c) (backs c - forths c) pos h f')

  pub earlier_fits : backs c ≤ forths c → AtMost p q a b → Fits a b c → Fits p q c
  earlier_fits climbs h f =
      let fa = split a (backs c) (forths c) climbs in
      let fp = split p (backs c) (forths c) climbs in
      let f' : b * ups c + a * (forths c - backs c) ≤ b * downs c = omega (arith, total_rise a b c, total_fall a b c) in
      omega (arith, total_rise p q c, total_fall p q c, fits_earlier a b p q (ups c) (downs c) (forths c - backs c) pos h f')

-- ---- so what works is a range

module _ (arcs : List Arc) (N : ℕ) (within : Within N arcs) where
  pub between : (a b c d p q : ℕ) → 0 < b → 0 < d → Works arcs a b → Works arcs c d → AtMost a b p q → AtMost p q c d → Works arcs p q
  between a b c d p q posb posd low high h k =
      fits_works arcs N p q within (λ r ring. elim (dec_le (forths r) (backs r)) [
        | yes e ↦ later_fits r a b p q posb e h (works_fits arcs a b low r ring)
        | no e ↦ earlier_fits r c d p q posd (omega arith) k (works_fits arcs c d high r ring)
      ])

  -- THEOREM: no finer clock helps, and none harms: what works at p/q works at any fraction of the same worth
  pub works_equal : (a b p q : ℕ) → 0 < b → a * q ≡ p * b → Works arcs a b → Works arcs p q
  works_equal a b p q pos e x = between a b a b p q pos pos x x (omega arith) (omega arith)

  pub upwards : (a b p q : ℕ) → 0 < b → Works arcs a b → ((c : List Arc) → Circuit arcs c → forths c ≤ backs c) → AtMost a b p q → Works arcs p q
  upwards a b p q pos low falls h = fits_works arcs N p q within (λ r ring. later_fits r a b p q pos (falls r ring) h (works_fits arcs a b low r ring))

-- ---- what a circuit refutes

-- The total of the circuit at p/q is at least zero.
abbrev pub Reaches : ℕ → ℕ → List Arc → Type 0
Reaches p q c = total (fall p q) c ≤ total (rise p q) c

above_before : (a b p q U D s : ℕ) → 0 < s → Under p q a b → b * D + a * s ≤ b * U → q * D + p * s < q * U
above_before a b p q U D s pos h f = lt_of_mul-lt-mul_left b (omega (arith, mul-le-mul_left q f, mul-lt-mul_of_pos_left {k = s} h pos))

above_after : (c d p q U D s : ℕ) → 0 < s → Under c d p q → d * D ≤ d * U + c * s → q * D < q * U + p * s
above_after c d p q U D s pos h f = lt_of_mul-lt-mul_left d (omega (arith, mul-le-mul_left q f, mul-lt-mul_of_pos_left {k = s} h pos))

module _ (c : List Arc) (a b p q : ℕ) where
  -- with c below 0, everything under a cycle time at which the total is not below zero
  pub above_under : Falling c → Reaches a b c → Under p q a b → Above p q c
  above_under falls t h =
      let fa = split a (forths c) (backs c) (omega arith) in
      let fp = split p (forths c) (backs c) (omega arith) in
      let t' : b * downs c + a * (backs c - forths c) ≤ b * ups c = omega (arith, total_rise a b c, total_fall a b c) in
      omega (arith, total_rise p q c, total_fall p q c, above_before a b p q (ups c) (downs c) (backs c - forths c) (omega arith) h t')

  -- with c above 0, everything over it
  pub above_over : Climbing c → Reaches a b c → Under a b p q → Above p q c
  above_over climbs t h =
      let fa = split a (backs c) (forths c) (omega arith) in
      let fp = split p (backs c) (forths c) (omega arith) in
      let t' : b * downs c ≤ b * ups c + a * (forths c - backs c) = omega (arith, total_rise a b c, total_fall a b c) in
      omega (arith, total_rise p q c, total_fall p q c, above_after a b p q (ups c) (downs c) (forths c - backs c) (omega arith) h t')

-- with W above 0 and c at least 0, everything
pub above_always : (c : List Arc) (p q : ℕ) → 0 < q → Gaining c → Level c → Above p q c
above_always c p q pos more climbs =
    omega (arith, total_rise p q c, total_fall p q c, mul-lt-mul_of_pos_left {k = q} more pos, mul-le-mul_left p climbs)

limits_clash : (p q U D s U' D' s' : ℕ) → 0 < q → q * U ≤ q * D + p * s → q * U' + p * s' ≤ q * D' → D * s' + D' * s < U * s' + U' * s → ⊥
limits_clash p q U D s U' D' s' pos low high clash =
    omega (arith, mul-le-mul_left s' low, mul-le-mul_left s high, mul-lt-mul_of_pos_left {k = q} clash pos)

module _ (arcs : List Arc) (p q : ℕ) (works : Works arcs p q) where
  -- so a circuit bounds the cycle times that work, from below or from above
  pub low_bound : (c : List Arc) → Circuit arcs c → (a b : ℕ) → Falling c → Reaches a b c → AtMost a b p q
  low_bound c ring a b falls t =
      elim (dec_le (a * q) (p * b)) [
        | yes e ↦ e
        | no e ↦ absurd (omega (arith, above_under c a b p q falls t (omega arith), works_fits arcs p q works c ring))
      ]

  pub high_bound : (c : List Arc) → Circuit arcs c → (a b : ℕ) → Climbing c → Reaches a b c → AtMost p q a b
  high_bound c ring a b climbs t =
      elim (dec_le (p * b) (a * q)) [
        | yes e ↦ e
        | no e ↦ absurd (omega (arith, above_over c a b p q climbs t (omega arith), works_fits arcs p q works c ring))
      ]

  -- THEOREM: one circuit with W above 0 and c at least 0 shows that nothing works
  pub single_clash : (c : List Arc) → Circuit arcs c → 0 < q → Gaining c → Level c → ⊥
  single_clash c ring pos more climbs = omega (arith, above_always c p q pos more climbs, works_fits arcs p q works c ring)

  -- THEOREM: two circuits with clashing limits, the low one above the high one, show that nothing works
  pub double_clash : (c d : List Arc) → Circuit arcs c → Circuit arcs d → 0 < q → Falling c → Climbing d → Clash c d → ⊥
  double_clash c d ring ring' pos falls climbs clash =
      let fc = split p (forths c) (backs c) (omega arith) in
      let fd = split p (backs d) (forths d) (omega arith) in
      let low : q * ups c ≤ q * downs c + p * (backs c - forths c) = omega (arith, total_rise p q c, total_fall p q c, works_fits arcs p q works c ring) in
      let high : q * ups d + p * (forths d - backs d) ≤ q * downs d = omega (arith, total_rise p q d, total_fall p q d, works_fits arcs p q works d ring') in
      omega (arith, limits_clash p q (ups c) (downs c) (backs c - forths c) (ups d) (downs d) (forths d - backs d) pos low high clash)

-- ---- what is known of circuits where something works

pub climbing_loses : (arcs : List Arc) (a b : ℕ) → 0 < b → Works arcs a b → (c : List Arc) → Circuit arcs c → Climbing c → ups c ≤ downs c
climbing_loses arcs a b pos works c ring climbs =
    le_of_mul-le-mul_left {k = b} (omega (arith, total_rise a b c, total_fall a b c, works_fits arcs a b works c ring, mul-le-mul_left a climbs)) pos

-- above zero at or over a cycle time that works: c is above 0; at or under it: below 0
module _ (arcs : List Arc) (a b p q : ℕ) (pos : 0 < b) (works : Works arcs a b) (c : List Arc) (ring : Circuit arcs c) (above : Above p q c) where
  pub over_climbs : AtMost a b p q → Climbing c
  over_climbs h =
      elim (dec_le (forths c) (backs c)) [
        | yes e ↦ absurd (omega (arith, later_fits c a b p q pos e h (works_fits arcs a b works c ring)))
        | no e ↦ omega arith
      ]

  pub under_falls : AtMost p q a b → Falling c
  under_falls h =
      elim (dec_le (backs c) (forths c)) [
        | yes e ↦ absurd (omega (arith, earlier_fits c a b p q pos e h (works_fits arcs a b works c ring)))
        | no e ↦ omega arith
      ]

-- ---- a circuit's own limit: W/(-c) where c is below 0, -W/c where it is above

abbrev pub LowLimit : ℕ → ℕ → List Arc → Type 0
LowLimit a b c = a * (backs c - forths c) ≡ (ups c - downs c) * b

abbrev pub HighLimit : ℕ → ℕ → List Arc → Type 0
HighLimit a b c = a * (forths c - backs c) ≡ (downs c - ups c) * b

module _ (c : List Arc) (a b : ℕ) where
  pub low_zero : forths c ≤ backs c → downs c ≤ ups c → LowLimit a b c → Zero a b c
  low_zero falls more e = omega (arith, total_rise a b c, total_fall a b c, split a (forths c) (backs c) falls, split b (downs c) (ups c) more)

  pub high_zero : backs c ≤ forths c → ups c ≤ downs c → HighLimit a b c → Zero a b c
  high_zero climbs less e = omega (arith, total_rise a b c, total_fall a b c, split a (backs c) (forths c) climbs, split b (ups c) (downs c) less)

  -- and back: a total of zero names the limit
  pub zero_low : 0 < b → Falling c → Zero a b c → LowLimit a b c
  zero_low pos falls e =
      let fa = split a (forths c) (backs c) (omega arith) in
      let more : downs c ≤ ups c = le_of_mul-le-mul_left {k = b} (omega (arith, total_rise a b c, total_fall a b c)) pos in
      omega (arith, total_rise a b c, total_fall a b c, split b (downs c) (ups c) more)

  pub zero_high : 0 < b → Climbing c → Zero a b c → HighLimit a b c
  zero_high pos climbs e =
      let fa = split a (backs c) (forths c) (omega arith) in
      let less : ups c ≤ downs c = le_of_mul-le-mul_left {k = b} (omega (arith, total_rise a b c, total_fall a b c)) pos in
      omega (arith, total_rise a b c, total_fall a b c, split b (ups c) (downs c) less)

module _ (arcs : List Arc) (p q : ℕ) (c : List Arc) (ring : Circuit arcs c) (above : Above p q c) where
  -- one step of the climb: the circuit is above zero at p/q and c is below 0
  pub falling_gains : Falling c → Gaining c
  falling_gains falls = lt_of_mul-lt-mul_left q (omega (arith, total_rise p q c, total_fall p q c, mul-le-mul_left p falls))

  pub record Climb (a b : ℕ) : Type 0 where
    pub zero_there : Zero a b c
    pub rises : Under p q a b
    pub bound : (p' q' : ℕ) → Works arcs p' q' → AtMost a b p' q'

  pub climb : (a b : ℕ) → 0 < b → Falling c → LowLimit a b c → Climb a b
  climb a b pos falls e =
      let more = falling_gains falls in
      let t = low_zero c a b (omega arith) (omega arith) e in
      record {
        zero_there = t;
        rises = elim (dec_le (a * q) (p * b)) [
          | yes h ↦ absurd (omega (arith, later_fits c a b p q pos (omega arith) h (omega arith)))
          | no h ↦ omega arith
        ];
        bound = λ p' q' works. low_bound arcs p' q' works c ring a b falls (omega arith);
      }

  -- one step of the descent: c is above 0
  pub record Descent (a b : ℕ) : Type 0 where
    pub zero_there : Zero a b c
    pub falls : Under a b p q
    pub bound : (p' q' : ℕ) → Works arcs p' q' → AtMost p' q' a b

  pub descend : (a b : ℕ) → 0 < b → Climbing c → ups c ≤ downs c → HighLimit a b c → Descent a b
  descend a b pos climbs less e =
      let t = high_zero c a b (omega arith) (omega arith) e in
      record {
        zero_there = t;
        falls = elim (dec_le (p * b) (a * q)) [
          | yes h ↦ absurd (omega (arith, earlier_fits c a b p q pos (omega arith) h (omega arith)))
          | no h ↦ omega arith
        ];
        bound = λ p' q' works. high_bound arcs p' q' works c ring a b climbs (omega arith);
      }
