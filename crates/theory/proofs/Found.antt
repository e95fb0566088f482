-- The lowest and the highest cycle time: the climb from 0/1 and the descent from above every limit find them, with the circuits that
-- show them, and end. What the code of Ends does is here once, over arcs and natural numbers.
use mathlib.Core.Path.{◌≡◌, ap}
use mathlib.Core.Logic.{◌⊎◌, inl, inr}
use mathlib.Core.List.{List, []}
use Prim.Native.Nat.{ℕ, zero, suc, ◌+◌, ◌-◌, ◌*◌, ◌≤◌, ◌<◌}
use native.Mathlib.Omega.{arith}
use native.Mathlib.Nat.{mul-le-mul_left, mul-lt-mul_of_pos_left, lt_of_mul-lt-mul_left, eq-one_of_dvd-one, dvd-zero, dvd_refl}
use native.Mathlib.Decide.{dec_lt}
use Rattle.theory.specs.Arcs.{Arc, Works}
use Rattle.theory.specs.Circuits.{Circuit, Above, Zero, Refuted, ups, downs, forths, backs, Falling, Climbing, Level, Gaining}
use Rattle.theory.specs.Ends.{AtMost, Under, Lowest, High, open_end, up_to, Range, Never, LowShown, at_zero, above_zero, HighShown, no_limit, limit, Clash, NoneShown, single, double}
use Rattle.theory.specs.Found.{Least, Most, Low, Top}
use Rattle.theory.proofs.Loops.{works_or_refuted}
use Rattle.theory.proofs.Slopes.{LowLimit, HighLimit, total_rise, total_fall, split, between, upwards, climbing_loses, over_climbs, falling_gains, climb, descend, single_clash, double_clash, low_bound, high_bound, zero_low, zero_high}
use Rattle.theory.proofs.Sums.{Laid, backs_few, forths_few, ups_few, downs_few, big_falls}
use Rattle.theory.proofs.Fractions.{lowest_least, reduce, floors, floors_rise, left_to_climb, climb_falls}

-- THEOREM: circuits that show "none" leave no cycle time
pub none_never : (arcs : List Arc) (c d : List Arc) → NoneShown arcs c d → Never (Works arcs)
none_never arcs c d (single ring gains level) p q pos works = single_clash arcs p q works c ring pos gains level
none_never arcs c d (double ring falls ring' climbs clash) p q pos works = double_clash arcs p q works c d ring ring' pos falls climbs clash

-- the limit a/b of a falling circuit lies over that of a climbing one that is above zero at a/b
clash_at : (a b U D s U' D' s' : ℕ) → b * U ≡ b * D + a * s → b * D' < b * U' + a * s' → 0 < s → D * s' + D' * s < U * s' + U' * s
clash_at a b U D s U' D' s' zero_there above pos =
    lt_of_mul-lt-mul_left b (omega (arith, ap (λ (k : ℕ). s' * k) zero_there, mul-lt-mul_of_pos_left {k = s} above pos))

pub low_high_clash : (a b : ℕ) (c d : List Arc) → Falling c → Zero a b c → Climbing d → Above a b d → Clash c d
low_high_clash a b c d falls zero_there climbs above =
    let fc = split a (forths c) (backs c) (omega arith) in
    let fd = split a (backs d) (forths d) (omega arith) in
    clash_at a b (ups c) (downs c) (backs c - forths c) (ups d) (downs d) (forths d - backs d)
    (omega (arith, total_rise a b c, total_fall a b c)) (omega (arith, total_rise a b d, total_fall a b d)) (omega arith)

-- above zero at 0/b: W is above 0; above zero anywhere with c = 0: likewise
gains_at_zero : (b : ℕ) (c : List Arc) → Above 0 b c → Gaining c
gains_at_zero b c above = lt_of_mul-lt-mul_left b (omega (arith, total_rise 0 b c, total_fall 0 b c))

gains_level : (p q : ℕ) (c : List Arc) → forths c ≡ backs c → Above p q c → Gaining c
gains_level p q c level above = lt_of_mul-lt-mul_left q (omega (arith, total_rise p q c, total_fall p q c, ap (λ (k : ℕ). p * k) level))

module _ (N B K : ℕ) (arcs : List Arc) (laid : Laid N B K arcs) where
  -- THEOREM: a circuit's limit in lowest terms has a bottom up to K and a top up to N-as-B
  pub low_small : (c : List Arc) → Circuit arcs c → (a b : ℕ) → Lowest a b → Falling c → LowLimit a b c → (a ≤ N * B) × (b ≤ K)
  low_small c ring a b low falls e =
      let l = lowest_least a b (backs c - forths c) (ups c - downs c) low e (omega arith) in
      (omega (arith, ups_few N B K arcs laid c ring), omega (arith, backs_few N B K arcs laid c ring))

  pub high_small : (c : List Arc) → Circuit arcs c → (a b : ℕ) → Lowest a b → Climbing c → HighLimit a b c → (a ≤ N * B) × (b ≤ K)
  high_small c ring a b low climbs e =
      let l = lowest_least a b (forths c - backs c) (downs c - ups c) low e (omega arith) in
      (omega (arith, downs_few N B K arcs laid c ring), omega (arith, forths_few N B K arcs laid c ring))

  -- ---- the two forms of a range

  pub closed_range : (a b c d : ℕ) → 0 < b → 0 < d → Lowest a b → Lowest c d → Works arcs a b → Works arcs c d → Least arcs a b → Most arcs c d → Range (Works arcs) a b (up_to c d)
  closed_range a b c d posb posd lowb lowd worksb worksd least most =
      record {
        bottom = posb;
        lowest = lowb;
        upper = (posd, lowd);
        some = most a b worksb;
        works = λ p q pos h k. between arcs N laid.within a b c d p q posb posd worksb worksd h k;
        only = λ p q pos works. (least p q works, most p q works);
      }

  pub open_range : (a b P : ℕ) → 0 < b → Lowest a b → Works arcs a b → Least arcs a b → N * B < P → Works arcs P 1 → Range (Works arcs) a b open_end
  open_range a b P pos low worksb least big top =
      record {
        bottom = pos;
        lowest = low;
        upper = tt;
        some = tt;
        works = λ p q posq h k. upwards arcs N laid.within a b p q pos worksb (big_falls N B K arcs laid P big top) h;
        only = λ p q posq works. (least p q works, tt);
      }

  -- ---- what circuits that show the ends give

  pub shown_least : (a b : ℕ) (c : List Arc) → LowShown arcs b a c → Least arcs a b
  shown_least a b c at_zero p q works = omega arith
  shown_least a b c (above_zero pos ring falls zero_there) p q works = low_bound arcs p q works c ring a b falls (omega arith)

  pub shown_most : (a b : ℕ) (c : List Arc) → HighShown arcs (up_to a b) c → Most arcs a b
  shown_most a b c (limit ring climbs zero_there) p q works = high_bound arcs p q works c ring a b climbs (omega arith)

  -- THEOREM: ends that are shown have a bottom up to K
  pub shown_low_small : (a b : ℕ) (c : List Arc) → 1 ≤ K → 0 < b → Lowest a b → LowShown arcs b a c → b ≤ K
  shown_low_small a b c some pos low at_zero = let one : b ≡ 1 = low b (dvd-zero b) (dvd_refl b) in omega arith
  shown_low_small a b c some pos low (above_zero above ring falls zero_there) = (low_small c ring a b low falls (zero_low c a b pos falls zero_there)).1

  -- THEOREM: and so is high's
  pub shown_high_small : (a b : ℕ) (c : List Arc) → 0 < b → Lowest a b → HighShown arcs (up_to a b) c → b ≤ K
  shown_high_small a b c pos low (limit ring climbs zero_there) = (high_small c ring a b low climbs (zero_high c a b pos climbs zero_there)).1

  -- ---- the climb, from 0/1

  -- the start: nothing is under 0/1
  pub low_start : 1 ≤ K → Low N B K arcs 0 1 []
  low_start some = record { positive = omega arith; lowest = λ k x y. eq-one_of_dvd-one y; small = omega arith; few = some; least = λ p q works. omega arith; shown = at_zero }

  limit_positive : (a b : ℕ) (c : List Arc) → 0 < b → Falling c → Gaining c → LowLimit a b c → 0 < a
  limit_positive zero b c pos falls gains e =
      let more : 1 ≤ ups c - downs c = omega arith in
      absurd (omega (arith, mul-le-mul_left b more))
  limit_positive (suc a) b c pos falls gains e = omega arith

  -- a circuit above zero at a/b with c below 0: go to its own limit
  pub climb_on : (a b : ℕ) (c : List Arc) → Low N B K arcs a b c → (d : List Arc) → Circuit arcs d → Above a b d → Falling d → (a' b' : ℕ) → 0 < b' → Lowest a' b' → LowLimit a' b' d
      → Low N B K arcs a' b' d × Under a b a' b'
  climb_on a b c l d ring above falls a' b' pos low e =
      let s = climb arcs a b d ring above a' b' pos falls e in
      let t = low_small d ring a' b' low falls e in
      let gains = falling_gains arcs a b d ring above falls in
      (record { positive = pos; lowest = low; small = t.0; few = t.1; least = s.bound; shown = above_zero (limit_positive a' b' d pos falls gains e) ring falls s.zero_there }, s.rises)

  -- one with c at least 0 and W not above 0: nothing works, as it shows with the circuit of the climb before it
  pub climb_both : (a b : ℕ) (c : List Arc) → Low N B K arcs a b c → (d : List Arc) → Circuit arcs d → Above a b d → Level d → ups d ≤ downs d → NoneShown arcs c d
  climb_both a b c l d ring above level less = two a c l.shown above
    where
      two : (a : ℕ) (c : List Arc) → LowShown arcs b a c → Above a b d → NoneShown arcs c d
      two a c at_zero above = absurd (omega (arith, gains_at_zero b d above))
      two a c (above_zero pos ring' falls zero_there) above =
          let climbs : Climbing d = elim (dec_lt (backs d) (forths d)) [
            | yes h ↦ h
            | no h ↦ absurd (omega (arith, gains_level a b d (omega arith) above))
          ] in
          double ring' falls ring climbs (low_high_clash a b c d falls zero_there climbs above)

  -- with W above 0 it shows so alone
  pub climb_stops : (a b : ℕ) (c : List Arc) → Low N B K arcs a b c → (d : List Arc) → Circuit arcs d → Above a b d → Level d → NoneShown arcs d [] ⊎ NoneShown arcs c d
  climb_stops a b c l d ring above level =
      elim (dec_lt (downs d) (ups d)) [
        | yes gains ↦ inl (single ring gains level)
        | no none ↦ inr (climb_both a b c l d ring above level (omega arith))
      ]

  -- the climb's measure
  pub climb_less : (a b : ℕ) (c : List Arc) (a' b' : ℕ) (c' : List Arc) → Low N B K arcs a b c → Low N B K arcs a' b' c' → Under a b a' b' → left_to_climb (N * B) K a' b' < left_to_climb (N * B) K a b
  climb_less a b c a' b' c' l l' rises =
      climb_falls (N * B) K a b a' b' l.positive l'.positive l'.few (omega (arith, l'.small, mul-le-mul_left (N * B) l'.positive)) rises

  -- ---- the descent, from a cycle time above every limit, where a/b works

  module _ (a b : ℕ) (pos : 0 < b) (works : Works arcs a b) where
    pub descend_climbs : (p q : ℕ) → AtMost a b p q → (e : List Arc) → Circuit arcs e → Above p q e → Climbing e × (ups e ≤ downs e)
    descend_climbs p q h e ring above =
        let climbs = over_climbs arcs a b p q pos works e ring above h in
        (climbs, climbing_loses arcs a b pos works e ring climbs)

    -- a circuit above zero at p/q, at or over what works: go to its own limit
    pub descend_on : (p q : ℕ) → AtMost a b p q → (e : List Arc) → Circuit arcs e → Above p q e → (c d : ℕ) → 0 < d → Lowest c d → HighLimit c d e → Top N B K arcs c d e × Under c d p q
    descend_on p q h e ring above c d posd low worth =
        let k = descend_climbs p q h e ring above in
        let s = descend arcs p q e ring above c d posd k.0 k.1 worth in
        let t = high_small e ring c d low k.0 worth in
        (record { positive = posd; lowest = low; small = t.0; few = t.1; most = s.bound; shown = limit ring k.0 s.zero_there }, s.falls)

    -- the descent's measure
    pub descend_less : (c d : ℕ) (e : List Arc) (c' d' : ℕ) (e' : List Arc) → Top N B K arcs c d e → Top N B K arcs c' d' e' → Under c' d' c d → floors c' d' K < floors c d K
    descend_less c d e c' d' e' t t' falls = floors_rise c' d' c d K t'.positive t.positive t.few falls

  -- ---- both, so that there always are ends with their circuits, or circuits that show there are none

  -- "none" with its circuits
  pub record None : Type 0 where
    pub first : List Arc
    pub second : List Arc
    pub shown : NoneShown arcs first second

  -- the ends with their circuits
  pub record Found : Type 0 where
    pub top : ℕ
    pub bottom : ℕ
    pub high : High
    pub low_circuit : List Arc
    pub high_circuit : List Arc
    pub range : Range (Works arcs) top bottom high
    pub low_shown : LowShown arcs bottom top low_circuit
    pub high_shown : HighShown arcs high high_circuit

  climb_step : (a b : ℕ) (c : List Arc) → Low N B K arcs a b c → Refuted arcs a b → None ⊎ ((a' b' : ℕ) × (c' : List Arc) × Low N B K arcs a' b' c' × Under a b a' b')
  climb_step a b c l k =
      elim (dec_lt (forths k.by) (backs k.by)) [
        | yes falls ↦
            let r = reduce (ups k.by - downs k.by) (backs k.by - forths k.by) (omega arith) in
            let s = climb_on a b c l k.by k.circuit k.above falls r.top r.bottom r.positive r.lowest r.worth in
            inr (r.top, r.bottom, k.by, s.0, s.1)
        | no level ↦ elim (climb_stops a b c l k.by k.circuit k.above (omega arith)) [
          | inl n ↦ inl (record { first = k.by; second = []; shown = n })
          | inr n ↦ inl (record { first = c; second = k.by; shown = n })
        ]
      ]

  climb_all : (f a b : ℕ) (c : List Arc) → left_to_climb (N * B) K a b < f → Low N B K arcs a b c → None ⊎ ((a' b' : ℕ) × (c' : List Arc) × Low N B K arcs a' b' c' × Works arcs a' b')
  climb_all zero a b c h l = absurd (omega arith)
  climb_all (suc f) a b c h l =
      elim (works_or_refuted arcs a b N laid.within) [
        | inl x ↦ inr (a, b, c, l, x)
        | inr k ↦ elim (climb_step a b c l k) [
          | inl none ↦ inl none
          | inr s ↦ climb_all f s.0 s.1 s.2 (omega (arith, climb_less a b c s.0 s.1 s.2 l s.3 s.4)) s.3
        ]
      ]

  module _ (a b : ℕ) (pos : 0 < b) (works : Works arcs a b) where
    descend_step : (p q : ℕ) → AtMost a b p q → (k : Refuted arcs p q) → (c d : ℕ) × Top N B K arcs c d k.by × Under c d p q
    descend_step p q h k =
        let climbs = descend_climbs a b pos works p q h k.by k.circuit k.above in
        let r = reduce (downs k.by - ups k.by) (forths k.by - backs k.by) (omega arith) in
        let s = descend_on a b pos works p q h k.by k.circuit k.above r.top r.bottom r.positive r.lowest r.worth in
        (r.top, r.bottom, s.0, s.1)

    descend_all : (f c d : ℕ) (e : List Arc) → floors c d K < f → Top N B K arcs c d e → (c' d' : ℕ) × (e' : List Arc) × Top N B K arcs c' d' e' × Works arcs c' d'
    descend_all zero c d e h t = absurd (omega arith)
    descend_all (suc f) c d e h t =
        elim (works_or_refuted arcs c d N laid.within) [
          | inl x ↦ (c, d, e, t, x)
          | inr k ↦
              let s = descend_step c d (t.most a b works) k in
              descend_all f s.0 s.1 k.by (omega (arith, descend_less a b pos works c d e s.0 s.1 k.by t s.2 s.3)) s.2
        ]

    found_high : (low : List Arc) → Low N B K arcs a b low → Found
    found_high low l =
        let P : ℕ = suc (N * B) in
        elim (works_or_refuted arcs P 1 N laid.within) [
          | inl x ↦ record {
            top = a;
            bottom = b;
            high = open_end;
            low_circuit = low;
            high_circuit = [];
            range = open_range a b P pos l.lowest works l.least (omega arith) x;
            low_shown = l.shown;
            high_shown = no_limit;
          }
          | inr k ↦
              let s = descend_step P 1 (omega (arith, l.small, mul-le-mul_left P pos)) k in
              let t = descend_all (suc (floors s.0 s.1 K)) s.0 s.1 k.by (omega arith) s.2 in
              record {
                top = a;
                bottom = b;
                high = up_to t.0 t.1;
                low_circuit = low;
                high_circuit = t.2;
                range = closed_range a b t.0 t.1 pos t.3.positive l.lowest t.3.lowest works t.4 l.least t.3.most;
                low_shown = l.shown;
                high_shown = t.3.shown;
              }
        ]

  -- THEOREM: there are ends, with the circuits that show them, or circuits that show there are none
  pub found : 1 ≤ K → None ⊎ Found
  found some =
      elim (climb_all (suc (left_to_climb (N * B) K 0 1)) 0 1 [] (omega arith) (low_start some)) [
        | inl none ↦ inl none
        | inr l ↦ inr (found_high l.0 l.1 l.3.positive l.4 l.2 l.3)
      ]

  -- THEOREM: "none" is shown by circuits exactly if nothing works
  pub never_none : 1 ≤ K → Never (Works arcs) → None
  never_none some never =
      elim (found some) [
        | inl none ↦ none
        | inr f ↦ absurd (never f.top f.bottom f.range.bottom (f.range.works f.top f.bottom f.range.bottom (omega arith) f.range.some))
      ]
