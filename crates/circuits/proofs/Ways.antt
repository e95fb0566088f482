-- The way back along the row of marks: it meets a node again before the nodes give out, and from there it goes round, past the smallest node.
use mathlib.Core.Path.{◌≡◌, refl, sym, ap, subst, ◌∙◌}
use mathlib.Core.Logic.{◌≢◌}
use mathlib.Core.Bool.{Bool, true, false, cond}
use mathlib.Core.List.{List, [], ◌∷◌}
use Prim.Native.Nat.{ℕ, zero, suc, ◌+◌, ◌-◌, ◌*◌, ◌≤◌, ◌<◌, min}
use native.Mathlib.Omega.{arith}
use native.Mathlib.Decide.{dec_lt}
use lib.ListN.{length, get_or, set}
use lib.Seq.{sets, get_or-set_same, get_or-set_other}
use Rattle.theory.specs.Backs.{back, Returns}
use Rattle.theory.proofs.Backs.{Coloured, back_add, returns_within, returns_same, meets_returns, returns_turn, coloured_none, coloured_meets, coloured_room, coloured_more}
use Rattle.circuits.specs.Ways.{before, Led, Sound, Unseen, Met, Rounded, written, Traced}

-- ---- a node is met again

-- how many are not seen
abbrev pub others : List Bool → ℕ
others [] = 0
others (x ∷ xs) = cond x 0 1 + others xs

pub others_less : (xs : List Bool) (u : ℕ) → u < length xs → get_or xs u false ≡ false → others (set xs u true) < others xs
others_less [] u h k = absurd (omega arith)
others_less (x ∷ xs) zero h k = rw k (omega arith)
others_less (x ∷ xs) (suc u) h k = omega (arith, others_less xs u (omega arith) k)

-- 1 for a node that is seen
abbrev colour : List Bool → ℕ → ℕ
colour seen x = cond (get_or seen x false) 1 0

unseen : (seen : List Bool) (x : ℕ) → get_or seen x false ≡ false → colour seen x ≢ 1
unseen seen x e is = let none : colour seen x ≡ 0 = ap (λ (b : Bool). cond b 1 0) e in absurd (omega (arith, none, is))

module _ (row : List ℕ) (n positions v : ℕ) where
  abbrev W : ℕ → ℕ
  W j = back (before row) v j

  -- the way back has come to u, and the nodes that it passed are those that are seen
  pub record Passed (seen : List Bool) (u : ℕ) : Type 0 where
    pub steps : ℕ
    pub within : steps ≤ positions * n
    pub there : W steps ≡ u
    pub seens : Coloured (colour seen) 1 (before row) v steps

  pub passed_none : (seen : List Bool) → Unseen n positions seen → Passed seen v
  unfolding back
  passed_none seen h = record { steps = 0; within = omega arith; there = refl; seens = coloured_none (colour seen) 1 (before row) v (λ x. unseen seen x (h.none x)) }

  module _ (led : Led row n positions v) (seen : List Bool) (u : ℕ) (t : Passed seen u) where
    pub passed_here : u < positions * n
    passed_here = omega (arith, t.there, led.inside t.steps t.within)

    -- THEOREM: a node that is seen is met again
    pub passed_met : get_or seen u false ≡ true → Met row n positions v u
    passed_met e =
        let m = coloured_meets (colour seen) 1 (before row) v t.steps t.seens (ap (colour seen) t.there ∙ ap (λ (b : Bool). cond b 1 0) e) in
        let there = m.1.same ∙ t.there in
        record {
          steps = m.0;
          count = t.steps - m.0;
          within = omega (arith, m.1.some, t.within);
          there = there;
          returns = subst (λ (x : ℕ). Returns (before row) x (t.steps - m.0)) there (meets_returns (before row) v m.0 t.steps m.1);
        }

    module _ (new : get_or seen u false ≡ false) where
      fresh : colour seen (W t.steps) ≢ 1
      fresh = subst (λ (x : ℕ). colour seen x ≢ 1) (sym t.there) (unseen seen u new)

      room : t.steps < positions * n
      room = coloured_room (colour seen) 1 (before row) v t.steps t.seens fresh (positions * n) (λ j h. led.inside j (omega (arith, t.within)))

      -- one step further back
      pub passed_more : u < length seen → (w : ℕ) → w ≡ before row u → Passed (set seen u true) w
      unfolding back
      passed_more long w e =
          record {
            steps = suc t.steps;
            within = room;
            there = ap (before row) t.there ∙ sym e;
            seens = coloured_more (colour seen) 1 (before row) v t.steps t.seens fresh (colour (set seen u true))
                (ap (colour (set seen u true)) t.there ∙ ap (λ (b : Bool). cond b 1 0) (get_or-set_same seen u true false long))
                (λ x h. ap (λ (b : Bool). cond b 1 0) (get_or-set_other seen u x true false (λ (y : x ≡ u). h (y ∙ sym t.there))));
          }

-- ---- a way that returns

module _ (row : List ℕ) (n positions u : ℕ) where
  abbrev B : ℕ → ℕ → ℕ
  B x j = back (before row) x j

  -- THEOREM: a way that has met a node again stays among the nodes
  pub met_sound : (v : ℕ) → Led row n positions v → Met row n positions v u → Sound row n positions u
  met_sound v led m = record { rowed = led.rowed; inside = λ j. let o = on j in rw o.2 (led.inside o.0 (omega (arith, o.1))) }
    where
      on : (j : ℕ) → (i : ℕ) × (i < positions * n) × (B u j ≡ B v i)
      on j =
          let r = returns_within (before row) u m.count m.returns j in (
            r.0 + m.steps,
            omega (arith, r.1, m.within),
            sym r.2 ∙ ap (λ (x : ℕ). B x r.0) (sym m.there) ∙ back_add (before row) v m.steps r.0 (r.0 + m.steps) refl,
          )

  pub sound_on : Sound row n positions u → (i : ℕ) → Sound row n positions (B u i)
  sound_on s i =
      record {
        rowed = s.rowed;
        inside = λ j. rw (back_add (before row) u i j (j + i) refl) (s.inside (j + i));
      }

  -- what a step from a node x of the way rests on
  pub sound_here : Sound row n positions u → (j x : ℕ) → B u j ≡ x → x < positions * n
  sound_here s j x e = omega (arith, s.inside j)

  -- and the node that the step comes to
  pub sound_next : Sound row n positions u → (j x : ℕ) → B u j ≡ x → before row x < positions * n
  unfolding back
  sound_next s j x e = subst (λ (y : ℕ). before row y < positions * n) e (s.inside (suc j))

-- ---- the smallest node of a round

module _ (step : ℕ → ℕ) (u : ℕ) where
  -- x is `count` steps back, u was not met again before, and of the nodes before x `least` is the smallest
  pub record Going (least count x : ℕ) : Type 0 where
    pub some : 0 < count
    pub there : back step u count ≡ x
    pub first : (j : ℕ) → 0 < j → j < count → back step u j ≢ u
    pub at : ℕ
    pub below : at < count
    pub is : back step u at ≡ least
    pub smallest : (j : ℕ) → j < count → least ≤ back step u j

  pub going_none : (x : ℕ) → x ≡ step u → Going u 1 x
  unfolding back
  going_none x e =
      record {
        some = omega arith;
        there = sym e;
        first = λ j a b. absurd (omega arith);
        at = 0;
        below = omega arith;
        is = refl;
        smallest = λ j h. let z : j ≡ 0 = omega arith in rw z (omega arith);
      }

  -- THEOREM: back at u
  pub going_round : (least count x : ℕ) → Going least count x → x ≡ u → Rounded step u least count
  going_round least count x g e =
      record { returns = record { some = g.some; closed = g.there ∙ e; first = g.first }; at = g.at; below = g.below; there = g.is; smallest = g.smallest }

  module _ (least count x : ℕ) (g : Going least count x) where
    pub going_few : (k : ℕ) → Returns step u k → x ≢ u → count < k
    going_few k t new =
        elim (dec_lt count k) [
          | yes h ↦ h
          | no h ↦ absurd (elim (dec_lt k count) [
            | yes l ↦ g.first k t.some l t.closed
            | no l ↦ let e : count ≡ k = omega arith in new (sym g.there ∙ ap (back step u) e ∙ t.closed)
          ])
        ]

    module _ (new : x ≢ u) (w : ℕ) (goes : w ≡ step x) where
      -- one step more, past a node that is less or is not
      on : (least' at : ℕ) → at < count + 1 → back step u at ≡ least' → least' ≤ least → least' ≤ x → Going least' (count + 1) w
      unfolding back
      on least' at below is low here =
          let more : count + 1 ≡ suc count = omega arith in
          record {
            some = omega arith;
            there = ap (back step u) more ∙ ap step g.there ∙ sym goes;
            first = λ j a b. elim (dec_lt j count) [
              | yes h ↦ g.first j a h
              | no h ↦ let e : count ≡ j = omega arith in subst (λ (i : ℕ). back step u i ≢ u) e (subst (λ (y : ℕ). y ≢ u) (sym g.there) new)
            ];
            at = at;
            below = below;
            is = is;
            smallest = λ j h. elim (dec_lt j count) [
              | yes l ↦ omega (arith, g.smallest j l)
              | no l ↦ let e : j ≡ count = omega arith in rw (e, g.there) here
            ];
          }

      -- the smallest of the nodes passed is then the lesser of the smallest so far and this one
      pub going_on : (low : ℕ) → low ≡ min least x → Going low (count + 1) w
      going_on low e = elim (dec_lt x least) [
        | yes h ↦ let e' : x ≡ low = omega (arith, e) in on low count (omega arith) (g.there ∙ e') (omega arith) (omega arith)
        | no h ↦ let e' : least ≡ low = omega (arith, e) in on low g.at (omega (arith, g.below)) (g.is ∙ e') (omega arith) (omega arith)
      ]

-- ---- once round from the node that was met

module _ (row : List ℕ) (n positions v u least count : ℕ) (m : Met row n positions v u) (r : Rounded (before row) u least count) where
  same_count : count ≤ m.count
  same_count = returns_same (before row) u count m.count r.returns m.returns

  pub round_few : count ≤ positions * n
  round_few = omega (arith, same_count, m.within)

  -- a node that is i steps back from `least` is j steps back from u, for a j below the count
  onto : (i : ℕ) → (j : ℕ) × (j < count) × (back (before row) u j ≡ back (before row) least i)
  onto i =
      let o = returns_within (before row) u count r.returns (i + r.at) in
      (o.0, o.1, o.2 ∙ sym (back_add (before row) u r.at i (i + r.at) refl) ∙ ap (λ (x : ℕ). back (before row) x i) r.there)

  -- THEOREM: the way round from the smallest node is on the way back from v
  pub traced : (old new : List ℕ) → new ≡ sets old 0 (written row n least count) → Traced row n positions v old new count
  traced old new e =
      record {
        node = least;
        short = round_few;
        on = λ i h.
            let o = onto i in (
              o.0 + m.steps,
              omega (arith, o.1, same_count, m.within),
              sym (back_add (before row) v m.steps o.0 (o.0 + m.steps) refl) ∙ ap (λ (x : ℕ). back (before row) x o.0) m.there ∙ o.2,
            );
        returns = subst (λ (x : ℕ). Returns (before row) x count) r.there (returns_turn (before row) u count r.returns r.at);
        smallest = λ i h. let o = onto i in omega (arith, r.smallest o.0 o.1, o.2);
        written_is = e;
      }
