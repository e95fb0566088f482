-- The inequalities over the endless schedule and the arcs of one period mean the same.
use mathlib.Core.Path.{◌≡◌, refl, sym, ap, ◌∙◌}
use mathlib.Core.Logic.{◌↔◌}
use Prim.Native.Nat.{ℕ, zero, suc, pred, ◌+◌, ◌-◌, ◌*◌, ◌/◌, ◌%◌, ◌≤◌, ◌<◌, max}
use native.Mathlib.Omega.{arith}
use native.Mathlib.Nat.{mod-lt, mod-mod, suc-mod, mod-eq_of_lt, div-eq_of_lt, div-add-mod', mod-add-div', mul-add-div_right, mul-add-mod_self_right, add-mod_right, add-div_right, mul-le-mul_right}
use native.Mathlib.Decide.{dec_lt}
use lib.IntN.{ℤ, pos, negsuc, ◌+ℤ◌}
use lib.Signed.{◌≤ℤ◌}
use Rattle.theory.specs.Arcs.{Holds, Plan, Works}
use Rattle.tables.specs.Sheets.{Sheet}
use Rattle.windows.specs.Windows.{Kind, A0, B0, A1, B1, Window, Event, Has, mode}
use Rattle.windows.specs.Inequalities.{Times, Says, Keeps, Periodic, Solves, FromZero}
use Rattle.windows.specs.Arcs.{up, down, node, nodes, period, continued, arc, arc_of, arcs}
use Rattle.windows.proofs.Parts.{sum_parts, le_parts, same_parts, Rise, at_least, at_most}
use Rattle.windows.proofs.Listed.{arcs_in, arcs_of_lem}

-- ---- what a window says, as an arc from the time of departure to the time of arrival

departure : Times → ℕ → Kind → ℕ → ℕ → ℤ
departure x h A0 i j = x h j
departure x h B0 i j = x h i
departure x h A1 i j = x h j
departure x h B1 i j = x (suc h) i

arrival : Times → ℕ → Kind → ℕ → ℕ → ℤ
arrival x h A0 i j = x h i
arrival x h B0 i j = x h j
arrival x h A1 i j = x (suc h) i
arrival x h B1 i j = x h j

gain : Kind → ℤ → ℕ
gain A0 w = up w
gain B0 w = down w
gain A1 w = up w
gain B1 w = down w

loss : Kind → ℤ → ℕ
loss A0 w = down w
loss B0 w = up w
loss A1 w = down w
loss B1 w = up w

says_rise : (q : ℕ) (x : Times) (h : ℕ) (k : Kind) (i j : ℕ) (w : ℤ) → Says q x h k i j w ↔ Rise (departure x h k i j) (arrival x h k i j) (q * gain k w) (q * loss k w)
unfolding departure arrival gain loss
says_rise q x h A0 i j w = at_least q w (x h i) (x h j)
says_rise q x h B0 i j w = at_most q w (x h i) (x h j)
says_rise q x h A1 i j w = at_least q w (x (suc h) i) (x h j)
says_rise q x h B1 i j w = at_most q w (x (suc h) i) (x h j)

-- ---- times moved by a constant, and to another position

-- The times z at h are the times x at g, E - D later.
abbrev pub Moved : Sheet → Times → ℕ → Times → ℕ → ℕ → ℕ → Type 0
Moved s x g z h D E = (i : ℕ) → Event s i → up (z h i) + down (x g i) + D ≡ up (x g i) + down (z h i) + E

-- a window says the same of both
moved_says : (s : Sheet) (q : ℕ) (x : Times) (g : ℕ) (z : Times) (h D E : ℕ) → Moved s x g z h D E → Moved s x (suc g) z (suc h) D E →
    (k : Kind) (i j : ℕ) (w : ℤ) → Event s i → Event s j → Says q x g k i j w → Says q z h k i j w
unfolding departure arrival gain loss
moved_says s q x g z h D E m m' A0 i j w a b t = (says_rise q z h A0 i j w).1 (omega (arith, (says_rise q x g A0 i j w).0 t, m i a, m j b))
moved_says s q x g z h D E m m' B0 i j w a b t = (says_rise q z h B0 i j w).1 (omega (arith, (says_rise q x g B0 i j w).0 t, m i a, m j b))
moved_says s q x g z h D E m m' A1 i j w a b t = (says_rise q z h A1 i j w).1 (omega (arith, (says_rise q x g A1 i j w).0 t, m' i a, m j b))
moved_says s q x g z h D E m m' B1 i j w a b t = (says_rise q z h B1 i j w).1 (omega (arith, (says_rise q x g B1 i j w).0 t, m' i a, m j b))

-- so of all the windows of a mode
pub moved_all : (s : Sheet) (q : ℕ) (x : Times) (g : ℕ) (z : Times) (h D E : ℕ) → Moved s x g z h D E → Moved s x (suc g) z (suc h) D E →
    (t : ℕ) (a : Window) → Has s t a → Says q x g a.kind a.to a.from a.w → Says q z h a.kind a.to a.from a.w
moved_all s q x g z h D E m m' t a has says = moved_says s q x g z h D E m m' a.kind a.to a.from a.w has.to_event has.from_event says

-- ---- small facts

pub not_below : (z : ℤ) → pos 0 ≤ℤ z → down z ≡ 0
not_below (pos a) h = refl
not_below (negsuc a) h = absurd (omega (arith, (le_parts (pos 0) (negsuc a)).0 h))

-- numbers up to m have a bound
bound : (f : ℕ → ℕ) (m : ℕ) → (C : ℕ) × ((v : ℕ) → v < m → f v ≤ C)
bound f zero = (0, λ v l. absurd (omega arith))
bound f (suc m) =
    let b = bound f m in (
      max b.0 (f m),
      λ v l. elim (dec_lt v m) [
        | yes k ↦ omega (arith, b.1 v k)
        | no k ↦ let e : v ≡ m = omega arith in omega (arith, ap f e)
      ],
    )

-- The times of the nodes, as natural numbers, continued.
abbrev pub onwards : Sheet → ℕ → (ℕ → ℕ) → Times
onwards s p y = continued s p (λ v. pos (y v))

-- In the first period y is x, C later.
abbrev Lifted : Sheet → Times → ℕ → (ℕ → ℕ) → Type 0
Lifted s x C y = (h i : ℕ) → 1 ≤ h → h ≤ s.positions → Event s i → y (node s h i) + down (x h i) ≡ up (x h i) + C

-- The time at node v: its position is v / n, its event the rest, both counted from 1.
abbrev pub time_at : Sheet → Times → ℕ → ℤ
time_at s x v = x (suc (v / s.n)) (suc (v % s.n))

-- Positions are suc g here, and events suc e, so that `pred` computes.
module _ (s : Sheet) (some : 0 < s.positions) where
  -- ---- positions and periods

  -- the position after suc g lies in the period of suc g, or in the next where suc g is the last of its period
  next_period : (g : ℕ) → period s (suc (suc g)) ≡ period s (suc g) + period s (suc (suc (g % s.positions)))
  next_period g = ap (λ (k : ℕ). suc k / s.positions) (sym (div-add-mod' g s.positions)) ∙ ap (λ (k : ℕ). k / s.positions) (regroup (g / s.positions * s.positions) (g % s.positions)) ∙ mul-add-div_right some (g / s.positions) (suc (g % s.positions))
    where
      regroup : (a b : ℕ) → suc (a + b) ≡ a + suc b
      regroup a b = omega arith

  -- ---- the times t of the nodes, continued: each period later by p

  -- THEOREM: they are periodic
  pub continued_periodic : (p : ℕ) (t : ℕ → ℤ) → Periodic s p (continued s p t)
  continued_periodic p t zero i first event = absurd (omega arith)
  continued_periodic p t (suc g) i first event =
      let over : pred (suc g + s.positions) ≡ g + s.positions = omega arith in
      let around : pred (suc g + s.positions) % s.positions ≡ g % s.positions = ap (λ (r : ℕ). r % s.positions) over ∙ add-mod_right g s.positions in
      let place = ap (λ (r : ℕ). t (r * s.n + pred i)) around in
      let later : pred (suc g + s.positions) / s.positions ≡ g / s.positions + 1 = ap (λ (r : ℕ). r / s.positions) over ∙ add-div_right g some in
      same_parts (continued s p t (suc g + s.positions) i) (continued s p t (suc g) i +ℤ pos p)
      (omega (
        arith,
        sum_parts (t (node s (suc g + s.positions) i)) (pos (p * period s (suc g + s.positions))),
        sum_parts (t (node s (suc g) i)) (pos (p * period s (suc g))),
        sum_parts (continued s p t (suc g) i) (pos p),
        ap up place,
        ap down place,
        ap (λ (r : ℕ). p * r) later,
      ))

  -- THEOREM: what is kept in the first period is kept in all
  pub first_keeps : (p q : ℕ) (t : ℕ → ℤ)
      → ((h : ℕ) → 1 ≤ h → h ≤ s.positions → (a : Window) → Has s (mode s h) a → Says q (continued s p t) h a.kind a.to a.from a.w) → Keeps s q (continued s p t)
  first_keeps p q t keeps zero first a has = absurd (omega arith)
  first_keeps p q t keeps (suc g) first a has =
      let r = g % s.positions in
      let small : r < s.positions = mod-lt g some in
      moved_all s q (continued s p t) (suc r) (continued s p t) (suc g) 0 (p * period s (suc g))
      (λ i event. omega (
        arith,
        sum_parts (t (node s (suc g) i)) (pos (p * period s (suc g))),
        sum_parts (t (node s (suc r) i)) (pos (p * period s (suc r))),
        ap (λ (k : ℕ). up (t (k * s.n + pred i))) (mod-mod g s.positions),
        ap (λ (k : ℕ). down (t (k * s.n + pred i))) (mod-mod g s.positions),
        ap (λ (k : ℕ). p * k) (div-eq_of_lt small),
      ))
      (λ i event. omega (
        arith,
        sum_parts (t (node s (suc (suc g)) i)) (pos (p * period s (suc (suc g)))),
        sum_parts (t (node s (suc (suc r)) i)) (pos (p * period s (suc (suc r)))),
        ap (λ (k : ℕ). up (t (k * s.n + pred i))) (suc-mod g s.positions),
        ap (λ (k : ℕ). down (t (k * s.n + pred i))) (suc-mod g s.positions),
        ap (λ (k : ℕ). p * k) (next_period g),
      ))
      (mode s (suc g)) a has
      (keeps (suc r) (omega arith) small a (rw (mod-mod g s.positions) has))

  module _ (p q : ℕ) (y : ℕ → ℕ) where
    -- what a window says of the continued times is what its arc says of y
    pub arc_says : (h : ℕ) (k : Kind) (i j : ℕ) (w : ℤ) → Holds p q y (arc s h k i j w) ↔ Says q (onwards s p y) h k i j w
    unfolding departure arrival gain loss
    arc_says h A0 i j w = (λ holds. (says_rise q (onwards s p y) h A0 i j w).1 (omega arith), λ says. omega (arith, (says_rise q (onwards s p y) h A0 i j w).0 says))
    arc_says h B0 i j w = (λ holds. (says_rise q (onwards s p y) h B0 i j w).1 (omega arith), λ says. omega (arith, (says_rise q (onwards s p y) h B0 i j w).0 says))
    arc_says h A1 i j w = (λ holds. (says_rise q (onwards s p y) h A1 i j w).1 (omega arith), λ says. omega (arith, (says_rise q (onwards s p y) h A1 i j w).0 says))
    arc_says h B1 i j w = (λ holds. (says_rise q (onwards s p y) h B1 i j w).1 (omega arith), λ says. omega (arith, (says_rise q (onwards s p y) h B1 i j w).0 says))

    -- THEOREM: the plans of the arcs are exactly the natural times that, continued, keep every window at every position
    pub plan_iff : Plan (arcs s) p q y ↔ Keeps s q (onwards s p y)
    plan_iff = (there, back)
      where
        there : Plan (arcs s) p q y → Keeps s q (onwards s p y)
        there plan =
            first_keeps p q (λ v. pos (y v)) (λ h first last a has. (arc_says h a.kind a.to a.from a.w).0 (plan (arc_of s h a) (arcs_in s h first last a has)))

        back : Keeps s q (onwards s p y) → Plan (arcs s) p q y
        back keeps c m =
            let o = arcs_of_lem s c m in
            let a = o.of in
            rw (← o.is) ((arc_says o.position a.kind a.to a.from a.w).1 (keeps o.position o.from_first a o.has))

    -- THEOREM: a plan, continued, is a periodic solution
    pub plan_solves : Plan (arcs s) p q y → Solves s p q (onwards s p y)
    plan_solves plan = record { keeps = plan_iff.0 plan; periodic = continued_periodic p (λ v. pos (y v)) }

  -- a plan's times, continued, are from zero
  pub onwards_from_zero : (p : ℕ) (y : ℕ → ℕ) → FromZero s (onwards s p y)
  onwards_from_zero p y h i first event = (le_parts (pos 0) (onwards s p y h i)).1 (omega arith)

  -- ---- a solution is its first period, continued

  -- the time of event i at position suc r, e periods later
  periods_later : (p : ℕ) (x : Times) → Periodic s p x → (r i : ℕ) → Event s i → (e : ℕ)
      → up (x (suc (r + e * s.positions)) i) + down (x (suc r) i) ≡ up (x (suc r) i) + p * e + down (x (suc (r + e * s.positions)) i)
  periods_later p x periodic r i event zero =
      let here : suc (r + 0 * s.positions) ≡ suc r = omega arith in
      omega (arith, ap (λ (h : ℕ). up (x h i)) here, ap (λ (h : ℕ). down (x h i)) here)
  periods_later p x periodic r i event (suc e) =
      let there : x (suc (r + suc e * s.positions)) i ≡ x (suc (r + e * s.positions)) i +ℤ pos p = ap (λ (h : ℕ). x h i) onward ∙ periodic (suc (r + e * s.positions)) i (omega arith) event in
      omega (arith, periods_later p x periodic r i event e, ap up there, ap down there, sum_parts (x (suc (r + e * s.positions)) i) (pos p))
    where
      onward : suc (r + suc e * s.positions) ≡ suc (r + e * s.positions) + s.positions
      onward = omega arith

  -- position suc g is its first period's position, g / V periods later
  split_at : (g : ℕ) → suc (g % s.positions + g / s.positions * s.positions) ≡ suc g
  split_at g = ap suc (mod-add-div' g s.positions)

  module _ (p : ℕ) (x : Times) (periodic : Periodic s p x) (C : ℕ) (y : ℕ → ℕ) (lifted : Lifted s x C y) where
    -- so in every period
    lifted_all : (g i : ℕ) → Event s i → y (node s (suc g) i) + p * period s (suc g) + down (x (suc g) i) ≡ up (x (suc g) i) + C
    lifted_all g i event =
        omega (
          arith,
          lifted (suc (g % s.positions)) i (omega arith) (mod-lt g some) event,
          ap (λ (k : ℕ). y (k * s.n + pred i)) (mod-mod g s.positions),
          periods_later p x periodic (g % s.positions) i event (g / s.positions),
          ap (λ (r : ℕ). up (x r i)) (split_at g),
          ap (λ (r : ℕ). down (x r i)) (split_at g),
        )

    lifted_plan : (q : ℕ) → Keeps s q x → Plan (arcs s) p q y
    lifted_plan q keeps = (plan_iff p q y).1 go
      where
        go : Keeps s q (onwards s p y)
        go zero first a has = absurd (omega arith)
        go (suc g) first a has =
            moved_all s q x (suc g) (onwards s p y) (suc g) 0 C
            (λ i event. omega (arith, lifted_all g i event))
            (λ i event. omega (arith, lifted_all (suc g) i event))
            (mode s (suc g)) a has (keeps (suc g) first a has)

  -- ---- the first period as times of nodes

  pub time_at_lem : (x : Times) (g e : ℕ) → g < s.positions → e < s.n → time_at s x (node s (suc g) (suc e)) ≡ x (suc g) (suc e)
  time_at_lem x g e small event = rw (mod-eq_of_lt small, position, mul-add-mod_self_right g s.n e ∙ mod-eq_of_lt event)
    where
      position : (g * s.n + e) / s.n ≡ g
      position = omega (arith, mul-add-div_right {m = s.n} (omega arith) g e, div-eq_of_lt event)

  pub node_below : (g e : ℕ) → g < s.positions → e < s.n → node s (suc g) (suc e) < nodes s
  node_below g e small event = rw (mod-eq_of_lt small) (omega (arith, mul-le-mul_right {m = suc g} {n = s.positions} s.n small))

  -- times of nodes that agree with x in the first period, C later, lift x
  lift : (x : Times) (C : ℕ) (y : ℕ → ℕ) → ((v : ℕ) → v < nodes s → y v + down (time_at s x v) ≡ up (time_at s x v) + C) → Lifted s x C y
  lift x C y agrees zero i first last event = absurd (omega arith)
  lift x C y agrees (suc g) zero first last event = absurd (omega arith)
  lift x C y agrees (suc g) (suc e) first last event =
      let here = time_at_lem x g e last event.1 in
      omega (arith, agrees (node s (suc g) (suc e)) (node_below g e last event.1), ap up here, ap down here)

  -- THEOREM: the first period of a solution from zero is a plan of the arcs
  pub solution_plan : (p q : ℕ) (x : Times) → Solves s p q x → FromZero s x → Plan (arcs s) p q (λ v. up (time_at s x v))
  solution_plan p q x solves low = lifted_plan p x solves.periodic 0 (λ v. up (time_at s x v)) go q solves.keeps
    where
      go : Lifted s x 0 (λ v. up (time_at s x v))
      go zero i first last event = absurd (omega arith)
      go (suc g) zero first last event = absurd (omega arith)
      go (suc g) (suc e) first last event =
          omega (arith, ap up (time_at_lem x g e last event.1), not_below (x (suc g) (suc e)) (low (suc g) (suc e) first event))

  -- THEOREM: whatever its signs, a periodic solution moved by a constant is a plan: a plan with times from zero exists exactly if a solution exists at all
  pub meaning : (p q : ℕ) → ((x : Times) × Solves s p q x) ↔ Works (arcs s) p q
  meaning p q = (there, λ y. (onwards s p y.0, plan_solves p q y.0 y.1))
    where
      there : (x : Times) × Solves s p q x → Works (arcs s) p q
      there x =
          let b = bound (λ v. down (time_at s x.0 v)) (nodes s) in
          let y : ℕ → ℕ = λ v. (up (time_at s x.0 v) + b.0) - down (time_at s x.0 v) in
          (y, lifted_plan p x.0 x.1.periodic b.0 y (lift x.0 b.0 y (λ v below. omega (arith, b.1 v below))) q x.1.keeps)

  -- THEOREM: a periodic solution is its first period, continued
  pub first_continued : (p : ℕ) (x : Times) → Periodic s p x → (g e : ℕ) → e < s.n → continued s p (time_at s x) (suc g) (suc e) ≡ x (suc g) (suc e)
  first_continued p x periodic g e event =
      let here = time_at_lem x (g % s.positions) e (mod-lt g some) event in
      let same = ap (λ (k : ℕ). time_at s x (k * s.n + e)) (mod-mod g s.positions) in
      same_parts (continued s p (time_at s x) (suc g) (suc e)) (x (suc g) (suc e))
      (omega (
        arith,
        ap up here,
        ap down here,
        ap up same,
        ap down same,
        sum_parts (time_at s x (node s (suc g) (suc e))) (pos (p * period s (suc g))),
        periods_later p x periodic (g % s.positions) (suc e) (omega arith, event) (g / s.positions),
        ap (λ (r : ℕ). up (x r (suc e))) (split_at g),
        ap (λ (r : ℕ). down (x r (suc e))) (split_at g),
      ))
