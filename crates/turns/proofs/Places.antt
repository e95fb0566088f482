-- A position of an admitted sheet stands among the N nodes, and the arcs of all positions run between them.
use mathlib.Core.Path.{◌≡◌, refl, sym, ap, ◌∙◌}
use mathlib.Core.Bool.{Bool, true, false, cond}
use mathlib.Core.List.{List, [], ◌∷◌, ◌++◌, Memᴰ}
use Prim.Native.Nat.{ℕ, zero, suc, ◌+◌, ◌-◌, ◌*◌, ◌≤◌, ◌<◌}
use native.Mathlib.Omega.{arith}
use native.Mathlib.Nat.{mul-le-mul_right, mul-le-mul}
use native.Mathlib.Numerals.{add-one}
use borrow.Author.Tests.{eqb-false}
use lib.Dec.{eqb}
use lib.ListN.{get_or, replicate}
use Rattle.edges.specs.declared.Record.{Record}
use Rattle.layout.specs.Records.{listed}
use Rattle.edges.specs.Edges.{site_of}
use Rattle.turns.specs.Posed.{Limits}
use Rattle.turns.specs.Rounds.{Named, named, Board, after, span, walked, Parts}
use Rattle.turns.proofs.Folds.{Sited, Inside, fine_inside, after_append}

-- at every place of a repeat stands what is repeated
pub repeated : {A : Type 0} (a : A) (n i : ℕ) → get_or (replicate n a) i a ≡ a
repeated a zero i = refl
repeated a (suc n) zero = refl
repeated a (suc n) (suc i) = repeated a n i

pub nodes_small : (n positions p : ℕ) → Limits n positions p → positions * n ≤ 192
nodes_small n positions p l = mul-le-mul l.few_positions l.few_events

pub sited : (g n positions p q : ℕ) → Limits n positions p → q ≤ 1000 → g < positions → Sited (site_of g n positions p q) n (positions * n)
unfolding site_of
sited g n positions p q l sq h = go (eqb (g + 1) positions) refl
  where
    whole : (g + 1) * n ≤ positions * n
    whole = mul-le-mul_right n (omega arith)

    few : positions * n ≤ 192
    few = nodes_small n positions p l

    go : (b : Bool) → eqb (g + 1) positions ≡ b
        → Sited (cond b (record { here = g * n; next = 0; cross = p; q = q }) (record { here = g * n; next = (g + 1) * n; cross = 0; q = q })) n (positions * n)
    go true e = record { here_in = omega (arith, whole); next_in = omega (arith, whole); few = few; cross_small = l.p_small; q_small = sq }
    go false e =
        let q = eqb-false (g + 1) positions e in
        let m : (g + 2) * n ≤ positions * n = mul-le-mul_right n (omega arith) in
        record { here_in = omega (arith, whole); next_in = omega (arith, m); few = few; cross_small = omega arith; q_small = sq }

-- ---- every arc of a list lies inside
abbrev pub AllIn : ℕ → List Named → Type 0
AllIn N [] = Unit {0}
AllIn N (a ∷ rest) = Inside a.edge N 2000000000 × AllIn N rest

pub all_in : (N : ℕ) (arcs : List Named) → AllIn N arcs → {a : Named} → Memᴰ a arcs → Inside a.edge N 2000000000
all_in N [] h {a = a} m = elim m [ ]
all_in N (b ∷ rest) h (Memᴰ.head e) = rw e h.0
all_in N (b ∷ rest) h (Memᴰ.tail m) = all_in N rest h.1 m

all_append : (N : ℕ) (xs ys : List Named) → AllIn N xs → AllIn N ys → AllIn N (xs ++ ys)
all_append N [] ys h k = k
all_append N (x ∷ xs) ys h k = (h.0, all_append N xs ys h.1 k)

all_span : (N : ℕ) (f : ℕ → Named) (m a e : ℕ) → a + m ≡ e → ((k : ℕ) → k < e → Inside (f k).edge N 2000000000) → AllIn N (span f a m)
unfolding span
all_span N f zero a e q h = tt
all_span N f (suc m) a e q h = (h a (omega arith), all_span N f m (suc a) e (omega arith) h)

module _ (l : List Record) (start schedule : List ℕ) (n positions p q : ℕ) (limits : Limits n positions p) (small : q ≤ 1000) (parts : Parts l n start schedule positions) where
  pub walked_in : (g : ℕ) → g ≤ positions → AllIn (positions * n) (walked l start schedule n positions p q g)
  unfolding walked
  walked_in zero h = tt
  walked_in (suc g) h =
      let t = get_or schedule g 0 in
      let k : g < positions = omega arith in
      all_append (positions * n) (walked l start schedule n positions p q g) (span (λ k. named (listed l k) (site_of g n positions p q)) (get_or start t 0) (get_or start (t + 1) 0 - get_or start t 0)) (walked_in g (omega arith))
      (all_span (positions * n) (λ k. named (listed l k) (site_of g n positions p q)) (get_or start (t + 1) 0 - get_or start t 0) (get_or start t 0) (get_or start (t + 1) 0) (omega (arith, parts.rising g k))
      (λ j i. fine_inside l n (get_or start (t + 1) 0) (positions * n) (site_of g n positions p q) j (parts.fine g k) (sited g n positions p q limits small k) i))

-- no position yet, and one position more, as the code counts
module _ (l : List Record) (start schedule : List ℕ) (n positions p q : ℕ) (old : List ℕ) (b : Board) where
  pub round_none : b ≡ after old (walked l start schedule n positions p q 0) b
  unfolding walked after
  round_none = refl

  pub round_more : (g : ℕ) (c d : Board) → c ≡ after old (walked l start schedule n positions p q g) b
      → d ≡ after old (span (λ k. named (listed l k) (site_of g n positions p q)) (get_or start (get_or schedule g 0) 0) (get_or start (get_or schedule g 0 + 1) 0 - get_or start (get_or schedule g 0) 0)) c
      → d ≡ after old (walked l start schedule n positions p q (g + 1)) b
  unfolding walked
  round_more g c d e h =
      let part = span (λ k. named (listed l k) (site_of g n positions p q)) (get_or start (get_or schedule g 0) 0) (get_or start (get_or schedule g 0 + 1) 0 - get_or start (get_or schedule g 0) 0) in
      h
      ∙ ap (after old part) e
      ∙ sym (after_append old (walked l start schedule n positions p q g) part b)
      ∙ ap (λ (k : ℕ). after old (walked l start schedule n positions p q k) b) (sym (add-one g))
