-- A pass is a fold of `raise` over the records of a position; what each record's step rests on follows from what the pass is handed.
use mathlib.Core.Path.{◌≡◌, refl, ap, ap₂, ◌∙◌}
use mathlib.Core.List.{List, [], ◌∷◌, ◌++◌}
use Prim.Native.Nat.{ℕ, zero, suc, ◌+◌, ◌*◌, ◌≤◌, ◌<◌}
use native.Mathlib.Omega.{arith}
use native.Mathlib.Nat.{mul-le-mul}
use borrow.Author.Tests.{lt-ltb, le-ltb}
use lib.ListN.{length, get_or, set, take, drop}
use lib.Seq.{drop-cons}
use Rattle.windows.specs.Arcs.{up, down}
use Rattle.edges.specs.declared.Edge.{Edge}
use Rattle.edges.specs.declared.Record.{Record}
use Rattle.edges.specs.Edges.{by_kind}
use Rattle.layout.specs.Records.{blank, listed}
use Rattle.edges.specs.declared.Site.{Site}
use Rattle.turns.specs.Rounds.{Named, named, Board, board, asks, raise, after, span, passed, Able, Fine}

-- The position's events and the next one's stand among N nodes.
pub record Sited (at : Site) (n N : ℕ) : Type 0 where
  pub here_in : at.here + n ≤ N
  pub next_in : at.next + n ≤ N
  pub few : N ≤ 192
  pub cross_small : at.cross ≤ 1000000000
  pub q_small : at.q ≤ 1000

-- The old times are small, and there is room for N times, old and new, and for N marks.
pub record Boards (old new row : List ℕ) (N : ℕ) : Type 0 where
  pub old_long : N ≤ length old
  pub new_long : N ≤ length new
  pub row_long : N ≤ length row
  pub small : (v : ℕ) → v < N → get_or old v 0 ≤ 1000000000000000

-- ---- folds
pub after_append : (old : List ℕ) (xs ys : List Named) (b : Board) → after old (xs ++ ys) b ≡ after old ys (after old xs b)
unfolding after
after_append old [] ys b = refl
after_append old (x ∷ xs) ys b = after_append old xs ys (raise old x b)

pub span_snoc : {A : Type 0} (f : ℕ → A) (m a k : ℕ) → a + m ≡ k → span f a (suc m) ≡ span f a m ++ f k ∷ []
unfolding span
span_snoc f zero a k e = let h : a ≡ k = omega arith in rw h
span_snoc {A} f (suc m) a k e = ap (λ (l : List A). f a ∷ l) (span_snoc f m (suc a) k (omega arith))

-- ---- a part of the list
-- no record yet, one record more, and all of them
module _ (old : List ℕ) (at : Site) where
  pub pass_none : (ws : List Record) (i : ℕ) (b : Board) → 0 ≡ i → b ≡ after old (passed at (take i ws)) b
  unfolding after
  pass_none ws i b e = rw (← e)

  pub pass_more : (ws : List Record) (i : ℕ) (b : Board) → i < length ws → raise old (named (listed ws i) at) (after old (passed at (take i ws)) b) ≡ after old (passed at (take (suc i) ws)) b
  unfolding after
  pass_more [] i b h = absurd (omega arith)
  pass_more (w ∷ ws) zero b h = refl
  pass_more (w ∷ ws) (suc i) b h = pass_more ws i (raise old (named w at) b) (omega arith)

  pub pass_all : (ws : List Record) (b : Board) → after old (passed at (take (length ws) ws)) b ≡ after old (passed at ws) b
  unfolding after
  pass_all [] b = refl
  pass_all (w ∷ ws) b = pass_all ws (raise old (named w at) b)

-- the part of the list from a on is its records by their places
pub pass_part : (at : Site) (l : List Record) (m a : ℕ) → a + m ≤ length l → passed at (take m (drop a l)) ≡ span (λ k. named (listed l k) at) a m
unfolding span
pass_part at l zero a h = refl
pass_part at l (suc m) a h =
    ap (λ (x : List Record). passed at (take (suc m) x)) (drop-cons l a blank (omega arith)) ∙ ap (λ (x : List Named). named (listed l a) at ∷ x) (pass_part at l m (suc a) (omega arith))

-- ---- an arc's nodes and weight, by its kind
pub record Inside (e : Edge) (N m : ℕ) : Type 0 where
  pub departs : e.departure < N
  pub arrives : e.arrival < N
  pub rise : e.rise ≤ m
  pub fall : e.fall ≤ m

pub edge_inside : (k : ℕ) (a : Record) (q here next cross n N m : ℕ) → 1 ≤ a.to → a.to ≤ n → 1 ≤ a.from → a.from ≤ n → here + n ≤ N → next + n ≤ N → q * up a.w + cross ≤ m → q * down a.w + cross ≤ m
    → Inside (by_kind k a q here next cross) N m
unfolding by_kind
edge_inside zero a q here next cross n N m t t' f f' h x u d = record { departs = omega arith; arrives = omega arith; rise = omega arith; fall = omega arith }
edge_inside (suc zero) a q here next cross n N m t t' f f' h x u d = record { departs = omega arith; arrives = omega arith; rise = omega arith; fall = omega arith }
edge_inside (suc (suc zero)) a q here next cross n N m t t' f f' h x u d = record { departs = omega arith; arrives = omega arith; rise = omega arith; fall = omega arith }
edge_inside (suc (suc (suc zero))) a q here next cross n N m t t' f f' h x u d = record { departs = omega arith; arrives = omega arith; rise = omega arith; fall = omega arith }
edge_inside (suc (suc (suc (suc k)))) a q here next cross n N m t t' f f' h x u d = record { departs = omega arith; arrives = omega arith; rise = omega arith; fall = omega arith }

-- a limit in steps is small
steps_small : (q u : ℕ) → q ≤ 1000 → u ≤ 1000000 → q * u ≤ 1000000000
steps_small q u h k = mul-le-mul h k

pub fine_inside : (l : List Record) (n count N : ℕ) (at : Site) (k : ℕ) → Fine l n count → Sited at n N → k < count → Inside (named (listed l k) at).edge N 2000000000
fine_inside l n count N at k f s h =
    edge_inside (listed l k).kind (listed l k) at.q at.here at.next at.cross n N 2000000000 (f.to_first k h) (f.to_last k h) (f.from_first k h) (f.from_last k h) s.here_in s.next_in
    (omega (arith, steps_small at.q (up (listed l k).w) s.q_small (f.up_small k h), s.cross_small)) (omega (arith, steps_small at.q (down (listed l k).w) s.q_small (f.down_small k h), s.cross_small))

pub able : (l : List Record) (n e N : ℕ) (at : Site) (k : ℕ) (old new row : List ℕ) → Fine l n e → Sited at n N → Boards old new row N → k < e → Able (listed l k) at old new row
able l n e N at k old new row f s b h =
    let i = fine_inside l n e N at k f s h in
    record {
      kind_few = f.kind_few k h;
      to_first = f.to_first k h;
      from_first = f.from_first k h;
      here_few = omega (arith, s.here_in, s.few);
      next_few = omega (arith, s.next_in, s.few);
      q_small = s.q_small;
      cross_small = omega (arith, s.cross_small);
      reach = record {
        departs = omega (arith, i.departs, b.old_long);
        departs_few = omega (arith, i.departs, s.few);
        arrives = omega (arith, i.arrives, b.new_long);
        marked = omega (arith, i.arrives, b.row_long);
        sum_small = omega (arith, i.rise, b.small (named (listed l k) at).edge.departure i.departs);
      };
    }

-- the boards are as long as they were
pub boards_same : (old new row new' row' : List ℕ) (N : ℕ) → Boards old new row N → length new' ≡ length new → length row' ≡ length row → Boards old new' row' N
boards_same old new row new' row' N b p q =
    record { old_long = b.old_long; new_long = omega (arith, b.new_long); row_long = omega (arith, b.row_long); small = b.small }

one : (old : List ℕ) (b : Board) (m : ℕ) (e : Edge) (c : ℕ) → c ≡ asks (λ v. get_or old v 0) e → get_or b.times e.arrival 0 < c
    → board (set b.times e.arrival c) (set b.row e.arrival m) ≡ raise old (record { mark = m; edge = e }) b
unfolding raise
one old b m e c ask h = rw (← ask, lt-ltb (get_or b.times e.arrival 0) c h)

two : (old : List ℕ) (b : Board) (m : ℕ) (e : Edge) (c : ℕ) → c ≡ asks (λ v. get_or old v 0) e → c ≤ get_or b.times e.arrival 0 → b ≡ raise old (record { mark = m; edge = e }) b
unfolding raise
two old b m e c ask h = rw (← ask, le-ltb (get_or b.times e.arrival 0) c h)

-- ---- one arc, as the code has it: e is the arc, m its mark, c what it asks
module _ (old : List ℕ) (a : Named) (b : Board) (m : ℕ) (e : Edge) (c : ℕ) (mark : m ≡ a.mark) (edge : e ≡ a.edge) (ask : c ≡ asks (λ v. get_or old v 0) e) where
  whole : raise old (record { mark = m; edge = e }) b ≡ raise old a b
  whole = ap (λ (x : Named). raise old x b) (ap₂ {C = Named} (λ (m : ℕ) (e : Edge). record { mark = m; edge = e }) mark edge)

  pub raise_more : get_or b.times e.arrival 0 < c → board (set b.times e.arrival c) (set b.row e.arrival m) ≡ raise old a b
  raise_more h = one old b m e c ask h ∙ whole

  pub raise_same : c ≤ get_or b.times e.arrival 0 → b ≡ raise old a b
  raise_same h = two old b m e c ask h ∙ whole

-- the boards of a step are as long as they were
pub able_same : (a : Record) (at : Site) (old new row new' row' : List ℕ) → Able a at old new row → length new' ≡ length new → length row' ≡ length row → Able a at old new' row'
able_same a at old new row new' row' b p q =
    let r = b.reach in
    record {
      kind_few = b.kind_few;
      to_first = b.to_first;
      from_first = b.from_first;
      here_few = b.here_few;
      next_few = b.next_few;
      q_small = b.q_small;
      cross_small = b.cross_small;
      reach = record { departs = r.departs; departs_few = r.departs_few; arrives = omega (arith, r.arrives); marked = omega (arith, r.marked); sum_small = r.sum_small };
    }
