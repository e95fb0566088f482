-- What a round does to the boards: each time becomes the larger of what it was and what the arcs ask; a time that was raised has the
-- mark of an arc that asked exactly it, and the others keep theirs. So the rounds hold the tables, and each mark names the last cause.
use mathlib.Core.Path.{◌≡◌, refl, sym, ap, subst, ◌∙◌}
use mathlib.Core.Logic.{◌≢◌, ◌⊎◌, inl, inr}
use mathlib.Core.Bool.{Bool, true, false, cond}
use mathlib.Core.List.Memᴰ
use mathlib.Core.List.{List, [], ◌∷◌, Memᴰ}
use Prim.Native.Nat.{ℕ, zero, suc, ◌+◌, ◌-◌, ◌*◌, ◌≤◌, ◌<◌, max}
use native.Mathlib.Omega.{arith}
use native.Mathlib.Decide.{ℕ_discrete, dec_lt}
use native.Mathlib.Numerals.{add-one}
use borrow.Author.Tests.{ltb-true, ltb-false}
use lib.Dec.{ltb}
use lib.ListN.{length, get_or, set, length-set}
use lib.Seq.{get_or-set_same, get_or-set_other}
use Rattle.theory.specs.Arcs.{only}
use Rattle.theory.proofs.Rounds.{only_yes, only_no}
use Rattle.turns.specs.Rounds.{Named, Board, board, asks, raise, after, most_of, table_of, Differs, MarkTold, Rose, Ran}
use Rattle.turns.proofs.Folds.{Boards}
use Rattle.turns.proofs.Places.{AllIn, all_in}

-- from b₀ to b the time at v was raised, and the arc explains it
record Cause (arcs : List Named) (old : List ℕ) (b₀ b : Board) (v : ℕ) : Type 0 where
  raised : get_or b₀.times v 0 < get_or b.times v 0
  by : Named
  member : Memᴰ by arcs
  marked : get_or b.row v 0 ≡ by.mark
  arrives : by.edge.arrival ≡ v
  exact : get_or b.times v 0 + by.edge.fall ≡ get_or old by.edge.departure 0 + by.edge.rise

-- time and mark at v are as they were
abbrev Same : Board → Board → ℕ → Type 0
Same b b' v = (get_or b'.times v 0 ≡ get_or b.times v 0) × (get_or b'.row v 0 ≡ get_or b.row v 0)

-- ---- one arc
module _ (old : List ℕ) (a : Named) (b : Board) where
  c : ℕ
  c = asks (λ v. get_or old v 0) a.edge

  up : Board
  up = board (set b.times a.edge.arrival c) (set b.row a.edge.arrival a.mark)

  raise_cases : (P : Board → Type 0) → (get_or b.times a.edge.arrival 0 < c → P up) → (c ≤ get_or b.times a.edge.arrival 0 → P b) → P (raise old a b)
  unfolding raise c up
  raise_cases P more less = go (ltb (get_or b.times a.edge.arrival 0) c) refl
    where
      go : (t : Bool) → ltb (get_or b.times a.edge.arrival 0) c ≡ t → P (cond t up b)
      go true e = more (ltb-true (get_or b.times a.edge.arrival 0) c e)
      go false e = less (ltb-false (get_or b.times a.edge.arrival 0) c e)

  raise_long : (length (raise old a b).times ≡ length b.times) × (length (raise old a b).row ≡ length b.row)
  unfolding up
  raise_long =
      raise_cases (λ x. (length x.times ≡ length b.times) × (length x.row ≡ length b.row))
      (λ h. (length-set b.times a.edge.arrival c, length-set b.row a.edge.arrival a.mark))
      (λ h. (refl, refl))

  raise_at : (v : ℕ) → v < length b.times → get_or (raise old a b).times v 0 ≡ max (get_or b.times v 0) (only (ℕ_discrete a.edge.arrival v) c)
  unfolding up
  raise_at v h =
      raise_cases (λ x. get_or x.times v 0 ≡ max (get_or b.times v 0) (only (ℕ_discrete a.edge.arrival v) c))
      (λ k. elim (ℕ_discrete a.edge.arrival v) [
        | yes e ↦ rw (← e) (omega (arith, get_or-set_same b.times a.edge.arrival c 0 (omega arith), only_yes (ℕ_discrete a.edge.arrival a.edge.arrival) c refl))
        | no e ↦ omega (arith, get_or-set_other b.times a.edge.arrival v c 0 (λ d. e (sym d)), only_no (ℕ_discrete a.edge.arrival v) c e)
      ])
      (λ k. elim (ℕ_discrete a.edge.arrival v) [
        | yes e ↦ rw (← e) (omega (arith, only_yes (ℕ_discrete a.edge.arrival a.edge.arrival) c refl))
        | no e ↦ omega (arith, only_no (ℕ_discrete a.edge.arrival v) c e)
      ])

  -- at v the boards are as they were, or the arc explains the time
  raise_cause : (v : ℕ) → v < length b.times → v < length b.row
      → Same b (raise old a b) v ⊎ Cause (a ∷ []) old b (raise old a b) v
  unfolding up c
  raise_cause v h k =
      raise_cases
      (λ x. Same b x v ⊎ Cause (a ∷ []) old b x v)
      (λ l. elim (ℕ_discrete a.edge.arrival v) [
        | yes e ↦
            let now = ap (λ (x : ℕ). get_or (set b.times a.edge.arrival c) x 0) (sym e) ∙ get_or-set_same b.times a.edge.arrival c 0 (omega arith) in
            inr (record {
              raised = omega (arith, now, ap (λ (x : ℕ). get_or b.times x 0) e);
              by = a;
              member = Memᴰ.head refl;
              marked = ap (λ (x : ℕ). get_or (set b.row a.edge.arrival a.mark) x 0) (sym e) ∙ get_or-set_same b.row a.edge.arrival a.mark 0 (omega arith);
              arrives = e;
              exact = omega (arith, now);
            })
        | no e ↦ inl (get_or-set_other b.times a.edge.arrival v c 0 (λ d. e (sym d)), get_or-set_other b.row a.edge.arrival v a.mark 0 (λ d. e (sym d)))
      ])
      (λ l. inl (refl, refl))

one_of : {A : Type 0} {x a : A} {rest : List A} → Memᴰ x (a ∷ []) → Memᴰ x (a ∷ rest)
one_of (Memᴰ.head e) = Memᴰ.head e
one_of (Memᴰ.tail m) = absurd (Memᴰ.not-nil m)

-- ---- the arcs of a round
module _ (old : List ℕ) where
  pub after_long : (arcs : List Named) (b : Board) → (length (after old arcs b).times ≡ length b.times) × (length (after old arcs b).row ≡ length b.row)
  unfolding after
  after_long [] b = (refl, refl)
  after_long (a ∷ rest) b =
      let r = after_long rest (raise old a b) in
      let o = raise_long old a b in
      (r.0 ∙ o.0, r.1 ∙ o.1)

  after_at : (arcs : List Named) (b : Board) (v : ℕ) → v < length b.times → get_or (after old arcs b).times v 0 ≡ max (get_or b.times v 0) (most_of arcs (λ v. get_or old v 0) v)
  unfolding after most_of c
  after_at [] b v h = omega arith
  after_at (a ∷ rest) b v h = omega (arith, after_at rest (raise old a b) v (omega (arith, (raise_long old a b).0)), raise_at old a b v h)

  after_cause : (arcs : List Named) (b : Board) (v : ℕ) → v < length b.times → v < length b.row → Same b (after old arcs b) v ⊎ Cause arcs old b (after old arcs b) v
  unfolding after
  after_cause [] b v h k = inl (refl, refl)
  after_cause (a ∷ rest) b v h k =
      let o = raise_long old a b in
      elim (after_cause rest (raise old a b) v (omega (arith, o.0)) (omega (arith, o.1))) [
        | inr d ↦ inr (record { raised = omega (arith, d.raised, raise_at old a b v h); by = d.by; member = Memᴰ.tail d.member; marked = d.marked; arrives = d.arrives; exact = d.exact })
        | inl e ↦ elim (raise_cause old a b v h k) [
          | inl f ↦ inl (e.0 ∙ f.0, e.1 ∙ f.1)
          | inr f ↦ inr (record { raised = omega (arith, f.raised, e.0); by = f.by; member = one_of f.member; marked = e.1 ∙ f.marked; arrives = f.arrives; exact = omega (arith, f.exact, e.0) })
        ]
      ]

-- ---- the tables
only_le : {A : Type 0} (d : Dec A) (n : ℕ) → only d n ≤ n
only_le (yes p) n = omega arith
only_le (no p) n = omega arith

module _ (N : ℕ) where
  most_agree : (arcs : List Named) → AllIn N arcs → (t u : ℕ → ℕ) → ((v : ℕ) → v < N → t v ≡ u v) → (v : ℕ) → most_of arcs t v ≡ most_of arcs u v
  unfolding most_of
  most_agree [] i t u h v = refl
  most_agree (a ∷ rest) i t u h v =
      let e : asks t a.edge ≡ asks u a.edge = ap (λ (x : ℕ). x + a.edge.rise - a.edge.fall) (h a.edge.departure i.0.departs) in
      omega (arith, ap (only (ℕ_discrete a.edge.arrival v)) e, most_agree rest i.1 t u h v)

  most_bound : (arcs : List Named) → AllIn N arcs → (t : ℕ → ℕ) (m : ℕ) → ((v : ℕ) → t v ≤ m) → (v : ℕ) → most_of arcs t v ≤ m + 2000000000
  unfolding most_of
  most_bound [] i t m h v = omega arith
  most_bound (a ∷ rest) i t m h v =
      omega (arith, only_le (ℕ_discrete a.edge.arrival v) (asks t a.edge), h a.edge.departure, i.0.rise, most_bound rest i.1 t m h v)

  pub table_bound : (arcs : List Named) → AllIn N arcs → (r v : ℕ) → table_of arcs r v ≤ r * 2000000000
  unfolding table_of
  table_bound arcs i zero v = omega arith
  table_bound arcs i (suc r) v = omega (arith, table_bound arcs i r v, most_bound arcs i (table_of arcs r) (r * 2000000000) (table_bound arcs i r) v)

pub table_grows : (arcs : List Named) (r v : ℕ) → table_of arcs r v ≤ table_of arcs (suc r) v
unfolding table_of
table_grows arcs r v = omega arith

-- r rounds are done: the times are table r, each changed something, and the row tells each node's last cause
pub record Running (arcs : List Named) (N r node : ℕ) (times row : List ℕ) : Type 0 where
  pub table : (v : ℕ) → v < N → get_or times v 0 ≡ table_of arcs r v
  pub rising : (k : ℕ) → k < r → (v : ℕ) × (v < N) × Rose arcs k v
  pub told : (v : ℕ) → v < N → 0 < table_of arcs r v → MarkTold arcs row r v
  pub last : 0 < r → (node < N) × Rose arcs (r - 1) node

pub running_none : (arcs : List Named) (N node : ℕ) (times row : List ℕ) → ((v : ℕ) → get_or times v 0 ≡ 0) → Running arcs N 0 node times row
unfolding table_of
running_none arcs N node times row zeros =
    record { table = λ v h. zeros v; rising = λ k h. absurd (omega arith); told = λ v h l. absurd (omega arith); last = λ h. absurd (omega arith) }

-- what a round is handed
pub running_boards : (arcs : List Named) (N r node : ℕ) (times row : List ℕ) → AllIn N arcs → N ≤ 192 → r < N → length times ≡ 192 → length row ≡ 192 → Running arcs N r node times row → Boards times times row N
running_boards arcs N r node times row inside few h lt lr b =
    record { old_long = omega arith; new_long = omega arith; row_long = omega arith; small = λ v k. omega (arith, b.table v k, table_bound N arcs inside r v) }

module _ (arcs : List Named) (N r node : ℕ) (old row new' row' : List ℕ) (inside : AllIn N arcs) (few : N ≤ 192) (more : r < N) (lt : length old ≡ 192) (lr : length row ≡ 192) (b : Running arcs N r node old row)
    (done : board new' row' ≡ after old arcs (board old row)) where
  times_next : (v : ℕ) → v < N → get_or new' v 0 ≡ table_of arcs (suc r) v
  unfolding table_of
  times_next v h =
      ap (λ (x : Board). get_or x.times v 0) done
      ∙ after_at old arcs (board old row) v (omega arith)
      ∙ omega (arith, b.table v h, most_agree N arcs inside (λ v. get_or old v 0) (table_of arcs r) b.table v)

  -- the round raised v by an arc, or left it its time and its mark
  told_next : (v : ℕ) → v < N → 0 < table_of arcs (suc r) v → MarkTold arcs row' (suc r) v
  told_next v h some =
      elim (after_cause old arcs (board old row) v (omega arith) (omega arith)) [
        | inl e ↦
            let same : table_of arcs (suc r) v ≡ table_of arcs r v = omega (arith, times_next v h, b.table v h, e.0, ap (λ (x : Board). get_or x.times v 0) done) in
            let t = b.told v h (omega arith) in
            record {
              round = t.round;
              early = omega (arith, t.early);
              raised = t.raised;
              kept = omega (arith, same, t.kept);
              by = t.by;
              member = t.member;
              marked = ap (λ (x : Board). get_or x.row v 0) done ∙ e.1 ∙ t.marked;
              arrives = t.arrives;
              exact = t.exact;
            }
        | inr d ↦
            let now = times_next v h in
            let before = b.table v h in
            let is = ap (λ (x : Board). get_or x.times v 0) done in
            record {
              round = r;
              early = omega arith;
              raised = omega (arith, now, before, is, d.raised);
              kept = omega arith;
              by = d.by;
              member = d.member;
              marked = ap (λ (x : Board). get_or x.row v 0) done ∙ d.marked;
              arrives = d.arrives;
              exact = omega (arith, now, is, d.exact, b.table d.by.edge.departure (all_in N arcs inside d.member).departs);
            }
      ]

  -- THEOREM: a round that changed something goes on to the next table, and the row tells what raised each node last
  pub running_more : (d : ℕ) → Differs old new' N d → (d ≡ N → ⊥) → Running arcs N (r + 1) d new' row'
  running_more d f not =
      let h : d < N = omega (arith, f.within) in
      let rose : Rose arcs r d = go (f.other h) h in
      rw (add-one r) (record {
        table = times_next;
        rising = λ k l. elim (dec_lt k r) [
          | yes j ↦ b.rising k j
          | no j ↦ let e : k ≡ r = omega arith in rw e (d, h, rose)
        ];
        told = told_next;
        last = λ l. let e : r ≡ suc r - 1 = omega arith in (h, subst (λ (k : ℕ). Rose arcs k d) e rose);
      })
    where
      go : {d : ℕ} → get_or old d 0 ≢ get_or new' d 0 → d < N → Rose arcs r d
      go {d} n h = elim (dec_lt (table_of arcs r d) (table_of arcs (suc r) d)) [
        | yes j ↦ j
        | no j ↦ absurd (n (omega (arith, b.table d h, times_next d h, table_grows arcs r d)))
      ]

  -- the round changed nothing
  pub ran_still : (d : ℕ) → Differs old new' N d → d ≡ N → Ran arcs N r d new' row'
  ran_still d f e =
      let same : (v : ℕ) → v < N → table_of arcs (suc r) v ≡ table_of arcs r v = (λ v h. omega (arith, times_next v h, b.table v h, f.same v (omega arith))) in
      record {
        few = omega arith;
        still = λ h. same;
        table = λ v h. times_next v h ∙ same v h;
        rising = b.rising;
        told = λ v h some. told_still v h (same v h) (told_next v h (omega (arith, same v h)));
        last = λ h. absurd (omega arith);
      }
    where
      -- a round that left v its time is not its last
      told_still : (v : ℕ) → v < N → table_of arcs (suc r) v ≡ table_of arcs r v → MarkTold arcs row' (suc r) v → MarkTold arcs row' r v
      told_still v h same t =
          elim (dec_lt t.round r) [
            | yes l ↦ record { round = t.round; early = l; raised = t.raised; kept = omega (arith, same, t.kept); by = t.by; member = t.member; marked = t.marked; arrives = t.arrives; exact = t.exact }
            | no l ↦ let e : t.round ≡ r = omega (arith, t.early) in absurd (omega (arith, same, rw e at t.raised))
          ]

-- N rounds changed something
pub ran_all : (arcs : List Named) (N r node : ℕ) (times row : List ℕ) → r ≡ N → 0 < N → Running arcs N r node times row → Ran arcs N r node times row
ran_all arcs N r node times row e some b =
    record {
      few = omega arith;
      still = λ h. absurd (omega arith);
      table = b.table;
      rising = b.rising;
      told = b.told;
      last = λ h. rw e at (b.last (omega arith));
    }
