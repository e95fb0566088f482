-- A list of which no arc is bad is the numbers of steps of the sheet, each leaving where the one before arrived; with the four tests passed they are a refutation as
-- document 01 describes, and a refutation passes them.
use mathlib.Core.Path.{◌≡◌, refl, sym, ap, ◌∙◌, subst}
use mathlib.Core.List.{List, [], ◌∷◌, map, append-nil}
use Prim.Native.Nat.{ℕ, zero, suc, ◌+◌, ◌*◌, ◌%◌, ◌<◌}
use native.Mathlib.Omega.{arith}
use lib.ListN.{get_or, length, drop}
use Rattle.theory.specs.Arcs.{Arc}
use Rattle.theory.specs.Circuits.{Walk, Distinct, departures, FirstSmallest, Above}
use Rattle.tables.specs.Sheets.{Sheet}
use Rattle.windows.specs.Windows.{Kind, A0, number}
use Rattle.windows.specs.Arcs.{arcs}
use Rattle.windows.specs.Circuits.{Step, numbers, Stands, step_arc, Valid, AllValid, Refutes}
use Rattle.windows.proofs.Numbers.{numbers_length, numbers_at}
use Rattle.windows.proofs.Steps.{kind_of, kind_number, valid_in}
use Rattle.calls.specs.ProposedArcs.{count, arriving, Closed, Follows, Good, Sound}

-- ---- the four numbers of a step tell it

-- THEOREM: steps with the same four numbers are one
pub step_same : (c d : Step) → number c.kind ≡ number d.kind → c.position ≡ d.position → c.to ≡ d.to → c.from ≡ d.from → c ≡ d
step_same c d kind position to from = same c.kind d.kind c.position d.position c.to d.to c.from d.from (sym (kind_number c.kind) ∙ ap kind_of kind ∙ kind_number d.kind) position to from
  where
    same : (k k' : Kind) (h h' i i' j j' : ℕ) → k ≡ k' → h ≡ h' → i ≡ i' → j ≡ j'
        → ◌≡◌ {A = Step} (record { kind = k; position = h; to = i; from = j }) (record { kind = k'; position = h'; to = i'; from = j' })
    same k k' h h' i i' j j' x y z w = cc

-- THEOREM: one step at most stands at a place
pub stands_same : {list : List ℕ} {k : ℕ} {c d : Step} → Stands list k c → Stands list k d → c ≡ d
stands_same {c} {d} x y = step_same c d (sym x.kind ∙ y.kind) (sym x.position ∙ y.position) (sym x.to ∙ y.to) (sym x.from ∙ y.from)

-- THEOREM: the numbers tell the steps
pub numbers_same : (cs ds : List Step) → numbers cs ≡ numbers ds → cs ≡ ds
numbers_same [] [] e = refl
numbers_same [] (d ∷ ds) e = absurd (omega (arith, ap length e))
numbers_same (c ∷ cs) [] e = absurd (omega (arith, ap length e))
numbers_same (c ∷ cs) (d ∷ ds) e =
    both (step_same c d (ap (λ (l : List ℕ). get_or l 0 0) e) (ap (λ (l : List ℕ). get_or l 1 0) e) (ap (λ (l : List ℕ). get_or l 2 0) e) (ap (λ (l : List ℕ). get_or l 3 0) e))
    (numbers_same cs ds (ap (λ (l : List ℕ). drop 4 l) e))
  where
    both : c ≡ d → cs ≡ ds → c ∷ cs ≡ d ∷ ds
    both x y = cc

-- THEOREM: each step stands at its place among the numbers of all
pub read_back : (cs : List Step) (k : ℕ) (d : Step) → k < length cs → Stands (numbers cs) k (get_or cs k d)
read_back cs k d below = subst (λ (l : List ℕ). Stands l k (get_or cs k d)) (append-nil (numbers cs)) (numbers_at cs [] k d below)

-- and there are as many arcs as steps
pub count_numbers : (cs : List Step) → count (numbers cs) ≡ length cs
count_numbers cs = let e = numbers_length cs in omega arith

-- ---- a list of whole arcs, at each of which a step stands, is the numbers of these

-- the arc at k + 1 stands at k behind the first
stands_tail : (a b c d : ℕ) (l : List ℕ) (k : ℕ) (e : Step) → Stands (a ∷ b ∷ c ∷ d ∷ l) (suc k) e → Stands l k e
stands_tail a b c d l k e x =
    record {
      kind = sym (further (4 * suc k) (4 * k) (omega arith)) ∙ x.kind;
      position = sym (further (4 * suc k + 1) (4 * k + 1) (omega arith)) ∙ x.position;
      to = sym (further (4 * suc k + 2) (4 * k + 2) (omega arith)) ∙ x.to;
      from = sym (further (4 * suc k + 3) (4 * k + 3) (omega arith)) ∙ x.from;
    }
  where
    further : (j i : ℕ) → j ≡ suc (suc (suc (suc i))) → get_or (a ∷ b ∷ c ∷ d ∷ l) j 0 ≡ get_or l i 0
    further j i e = ap (λ (x : ℕ). get_or (a ∷ b ∷ c ∷ d ∷ l) x 0) e

-- the first arc, and then the rest
written : (n : ℕ) (list : List ℕ) → length list ≡ 4 * n → ((k : ℕ) → k < n → (c : Step) × Stands list k c) → (steps : List Step) × (list ≡ numbers steps)
written zero [] long stands = ([], refl)
written zero (a ∷ l) long stands = absurd (omega arith)
written (suc n) [] long stands = absurd (omega arith)
written (suc n) (a ∷ []) long stands = absurd (omega arith)
written (suc n) (a ∷ b ∷ []) long stands = absurd (omega arith)
written (suc n) (a ∷ b ∷ c ∷ []) long stands = absurd (omega arith)
written (suc n) (a ∷ b ∷ c ∷ d ∷ l) long stands =
    let first = stands 0 (omega arith) in
    let rest = written n l (omega arith) (λ k below. let e = stands (suc k) (omega arith) in (e.0, stands_tail a b c d l k e.0 e.1)) in
    (first.0 ∷ rest.0, joined (number first.0.kind) first.0.position first.0.to first.0.from (numbers rest.0) first.1.kind first.1.position first.1.to first.1.from rest.1)
  where
    joined : (a' b' c' d' : ℕ) (l' : List ℕ) → a ≡ a' → b ≡ b' → c ≡ c' → d ≡ d' → l ≡ l' → a ∷ b ∷ c ∷ d ∷ l ≡ a' ∷ b' ∷ c' ∷ d' ∷ l'
    joined a' b' c' d' l' x y z u v = cc

-- THEOREM: whole arcs of which none is bad are the numbers of steps
pub good_sound : (s : Sheet) (list : List ℕ) → length list % 4 ≡ 0 → ((k : ℕ) → k < count list → Good s list k) → (steps : List Step) × Sound s list steps
good_sound s list fours good =
    let w = written (count list) list (omega arith) (λ k below. let g = good k below in (g.step, g.stands)) in
    (w.0, record { list_is = w.1; good = good })

-- ---- what the steps of such a list are

module _ (s : Sheet) (list : List ℕ) (steps : List Step) (sound : Sound s list steps) where
  -- there are as many as the list has arcs, and each stands at its place
  pub sound_count : count list ≡ length steps
  sound_count = ap count sound.list_is ∙ count_numbers steps

  pub sound_some : 0 < length list → 0 < length steps
  sound_some some = omega (arith, ap length sound.list_is, numbers_length steps)

  pub sound_stands : (k : ℕ) (d : Step) → k < length steps → Stands list k (get_or steps k d)
  sound_stands k d below = subst (λ (l : List ℕ). Stands l k (get_or steps k d)) (sym sound.list_is) (read_back steps k d below)

  -- the step that is good at k is the one of the list
  step_is : (k : ℕ) (d : Step) → k < length steps → (g : Good s list k) → g.step ≡ get_or steps k d
  step_is k d below g = stands_same g.stands (sound_stands k d below)

  -- THEOREM: the sheet has each step's window
  pub sound_present : (k : ℕ) (d : Step) → k < length steps → Valid s (get_or steps k d)
  sound_present k d below = let g = sound.good k (omega (arith, sound_count)) in subst (Valid s) (step_is k d below g) g.present

  -- THEOREM: each step leaves where the one before arrived
  pub sound_follows : (k : ℕ) (d : Step) → suc k < length steps → (step_arc s (get_or steps (suc k) d)).departure ≡ (step_arc s (get_or steps k d)).arrival
  sound_follows k d below =
      let g = sound.good (suc k) (omega (arith, sound_count)) in
      ap (λ (c : Step). (step_arc s c).departure) (sym (step_is (suc k) d below g)) ∙ g.follows (get_or steps k d) (sound_stands k d (omega arith))

module _ (s : Sheet) where
  all_valid : (cs : List Step) → ((k : ℕ) (d : Step) → k < length cs → Valid s (get_or cs k d)) → AllValid s cs
  all_valid [] valid = tt
  all_valid (c ∷ cs) valid = (valid 0 c (omega arith), all_valid cs (λ k d below. valid (suc k) d (omega arith)))

  valid_at : (cs : List Step) → AllValid s cs → (k : ℕ) (d : Step) → k < length cs → Valid s (get_or cs k d)
  valid_at [] v k d below = absurd (omega arith)
  valid_at (c ∷ cs) v zero d below = v.0
  valid_at (c ∷ cs) v (suc k) d below = valid_at cs v.1 k d (omega arith)

  -- THEOREM: the sheet has the windows of all steps
  pub sound_valid : (list : List ℕ) (steps : List Step) → Sound s list steps → AllValid s steps
  sound_valid list steps sound = all_valid steps (sound_present s list steps sound)

  -- ---- walks

  -- steps of which each leaves where the one before arrived are a walk, to where the last arrives
  walk_of : (c : Step) (cs : List Step) → AllValid s (c ∷ cs)
      → ((k : ℕ) (d : Step) → suc k < length (c ∷ cs) → (step_arc s (get_or (c ∷ cs) (suc k) d)).departure ≡ (step_arc s (get_or (c ∷ cs) k d)).arrival)
      → Walk (arcs s) (step_arc s c).departure (map (step_arc s) (c ∷ cs)) (arriving (step_arc s c).arrival (map (step_arc s) cs))
  walk_of c [] v follows = (valid_in s c v.0, refl, refl)
  walk_of c (e ∷ cs) v follows = (
    valid_in s c v.0,
    refl,
    subst (λ (u : ℕ). Walk (arcs s) u (map (step_arc s) (e ∷ cs)) (arriving (step_arc s e).arrival (map (step_arc s) cs))) (follows 0 c (omega arith))
        (walk_of e cs v.1 (λ k d below. follows (suc k) d (omega arith))),
  )

  -- a walk ends where its last arc arrives,
  walk_ends : (u : ℕ) (w : List Arc) (v : ℕ) → Walk (arcs s) u w v → arriving u w ≡ v
  walk_ends u [] v h = h
  walk_ends u (a ∷ w) v h = walk_ends a.arrival w v h.2

  -- so it is closed where it comes back,
  walk_closed : (u : ℕ) (w : List Arc) → Walk (arcs s) u w u → Closed w
  walk_closed u [] h = tt
  walk_closed u (a ∷ w) h = walk_ends a.arrival w u h.2 ∙ sym h.1

  -- and each of its arcs leaves where the one before arrived
  walk_next : (u : ℕ) (cs : List Step) (v : ℕ) → Walk (arcs s) u (map (step_arc s) cs) v → (k : ℕ) (d : Step) → suc k < length cs → (step_arc s (get_or cs (suc k) d)).departure ≡ (step_arc s (get_or cs k d)).arrival
  walk_next u [] v h k d below = absurd (omega arith)
  walk_next u (c ∷ []) v h k d below = absurd (omega arith)
  walk_next u (c ∷ e ∷ cs) v h zero d below = h.2.1
  walk_next u (c ∷ e ∷ cs) v h (suc k) d below = walk_next (step_arc s c).arrival (e ∷ cs) v h.2 k d (omega arith)

  module _ (p q : ℕ) (list : List ℕ) where
    -- THEOREM: arcs of which none is bad and that pass the four tests are a refutation
    pub sound_refutes : (steps : List Step) → 0 < length steps → Sound s list steps → Closed (map (step_arc s) steps) → Distinct (departures (map (step_arc s) steps))
        → FirstSmallest (departures (map (step_arc s) steps)) → Above p q (map (step_arc s) steps) → Refutes s p q steps
    sound_refutes [] some sound closed once smallest above = absurd (omega arith)
    sound_refutes (c ∷ cs) some sound closed once smallest above =
        let valid = sound_valid list (c ∷ cs) sound in
        record {
          circuit = record {
            valid = valid;
            circuit = record {
              node = (step_arc s c).departure;
              closed = subst (λ (v : ℕ). Walk (arcs s) (step_arc s c).departure (map (step_arc s) (c ∷ cs)) v) closed (walk_of c cs valid (sound_follows s list (c ∷ cs) sound));
              nonempty = omega arith;
              distinct = once;
            };
            first = smallest;
          };
          above = above;
        }

    -- its steps stand where they were written, and each leaves where the one before arrived
    refutes_good : (steps : List Step) → Refutes s p q steps → (d : Step) (k : ℕ) → k < length steps → Good s (numbers steps) k
    refutes_good steps r d k below = record { step = get_or steps k d; stands = read_back steps k d below; present = valid_at steps r.circuit.valid k d below; follows = go k below }
      where
        go : (k : ℕ) → k < length steps → Follows s (numbers steps) k (get_or steps k d)
        go zero below = tt
        go (suc k) below = λ e stands.
            walk_next r.circuit.circuit.node steps r.circuit.circuit.node r.circuit.circuit.closed k d below
            ∙ ap (λ (c : Step). (step_arc s c).arrival) (stands_same (read_back steps k d (omega arith)) stands)

    -- THEOREM: a refutation has no bad arc, and passes the four tests
    pub refutes_sound : (steps : List Step) → Refutes s p q steps → list ≡ numbers steps
        → Sound s list steps × Closed (map (step_arc s) steps) × Distinct (departures (map (step_arc s) steps)) × FirstSmallest (departures (map (step_arc s) steps)) × Above p q (map (step_arc s) steps)
    refutes_sound steps r e =
        let c = r.circuit.circuit in (
          record {
            list_is = e;
            good = subst (λ (l : List ℕ). (k : ℕ) → k < count l → Good s l k) (sym e)
                (λ k below. refutes_good steps r (record { kind = A0; position = 0; to = 0; from = 0 }) k (omega (arith, count_numbers steps)));
          },
          walk_closed c.node (map (step_arc s) steps) c.closed,
          c.distinct,
          r.circuit.first,
          r.above,
        )
