-- A circuit that Ask gave, as the code of Ends reads it again: the numbers of its arcs name places of the tables, and the sums that they
-- give are those of the arcs.
use mathlib.Core.Path.{◌≡◌, refl, sym, ap, ◌∙◌, subst}
use mathlib.Core.List.{List, [], ◌∷◌, ◌++◌, map}
use Prim.Native.Nat.{ℕ, zero, suc, ◌+◌, ◌/◌, ◌≤◌, ◌<◌}
use native.Mathlib.Omega.{arith}
use native.Mathlib.Nat.{div-eq_of_lt}
use lib.IntN.{ℤ}
use lib.ListN.{get_or, length, take, length-append, length-map}
use lib.Seq.{take-suc, take_all}
use Rattle.theory.specs.Arcs.{Arc}
use Rattle.theory.specs.Circuits.{total, ups, downs, forths, backs}
use Rattle.theory.proofs.Loops.{circuit_length}
use Rattle.theory.proofs.Turning.{map_append}
use Rattle.theory.proofs.Walks.{total_append}
use Rattle.tables.specs.Sheets.{Sheet, refusal}
use Rattle.tables.proofs.Laws.{accepted}
use Rattle.windows.specs.Windows.{Kind, A0, B0, A1, B1, number}
use Rattle.windows.specs.Arcs.{up, down, period, arc, nodes, arcs}
use Rattle.windows.specs.Circuits.{Step, numbers, Stands, limit, step_arc, Valid, AllValid, CircuitOf}
use Rattle.windows.proofs.Laying.{arcs_within}
use Rattle.windows.proofs.Limits.{number_small, nodes_few}
use Rattle.windows.proofs.Numbers.{numbers_length, numbers_at}
use Rattle.weights.specs.Weights.{weight, kind_weight, weight_of, weight_at, plus, weights_in, NamesAt, Lists}
use Rattle.limits.specs.declared.Weight.{Weight}

-- the sums of an arc, and of a circuit's arcs
abbrev arc_weight : Arc → Weight
arc_weight a = weight a.up a.down a.forth a.back

unfoldable pub weights_of : Sheet → List Step → Weight
weights_of s cs = weight (ups (map (step_arc s) cs)) (downs (map (step_arc s) cs)) (forths (map (step_arc s) cs)) (backs (map (step_arc s) cs))

same_weight : (u d f b u' d' f' b' : ℕ) → u ≡ u' → d ≡ d' → f ≡ f' → b ≡ b' → weight u d f b ≡ weight u' d' f' b'
same_weight u d f b u' d' f' b' p q r s = cc

-- ---- one arc

-- the four numbers of an arc of the sheet add what the arc does
module _ (s : Sheet) (c : Step) (v : Valid s c) where
  -- an arc leaves or arrives in the first period, or where its window crosses the period's end
  here : 0 ≡ period s c.position
  here = sym (div-eq_of_lt (omega (arith, v.from_first, v.to_last)))

  by_kind : (k : Kind) (i j : ℕ) (w : ℤ) → kind_weight (number k) (up w) (down w) (c.position / s.positions) ≡ arc_weight (arc s c.position k i j w)
  unfolding kind_weight
  by_kind A0 i j w = same_weight _ _ _ _ _ _ _ _ refl refl here here
  by_kind B0 i j w = same_weight _ _ _ _ _ _ _ _ refl refl here here
  by_kind A1 i j w = same_weight _ _ _ _ _ _ _ _ refl refl here refl
  by_kind B1 i j w = same_weight _ _ _ _ _ _ _ _ refl refl refl here

  weight_is : weight_of s (number c.kind) c.position c.to c.from ≡ arc_weight (step_arc s c)
  weight_is = by_kind c.kind c.to c.from (limit s c)

  weight_held : (circuit : List ℕ) (k : ℕ) → Stands circuit k c → weight_at s circuit k ≡ arc_weight (step_arc s c)
  weight_held circuit k h = rw (h.kind, h.position, h.to, h.from) weight_is

  names_held : refusal s ≡ 0 → (circuit : List ℕ) (k : ℕ) → Stands circuit k c → NamesAt s circuit k
  names_held ok circuit k h =
      rw (h.kind, h.position, h.to, h.from)
      (record { admitted = ok; few_kinds = omega (arith, number_small c.kind); from_first = v.from_first; to_last = v.to_last; to_event = v.to_event; from_event = v.from_event })

valid_at : (s : Sheet) (cs : List Step) → AllValid s cs → (k : ℕ) (d : Step) → k < length cs → Valid s (get_or cs k d)
valid_at s [] v k d h = absurd (omega arith)
valid_at s (c ∷ cs) v zero d h = v.0
valid_at s (c ∷ cs) v (suc k) d h = valid_at s cs v.1 k d (omega arith)

-- ---- the arcs of a circuit

-- one arc more
one_more : (s : Sheet) (f : Arc → ℕ) (cs : List Step) (c : Step) → total f (map (step_arc s) cs) + f (step_arc s c) ≡ total f (map (step_arc s) (cs ++ c ∷ []))
one_more s f cs c = sym (ap (total f) (map_append (step_arc s) cs (c ∷ [])) ∙ total_append f (map (step_arc s) cs) (step_arc s c ∷ []) ∙ plain (total f (map (step_arc s) cs)) (f (step_arc s c)))
  where
    plain : (a b : ℕ) → a + (b + 0) ≡ a + b
    plain a b = omega arith

weights_more : (s : Sheet) (cs : List Step) (c : Step) → plus (weights_of s cs) (arc_weight (step_arc s c)) ≡ weights_of s (cs ++ c ∷ [])
unfolding weights_of
weights_more s cs c = same_weight _ _ _ _ _ _ _ _ (one_more s (λ x. x.up) cs c) (one_more s (λ x. x.down) cs c) (one_more s (λ x. x.forth) cs c) (one_more s (λ x. x.back) cs c)

weights_take : (s : Sheet) (cs : List Step) (rest : List ℕ) (d : Step) → AllValid s cs → (k : ℕ) → k ≤ length cs → weights_in s (numbers cs ++ rest) k ≡ weights_of s (take k cs)
unfolding weights_in weights_of
weights_take s cs rest d v zero h = refl
weights_take s cs rest d v (suc k) h =
    let c = get_or cs k d in
    rw (weights_take s cs rest d v k (omega arith), weight_held s c (valid_at s cs v k d h) (numbers cs ++ rest) k (numbers_at cs rest k d h), take-suc cs k d h) (weights_more s (take k cs) c)

module _ (s : Sheet) (ok : refusal s ≡ 0) (cs : List Step) (rest circuit : List ℕ) (count : ℕ) (c : CircuitOf s cs) (counted : length cs ≡ count) (starts : circuit ≡ numbers cs ++ rest) where
  pub count_few : count ≤ nodes s
  count_few = omega (arith, circuit_length (arcs s) (nodes s) (arcs_within s (accepted s ok).size.some_positions) (map (step_arc s) cs) c.circuit, length-map cs (step_arc s))

  -- what stands past the end
  past : Step
  past = record { kind = A0; position = 0; to = 0; from = 0 }

  names_at : (k : ℕ) → k < length cs → NamesAt s (numbers cs ++ rest) k
  names_at k h = names_held s (get_or cs k past) (valid_at s cs c.valid k past h) ok (numbers cs ++ rest) k (numbers_at cs rest k past h)

  -- THEOREM: the arcs may be weighed
  pub lists : Lists s circuit count
  lists =
      record {
        long = omega (arith, ap length starts, length-append (numbers cs) rest, numbers_length cs);
        few = omega (arith, count_few, nodes_few s (accepted s ok));
        each = λ k h. subst (λ (l : List ℕ). NamesAt s l k) (sym starts) (names_at k (omega arith));
      }

  -- THEOREM: the sums that the code has are those of the circuit's arcs
  pub weights_are : weights_in s circuit count ≡ weights_of s cs
  weights_are =
      ap (λ (l : List ℕ). weights_in s l count) starts
      ∙ weights_take s cs rest past c.valid count (omega arith)
      ∙ ap (weights_of s) (take_all count cs (omega arith))
