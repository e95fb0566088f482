-- A circuit begun at another of its nodes is the same circuit; so one can begin at its smallest node.
use mathlib.Core.Path.{◌≡◌, refl, sym, ap, subst}
use mathlib.Core.Logic.{◌≢◌}
use mathlib.Core.List.{List, [], ◌∷◌, ◌++◌, map, append-nil}
use Prim.Native.Nat.{ℕ, ◌≤◌}
use native.Mathlib.Omega.{arith}
use native.Mathlib.Decide.{dec_le}
use lib.ListN.{length-append}
use Rattle.theory.specs.Arcs.{Arc}
use Rattle.theory.specs.Circuits.{Fresh, Distinct, total, Walk, departures, Circuit, Smallest, FirstSmallest}
use Rattle.theory.proofs.Walks.{total_append, walk_append}

-- ---- distinct numbers in another order

fresh_front : (n : ℕ) (xs ys : List ℕ) → Fresh n (xs ++ ys) → Fresh n xs
fresh_front n [] ys f = tt
fresh_front n (x ∷ xs) ys f = (f.0, fresh_front n xs ys f.1)

fresh_back : (n : ℕ) (xs ys : List ℕ) → Fresh n (xs ++ ys) → Fresh n ys
fresh_back n [] ys f = f
fresh_back n (x ∷ xs) ys f = fresh_back n xs ys f.1

fresh_join : (n : ℕ) (xs ys : List ℕ) → Fresh n xs → Fresh n ys → Fresh n (xs ++ ys)
fresh_join n [] ys f h = h
fresh_join n (x ∷ xs) ys f h = (f.0, fresh_join n xs ys f.1 h)

fresh_insert : (n x : ℕ) (xs ys : List ℕ) → n ≢ x → Fresh n (xs ++ ys) → Fresh n (xs ++ x ∷ ys)
fresh_insert n x [] ys h f = (h, f)
fresh_insert n x (y ∷ xs) ys h f = (f.0, fresh_insert n x xs ys h f.1)

distinct_insert : (x : ℕ) (xs ys : List ℕ) → Fresh x (xs ++ ys) → Distinct (xs ++ ys) → Distinct (xs ++ x ∷ ys)
distinct_insert x [] ys f d = (f, d)
distinct_insert x (y ∷ xs) ys f d = (fresh_insert y x xs ys (λ (e : y ≡ x). f.0 (sym e)) d.0, distinct_insert x xs ys f.1 d.1)

distinct_swap : (xs ys : List ℕ) → Distinct (xs ++ ys) → Distinct (ys ++ xs)
distinct_swap [] ys d = subst Distinct (sym (append-nil ys)) d
distinct_swap (x ∷ xs) ys d =
    distinct_insert x ys xs (fresh_join x ys xs (fresh_back x xs ys d.0) (fresh_front x xs ys d.0)) (distinct_swap xs ys d.1)

pub departures_append : (c d : List Arc) → departures (c ++ d) ≡ departures c ++ departures d
departures_append [] d = refl
departures_append (a ∷ c) d = ap (λ (l : List ℕ). a.departure ∷ l) (departures_append c d)

-- ---- a circuit turned

walk_split : (arcs c d : List Arc) (u v : ℕ) → Walk arcs u (c ++ d) v → (m : ℕ) × Walk arcs u c m × Walk arcs m d v
walk_split arcs [] d u v h = (u, refl, h)
walk_split arcs (a ∷ c) d u v h = let s = walk_split arcs c d a.arrival v h.2 in (s.0, (h.0, h.1, s.1), s.2)

pub circuit_turn : (arcs c d : List Arc) → Circuit arcs (c ++ d) → Circuit arcs (d ++ c)
circuit_turn arcs c d r =
    let s = walk_split arcs c d r.node r.node r.closed in
    record {
      node = s.0;
      closed = walk_append arcs d c s.0 r.node s.0 s.2 s.1;
      nonempty = omega (arith, r.nonempty, length-append c d, length-append d c);
      distinct = rw (departures_append d c) (distinct_swap (departures c) (departures d) (rw (departures_append c d) at r.distinct));
    }

pub total_turn : {A : Type 0} (f : A → ℕ) (c d : List A) → total f (d ++ c) ≡ total f (c ++ d)
total_turn f c d = omega (arith, total_append f c d, total_append f d c)

-- ---- where the smallest stands

smallest_less : (v u : ℕ) → v ≤ u → (xs : List ℕ) → Smallest u xs → Smallest v xs
smallest_less v u h [] s = tt
smallest_less v u h (x ∷ xs) s = (omega arith, smallest_less v u h xs s.1)

pub smallest_join : (v : ℕ) (xs ys : List ℕ) → Smallest v xs → Smallest v ys → Smallest v (xs ++ ys)
smallest_join v [] ys s t = t
smallest_join v (x ∷ xs) ys s t = (s.0, smallest_join v xs ys s.1 t)

pub map_append : {A B : Type 0} (f : A → B) (xs ys : List A) → map f (xs ++ ys) ≡ map f xs ++ map f ys
map_append f [] ys = refl
map_append {A} {B} f (x ∷ xs) ys = ap (λ (l : List B). f x ∷ l) (map_append f xs ys)

-- The list, cut before an element whose f is smallest.
pub record Split {A : Type 0} (f : A → ℕ) (xs : List A) : Type 0 where
  pub front : List A
  pub first : A
  pub rest : List A
  pub joined : xs ≡ front ++ first ∷ rest
  pub before : Smallest (f first) (map f front)
  pub after : Smallest (f first) (map f rest)

smallest_all : {A : Type 0} (f : A → ℕ) (xs : List A) (s : Split f xs) (v : ℕ) → v ≤ f s.first → Smallest v (map f xs)
smallest_all {A} f xs s v h =
    subst (λ (l : List A). Smallest v (map f l)) (sym s.joined)
    (rw (map_append f s.front (s.first ∷ s.rest))
    (smallest_join v (map f s.front) (f s.first ∷ map f s.rest) (smallest_less v (f s.first) h (map f s.front) s.before)
    (h, smallest_less v (f s.first) h (map f s.rest) s.after)))

pub smallest_split : {A : Type 0} (f : A → ℕ) (x : A) (xs : List A) → Split f (x ∷ xs)
smallest_split f x [] = record { front = []; first = x; rest = []; joined = refl; before = tt; after = tt }
smallest_split {A} f x (y ∷ ys) =
    let s = smallest_split f y ys in
    elim (dec_le (f x) (f s.first)) [
      | yes h ↦ record {
        front = [];
        first = x;
        rest = y ∷ ys;
        joined = refl;
        before = tt;
        after = smallest_all f (y ∷ ys) s (f x) h;
      }
      | no h ↦ record {
        front = x ∷ s.front;
        first = s.first;
        rest = s.rest;
        joined = ap (λ (l : List A). x ∷ l) s.joined;
        before = (omega arith, s.before);
        after = s.after;
      }
    ]

pub split_first : {A : Type 0} (f : A → ℕ) (xs : List A) (s : Split f xs) → FirstSmallest (map f ((s.first ∷ s.rest) ++ s.front))
split_first f xs s = rw (map_append f s.rest s.front) (smallest_join (f s.first) (map f s.rest) (map f s.front) s.after s.before)
