-- How a list of things is read one after the other, each put where it belongs: the laws of `Walks`.
use mathlib.Core.Path.{◌≡◌, refl, sym, ap, ◌∙◌}
use mathlib.Core.List.{List, ◌∷◌}
use Prim.Native.Nat.{ℕ}
use Rattle.std.specs.Prelude.{Result, Ok, Err}
use Rattle.numbers.specs.Refusals.{said}
use Rattle.numbers.specs.declared.refusals.Refusal as code
use Rattle.sheet.specs.File.{Part, got, refused, and_then}
use Rattle.records.specs.Steps.{Walks}

-- one thing more in front
pub grow : {A B : Type 0} (store rest : List B → List A → List B) (a : A) (was then : List B) → ((xs : List A) → store was (a ∷ xs) ≡ rest then xs)
    → (x : Part (List A)) (r : Result ℕ code.Refusal) (now : List B) → Walks rest x then r now → Walks store (and_then x (λ xs q. got (a ∷ xs) q)) was r now
unfolding Walks and_then
grow store rest a was then e (got xs next) r now h = (h.0, h.1 ∙ sym (e xs))
grow store rest a was then e (refused why) r now h = h

-- what was refused
pub stopped : {A B : Type 0} (store : List B → A → List B) (x : Part A) (was now : List B) (why : code.Refusal) → x ≡ refused (said why) → Walks store x was (Err why) now
unfolding Walks
stopped store x was now why e = rw e refl

-- what the end of a walk says
pub record Walked {A B : Type 0} (store : List B → A → List B) (x : Part A) (was now : List B) (next : ℕ) : Type 0 where
  pub thing : A
  pub is : x ≡ got thing next
  pub after : now ≡ store was thing

pub walked : {A B : Type 0} (store : List B → A → List B) (x : Part A) (was now : List B) (r : Result ℕ code.Refusal) (next : ℕ) → r ≡ Ok next → Walks store x was r now → Walked store x was now next
unfolding Walks
walked store (got a p) was now r next e h = let q : p ≡ next = cc in record { thing = a; is = ap (got a) q; after = h.1 }
walked store (refused why) was now r next e h = absurd (rw e at h)

pub unwalked : {A B : Type 0} (store : List B → A → List B) (x : Part A) (was now : List B) (r : Result ℕ code.Refusal) (why : code.Refusal) → r ≡ Err why → Walks store x was r now → x ≡ refused (said why)
unfolding Walks
unwalked store (got a p) was now r why e h = cc
unwalked store (refused j) was now r why e h = ap refused (sym (rw e at h))

-- a walk that came to its end
pub arrived : {A B : Type 0} (store : List B → A → List B) (x : Part A) (was now : List B) (a : A) (next : ℕ) → x ≡ got a next → now ≡ store was a → Walks store x was (Ok next) now
unfolding Walks
arrived store x was now a next e q = rw e (refl, q)
