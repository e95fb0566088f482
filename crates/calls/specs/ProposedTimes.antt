-- Proposed times held to the sheet, whole: what is answered for every input (document 02, E2, "Hold another engine's answer to the sheet").
use Rattle.std.specs.Prelude.{◌≡◌, ◌≢◌, ◌⊎◌, Bool, ◌&&◌, List, [], ◌∷◌, ℕ, ◌<◌, leb, ltb, get_or, length, take, ℤ, pos, negsuc}
use Rattle.tables.specs.Sheets.{Sheet, all, timed, unless, refusal, otherwise}
use Rattle.tables.specs.Answers.{Answer, answer}
use Rattle.windows.specs.Windows.{number}
use Rattle.windows.specs.Inequalities.{Times, Says, Solves}
use Rattle.windows.specs.Arcs.{nodes, continued}
use Rattle.windows.specs.Circuits.{Step, limit, Valid}

-- the time is not "beyond 382,000,000,000 either way": -1 - a is at least -382,000,000,000 where a is below 382,000,000,000
abbrev pub in_reach : ℤ → Bool
in_reach (pos a) = leb a 382000000000
in_reach (negsuc a) = ltb a 382000000000

-- not 11: "fewer than N proposed times, a proposed time beyond 382,000,000,000 either way". Of a longer list the first N are read.
abbrev pub reached : Sheet → List ℤ → Bool
reached s times = leb (nodes s) (length times) && all in_reach (take (nodes s) times)

-- "Refusals: 4, 5, 6, 10, then new 11"
abbrev pub times_refusal : Sheet → ℕ → ℕ → List ℤ → ℕ
times_refusal s p q times = otherwise (refusal s) (unless (timed p q) 10 (unless (reached s times) 11 0))

-- "(lowest position, then kind, to, from)": d comes before c
abbrev pub Before : Step → Step → Type 0
Before d c =
    (d.position < c.position)
    ⊎ ((d.position ≡ c.position) × (number d.kind < number c.kind))
    ⊎ ((d.position ≡ c.position) × (number d.kind ≡ number c.kind) × (d.to < c.to))
    ⊎ ((d.position ≡ c.position) × (number d.kind ≡ number c.kind) × (d.to ≡ c.to) × (d.from < c.from))

module _ (s : Sheet) (p q : ℕ) (times : List ℤ) where
  -- "N proposed times", in whole steps of 1/q; "Proposed times may be negative." The times that the list's first N places name, over the endless schedule.
  abbrev pub proposed : Times
  proposed = continued s p (λ v. get_or times v (pos 0))

  -- "a plan that keeps every window": the proposed times are a periodic solution of the published inequalities
  abbrev pub Kept : Type 0
  Kept = Solves s p q proposed

  -- a "window broken": the sheet has it at that position, and what it says there is not so
  pub record Broken (c : Step) : Type 0 where
    pub present : Valid s c
    pub breaks : Says q proposed c.position c.kind c.to c.from (limit s c) → ⊥

  -- "the first window broken (lowest position, then kind, to, from)"
  pub record FirstBroken (c : Step) : Type 0 where
    pub broken : Broken c
    pub first : (d : Step) → Broken d → Before d c → ⊥

-- The outcome. A plan that keeps every window is accepted; "A wrong proposal is answered with the first window broken", by 102 with its position, kind,
-- to and from; the refusals come first.
pub data Outcome (s : Sheet) (p q : ℕ) (times : List ℤ) (a : Answer) : Type 0 where
  accepted : a ≡ answer 0 [] → times_refusal s p q times ≡ 0 → Kept s p q times → Outcome s p q times a
  broken : (c : Step) → a ≡ answer 102 (c.position ∷ number c.kind ∷ c.to ∷ c.from ∷ []) → times_refusal s p q times ≡ 0 → FirstBroken s p q times c → Outcome s p q times a
  refused : (k : ℕ) → a ≡ answer k [] → times_refusal s p q times ≡ k → k ≢ 0 → Outcome s p q times a
