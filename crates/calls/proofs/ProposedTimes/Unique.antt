-- Two outcomes for the same proposed times are equal: of two windows one comes before the other, so one window broken is the first.
use mathlib.Core.Path.{◌≡◌, sym, ap, ◌∙◌}
use mathlib.Core.Logic.{◌⊎◌, inl, inr}
use mathlib.Core.List.{List, []}
use Prim.Native.Nat.{ℕ, ◌<◌}
use native.Mathlib.Omega.{arith}
use native.Mathlib.Decide.{dec_lt}
use lib.IntN.{ℤ}
use Rattle.tables.specs.Sheets.{Sheet}
use Rattle.tables.specs.Answers.{Answer, answer}
use Rattle.windows.specs.Windows.{number}
use Rattle.windows.specs.Circuits.{Step}
use Rattle.calls.specs.ProposedTimes.{Before, Broken, FirstBroken, Outcome, accepted, broken, refused}
use Rattle.calls.proofs.ProposedArcs.Steps.{step_same}
use Rattle.calls.proofs.ProposedTimes.Kept.{kept_none}

order : (a b : ℕ) → (a < b) ⊎ (a ≡ b) ⊎ (b < a)
order a b =
    elim (dec_lt a b) [
      | yes h ↦ inl h
      | no h ↦ elim (dec_lt b a) [
        | yes k ↦ inr (inr k)
        | no k ↦ inr (inl (omega arith))
      ]
    ]

-- THEOREM: of two windows one comes before the other, or they are one
pub before_or_same : (c d : Step) → Before c d ⊎ (c ≡ d) ⊎ Before d c
before_or_same c d = by_position (order c.position d.position)
  where
    by_from : c.position ≡ d.position → number c.kind ≡ number d.kind → c.to ≡ d.to → (c.from < d.from) ⊎ (c.from ≡ d.from) ⊎ (d.from < c.from) → Before c d ⊎ (c ≡ d) ⊎ Before d c
    by_from x y z (inl h) = inl (inr (inr (inr (x, y, z, h))))
    by_from x y z (inr (inl e)) = inr (inl (step_same c d y x z e))
    by_from x y z (inr (inr h)) = inr (inr (inr (inr (inr (sym x, sym y, sym z, h)))))

    by_to : c.position ≡ d.position → number c.kind ≡ number d.kind → (c.to < d.to) ⊎ (c.to ≡ d.to) ⊎ (d.to < c.to) → Before c d ⊎ (c ≡ d) ⊎ Before d c
    by_to x y (inl h) = inl (inr (inr (inl (x, y, h))))
    by_to x y (inr (inl e)) = by_from x y e (order c.from d.from)
    by_to x y (inr (inr h)) = inr (inr (inr (inr (inl (sym x, sym y, h)))))

    by_kind : c.position ≡ d.position → (number c.kind < number d.kind) ⊎ (number c.kind ≡ number d.kind) ⊎ (number d.kind < number c.kind) → Before c d ⊎ (c ≡ d) ⊎ Before d c
    by_kind x (inl h) = inl (inr (inl (x, h)))
    by_kind x (inr (inl e)) = by_to x e (order c.to d.to)
    by_kind x (inr (inr h)) = inr (inr (inr (inl (sym x, h))))

    by_position : (c.position < d.position) ⊎ (c.position ≡ d.position) ⊎ (d.position < c.position) → Before c d ⊎ (c ≡ d) ⊎ Before d c
    by_position (inl h) = inl (inl h)
    by_position (inr (inl e)) = by_kind e (order (number c.kind) (number d.kind))
    by_position (inr (inr h)) = inr (inr (inl h))

module _ (s : Sheet) (p q : ℕ) (times : List ℤ) where
  -- THEOREM: the first window broken comes before every other that is broken
  pub first_before : (c d : Step) → FirstBroken s p q times c → Broken s p q times d → Before c d ⊎ (c ≡ d)
  first_before c d x b =
      elim (before_or_same c d) [
        | inl h ↦ inl h
        | inr r ↦ elim r [
          | inl e ↦ inr e
          | inr h ↦ absurd (x.first d b h)
        ]
      ]

  -- THEOREM: there is one first window broken
  pub first_same : (c d : Step) → FirstBroken s p q times c → FirstBroken s p q times d → c ≡ d
  first_same c d x y =
      elim (first_before c d x y.broken) [
        | inl h ↦ absurd (y.first c x.broken h)
        | inr e ↦ e
      ]

  -- THEOREM: two outcomes for the same times are equal: the number and all values
  pub outcome_same : (a b : Answer) → Outcome s p q times a → Outcome s p q times b → a ≡ b
  outcome_same a b (accepted e none kept) (accepted e' none' kept') = e ∙ sym e'
  outcome_same a b (accepted e none kept) (broken d e' none' first') = absurd (kept_none s p q times kept d first'.broken)
  outcome_same a b (accepted e none kept) (refused k e' is some) = absurd (some (sym is ∙ none))
  outcome_same a b (broken c e none first) (accepted e' none' kept') = absurd (kept_none s p q times kept' c first.broken)
  outcome_same a b (broken c e none first) (broken d e' none' first') = let same = first_same c d first first' in cc (e, e', same)
  outcome_same a b (broken c e none first) (refused k e' is some) = absurd (some (sym is ∙ none))
  outcome_same a b (refused j e is some) (accepted e' none' kept') = absurd (some (sym is ∙ none'))
  outcome_same a b (refused j e is some) (broken d e' none' first') = absurd (some (sym is ∙ none'))
  outcome_same a b (refused j e is some) (refused k e' is' some') = e ∙ ap (λ (n : ℕ). answer n []) (sym is ∙ is') ∙ sym e'
