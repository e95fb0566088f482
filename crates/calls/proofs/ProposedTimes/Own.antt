-- "It must accept every answer that our own Ask gives": the plan solves, and none of its times passes 382,000,000,000.
use mathlib.Core.Path.{◌≡◌, refl, sym, ◌∙◌, subst, fun_ext}
use mathlib.Core.Bool.{true}
use mathlib.Core.List.{List, [], map}
use Prim.Native.Nat.{ℕ}
use native.Mathlib.Omega.{arith}
use lib.ListN.{get_or, take, length-map, get_or-map}
use lib.IntN.{ℤ, pos}
use Rattle.tables.specs.Sheets.{Sheet}
use Rattle.tables.specs.Answers.{Answer, answer}
use Rattle.tables.proofs.Answers.{number_same}
use Rattle.windows.specs.Inequalities.{Solves}
use Rattle.windows.specs.Arcs.{nodes, continued}
use Rattle.calls.specs.Ask as ask
use Rattle.calls.specs.ProposedTimes.{reached, Outcome, accepted}
use Rattle.calls.proofs.Timed.{timely}
use Rattle.calls.proofs.Ask.Refusals.{granted}
use Rattle.calls.proofs.Ask.Bounds.{plan_small}
use Rattle.calls.proofs.ProposedTimes.Refusals.{reached_is, refused_none}
use Rattle.calls.proofs.ProposedTimes.Surplus.{outcome_surplus}

module _ (s : Sheet) (p q : ℕ) (plan₀ circuit₀ plan circuit : List ℕ) where
  own_reached : (rounds : ℕ) → ask.ask_refusal s p q plan₀ circuit₀ ≡ 0 → ask.Accepts s p q plan₀ circuit₀ rounds plan circuit → reached s (map pos plan) ≡ true
  own_reached rounds none is =
      let g = granted s p q plan₀ circuit₀ none in
      (reached_is s (map pos plan)).1 (
        omega (arith, g.plan_long, is.plan_length, length-map plan pos),
        λ v below. rw (get_or-map pos plan v 0) (plan_small s g.sheet_ok p q rounds g.q_small g.p_small plan is.plan_is is.rounds_are v below, omega arith),
      )

  -- THEOREM: a plan that Ask gives is accepted
  pub own_plan : (a : Answer) → ask.Outcome s p q plan₀ circuit₀ a plan circuit → a.number ≡ 0 → Outcome s p q (map pos plan) (answer 0 [])
  own_plan a (ask.accepted rounds e none is) zero =
      let t = timely s p q _ none in
      let same : ◌≡◌ {A = ℕ → ℤ} (λ v. pos (get_or plan v 0)) (λ v. get_or (map pos plan) v (pos 0)) = fun_ext (λ v. sym (get_or-map pos plan v 0)) in
      accepted refl (refused_none s p q (map pos plan) (sym t.admitted) t.in_time (own_reached rounds none is)) (subst (λ (f : ℕ → ℤ). Solves s p q (continued s p f)) same is.plan_is.solves)
  own_plan a (ask.refuted steps e none is) zero = absurd (omega (arith, number_same e))
  own_plan a (ask.refused k e is some same same') zero = absurd (some (sym (number_same e) ∙ zero))

  -- THEOREM: so are its first N times, whatever is proposed behind them
  pub own_times : (a : Answer) → ask.Outcome s p q plan₀ circuit₀ a plan circuit → a.number ≡ 0 → (times : List ℤ) → take (nodes s) times ≡ take (nodes s) (map pos plan) → Outcome s p q times (answer 0 [])
  own_times a is zero times same = outcome_surplus s p q (map pos plan) times (sym same) (answer 0 []) (own_plan a is zero)
