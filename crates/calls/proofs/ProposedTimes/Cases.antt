-- What an outcome for proposed times says where its answer is known: each number belongs to one of the three cases.
use mathlib.Core.Path.{◌≡◌, sym, ◌∙◌}
use mathlib.Core.Logic.{◌≢◌}
use mathlib.Core.List.{List, [], ◌∷◌}
use Prim.Native.Nat.{ℕ}
use native.Mathlib.Omega.{arith}
use lib.IntN.{ℤ}
use Rattle.tables.specs.Sheets.{Sheet}
use Rattle.tables.specs.Answers.{answer}
use Rattle.tables.proofs.Answers.{number_same, value_same, many_same}
use Rattle.windows.specs.Windows.{number}
use Rattle.windows.specs.Circuits.{Step}
use Rattle.calls.specs.ProposedTimes.{times_refusal, Kept, FirstBroken, Outcome, accepted, broken, refused}

module _ {s : Sheet} {p q : ℕ} {times : List ℤ} where
  -- THEOREM: 0 says that the times keep every window
  pub accepted_is : Outcome s p q times (answer 0 []) → (times_refusal s p q times ≡ 0) × Kept s p q times
  accepted_is (accepted e none kept) = (none, kept)
  accepted_is (broken c e none first) = absurd (omega (arith, number_same e))
  accepted_is (refused k e is some) = absurd (some (sym (number_same e)))

  -- THEOREM: 102 names the first window broken, by its position, kind, to and from
  pub broken_is : (position kind to from : ℕ) → Outcome s p q times (answer 102 (position ∷ kind ∷ to ∷ from ∷ []))
      → (times_refusal s p q times ≡ 0) × (c : Step) × (c.position ≡ position) × (number c.kind ≡ kind) × (c.to ≡ to) × (c.from ≡ from) × FirstBroken s p q times c
  broken_is position kind to from (accepted e none kept) = absurd (omega (arith, number_same e))
  broken_is position kind to from (broken c e none first) = (none, c, sym (value_same 0 e), sym (value_same 1 e), sym (value_same 2 e), sym (value_same 3 e), first)
  broken_is position kind to from (refused k e is some) = absurd (omega (arith, many_same e))

  -- THEOREM: every other number is a refusal's
  pub refused_is : (k : ℕ) → k ≢ 0 → Outcome s p q times (answer k []) → times_refusal s p q times ≡ k
  refused_is k some (accepted e none kept) = absurd (some (number_same e))
  refused_is k some (broken c e none first) = absurd (omega (arith, many_same e))
  refused_is k some (refused j e is some') = is ∙ sym (number_same e)
