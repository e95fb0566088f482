-- Proposed times keep every window exactly if none is broken: of each window it can be told whether it is kept, and what is kept at the positions 1 to V is kept over the
-- endless schedule. So an accepted plan shows that the cycle time works.
use mathlib.Core.Path.{◌≡◌, refl, sym, ◌∙◌, subst}
use mathlib.Core.List.{List}
use Prim.Native.Nat.{ℕ, suc, ◌+◌, ◌≤◌, ◌<◌}
use native.Mathlib.Omega.{arith}
use native.Mathlib.Decide.{dec_le}
use lib.ListN.{get_or}
use lib.IntN.{ℤ, pos, ◌-ℤ◌, ◌*ℤ◌}
use lib.Signed.{◌≤ℤ◌}
use Rattle.tables.specs.Sheets.{Sheet}
use Rattle.tables.specs.Answers.{Answer}
use Rattle.tables.proofs.Answers.{number_same}
use Rattle.windows.specs.Windows.{Kind, A0, B0, A1, B1, Window, Has, mode}
use Rattle.windows.specs.Inequalities.{Times, Says, Runs}
use Rattle.windows.specs.Arcs.{up, down}
use Rattle.windows.specs.Circuits.{Step, limit, Valid}
use Rattle.windows.proofs.Parts.{le_parts}
use Rattle.windows.proofs.Endless.{first_keeps, continued_periodic}
use Rattle.calls.specs.ProposedTimes.{proposed, Kept, Broken, Outcome, accepted, broken, refused}

le_told : (a b : ℤ) → Dec (a ≤ℤ b)
le_told a b =
    elim (dec_le (up a + down b) (up b + down a)) [
      | yes h ↦ yes ((le_parts a b).1 h)
      | no h ↦ no (λ x. h ((le_parts a b).0 x))
    ]

-- it can be told whether what a window says is so
pub says_told : (q : ℕ) (x : Times) (h : ℕ) (k : Kind) (i j : ℕ) (w : ℤ) → Dec (Says q x h k i j w)
says_told q x h A0 i j w = le_told (pos q *ℤ w) (x h i -ℤ x h j)
says_told q x h B0 i j w = le_told (x h i -ℤ x h j) (pos q *ℤ w)
says_told q x h A1 i j w = le_told (pos q *ℤ w) (x (suc h) i -ℤ x h j)
says_told q x h B1 i j w = le_told (x (suc h) i -ℤ x h j) (pos q *ℤ w)

-- the window of a step that the sheet has
pub step_has : (s : Sheet) (c : Step) → Valid s c → Has s (mode s c.position) (record { kind = c.kind; to = c.to; from = c.from; w = limit s c })
step_has s c v = record { to_event = v.to_event; from_event = v.from_event; stands = refl; present = v.present }

module _ (s : Sheet) (p q : ℕ) (times : List ℤ) where
  -- THEOREM: times that keep every window break none
  pub kept_none : Kept s p q times → (d : Step) → Broken s p q times d → ⊥
  kept_none kept d b = b.breaks (kept.keeps d.position b.present.from_first (record { kind = d.kind; to = d.to; from = d.from; w = limit s d }) (step_has s d b.present))

  -- THEOREM: times that break none keep every window
  pub none_kept : 0 < s.positions → ((d : Step) → Broken s p q times d → ⊥) → Kept s p q times
  none_kept some none = record { keeps = first_keeps s some p q (λ v. get_or times v (pos 0)) keeps; periodic = continued_periodic s some p (λ v. get_or times v (pos 0)) }
    where
      keeps : (h : ℕ) → 1 ≤ h → h ≤ s.positions → (a : Window) → Has s (mode s h) a → Says q (proposed s p q times) h a.kind a.to a.from a.w
      keeps h first last a has =
          elim (says_told q (proposed s p q times) h a.kind a.to a.from a.w) [
            | yes x ↦ x
            | no n ↦ absurd (none (record { kind = a.kind; position = h; to = a.to; from = a.from }) (record {
              present = record { from_first = first; to_last = last; to_event = has.to_event; from_event = has.from_event; present = rw has.stands has.present };
              breaks = λ x. n (subst (λ (w : ℤ). Says q (proposed s p q times) h a.kind a.to a.from w) has.stands x);
            }))
          ]

  -- THEOREM: accepted times show that the cycle time works
  pub accepted_runs : (a : Answer) → Outcome s p q times a → a.number ≡ 0 → Runs s p q
  accepted_runs a (accepted e none kept) zero = (proposed s p q times, kept)
  accepted_runs a (broken c e none first) zero = absurd (omega (arith, number_same e))
  accepted_runs a (refused k e is some) zero = absurd (some (sym (number_same e) ∙ zero))
