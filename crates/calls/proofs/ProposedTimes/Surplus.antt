-- Of a list longer than N "the surplus is neither read nor written" (01): an event's node lies below N at every position, so an outcome for the one list is an outcome for
-- every other that agrees with it in the first N places.
use mathlib.Core.Path.{◌≡◌, sym, ap, ◌∙◌}
use mathlib.Core.List.{List}
use Prim.Native.Nat.{ℕ, suc, ◌*◌, ◌<◌}
use native.Mathlib.Omega.{arith}
use lib.Dec.{leb}
use lib.ListN.{get_or, length, take}
use lib.Seq.{get_or-take}
use lib.IntN.{ℤ, pos, ◌+ℤ◌}
use Rattle.tables.specs.Sheets.{Sheet}
use Rattle.tables.specs.Answers.{Answer}
use Rattle.windows.specs.Windows.{Window, Event, Has, mode}
use Rattle.windows.specs.Inequalities.{Says}
use Rattle.windows.specs.Arcs.{up, down, node, nodes, period}
use Rattle.windows.specs.Circuits.{Step, limit}
use Rattle.windows.proofs.Laying.{node_inside}
use Rattle.windows.proofs.Endless.{Moved, moved_all, continued_periodic}
use Rattle.calls.specs.ProposedTimes.{times_refusal, proposed, Kept, Broken, Outcome, accepted, broken, refused}
use Rattle.calls.proofs.Taking.{long_same}
use Rattle.calls.proofs.ProposedTimes.Refusals.{times_granted}
use Rattle.calls.proofs.ProposedTimes.Kept.{step_has}

module _ (s : Sheet) (p q : ℕ) (times times' : List ℤ) (same : take (nodes s) times ≡ take (nodes s) times') where
  refusal_same : times_refusal s p q times ≡ times_refusal s p q times'
  refusal_same =
      let long : leb (nodes s) (length times) ≡ leb (nodes s) (length times') = sym (long_same (nodes s) times) ∙ ap (λ (l : List ℤ). leb (nodes s) (length l)) same ∙ long_same (nodes s) times' in
      rw (long, same)

  module _ (some : 0 < s.positions) where
    time_same : (h i : ℕ) → Event s i → proposed s p q times h i ≡ proposed s p q times' h i
    time_same h i event =
        let v = node s h i in
        let below = node_inside s some h i event in
        ap (λ (z : ℤ). z +ℤ pos (p * period s h))
        (sym (get_or-take (nodes s) times v (pos 0) below) ∙ ap (λ (l : List ℤ). get_or l v (pos 0)) same ∙ get_or-take (nodes s) times' v (pos 0) below)

    says_same : (h t : ℕ) (a : Window) → Has s t a → Says q (proposed s p q times) h a.kind a.to a.from a.w → Says q (proposed s p q times') h a.kind a.to a.from a.w
    says_same h t a has says = moved_all s q (proposed s p q times) h (proposed s p q times') h 0 0 (at h) (at (suc h)) t a has says
      where
        at : (g : ℕ) → Moved s (proposed s p q times) g (proposed s p q times') g 0 0
        at g i event = let e = time_same g i event in omega (arith, ap up e, ap down e)

    kept_same : Kept s p q times → Kept s p q times'
    kept_same kept = record { keeps = λ h first a has. says_same h (mode s h) a has (kept.keeps h first a has); periodic = continued_periodic s some p (λ v. get_or times' v (pos 0)) }

    -- a window that the other breaks this one breaks
    broken_same : (c : Step) → Broken s p q times' c → Broken s p q times c
    broken_same c b =
        record {
          present = b.present;
          breaks = λ says. b.breaks (says_same c.position (mode s c.position) (record { kind = c.kind; to = c.to; from = c.from; w = limit s c }) (step_has s c b.present) says);
        }

-- THEOREM: lists of times that agree in the first N places have the same outcomes
pub outcome_surplus : (s : Sheet) (p q : ℕ) (times times' : List ℤ) → take (nodes s) times ≡ take (nodes s) times' → (a : Answer) → Outcome s p q times a → Outcome s p q times' a
outcome_surplus s p q times times' same a (accepted e none kept) =
    accepted e (sym (refusal_same s p q times times' same) ∙ none) (kept_same s p q times times' same (times_granted s p q times none).sheet_ok.size.some_positions kept)
outcome_surplus s p q times times' same a (broken c e none first) =
    let some = (times_granted s p q times none).sheet_ok.size.some_positions in
    broken c e (sym (refusal_same s p q times times' same) ∙ none) (record {
      broken = broken_same s p q times' times (sym same) some c first.broken;
      first = λ d b before. first.first d (broken_same s p q times times' same some d b) before;
    })
outcome_surplus s p q times times' same a (refused k e is some) = refused k e (sym (refusal_same s p q times times' same) ∙ is) some
