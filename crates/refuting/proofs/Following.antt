-- Whether an arc is bad: its window is present, and it leaves where the arc before arrived.
use mathlib.Core.Path.{◌≡◌, refl, sym, ap, ◌∙◌, subst}
use mathlib.Core.Logic.{◌≢◌}
use mathlib.Core.Bool.{Bool, true, false}
use mathlib.Core.List.{List}
use Prim.Native.Nat.{ℕ, zero, suc, ◌-◌, ◌<◌}
use native.Mathlib.Omega.{arith}
use borrow.Author.Tests.{eqb-true, eqb-false}
use lib.Dec.{eqb}
use Rattle.tables.specs.Sheets.{Sheet}
use Rattle.windows.specs.Circuits.{Step, step_arc}
use Rattle.edges.specs.declared.Edge.{Edge}
use Rattle.calls.specs.ProposedArcs.{count, Good}
use Rattle.edges.specs.Naming.{four_at}
use Rattle.calls.proofs.ProposedArcs.Steps.{stands_same}
use Rattle.refuting.specs.Reading.{present, edge_in, Follows, Tells}
use Rattle.refuting.proofs.Present.{present_step, edge_step}

clash : true ≡ false → ⊥
clash e = let z : ◌≡◌ {A = ℕ} 0 1 = cc in omega arith

-- a test tells whether it is so where each outcome says so
pub tells : {So : Type 0} (b : Bool) → (b ≡ true → So) → (b ≡ false → So → ⊥) → Tells So b
tells true f g = f refl
tells false f g = g refl

-- what a test with a known outcome tells
pub told_true : {So : Type 0} (b : Bool) → b ≡ true → Tells So b → So
told_true true e h = h
told_true false e h = absurd (clash (sym e))

pub told_false : {So : Type 0} (b : Bool) → b ≡ false → Tells So b → So → ⊥
told_false true e h = absurd (clash e)
told_false false e h = h

module _ (s : Sheet) (list : List ℕ) where
  -- the first has none before it
  pub good_first : (k : ℕ) → present s (four_at list k) ≡ true → k ≡ 0 → Good s list k
  good_first zero e z = let c = present_step s list 0 e in record { step = c.0; stands = c.1; present = c.2; follows = tt }
  good_first (suc k) e z = absurd (omega arith)

  module _ (p q : ℕ) where
    next : (j : ℕ) → Good s list j → present s (four_at list (suc j)) ≡ true → (before here : Edge) → before ≡ edge_in s p q list j → here ≡ edge_in s p q list (suc j)
        → Tells (Good s list (suc j)) (eqb here.departure before.arrival)
    next j g e before here eb eh =
        let c = present_step s list (suc j) e in
        let leaves : here.departure ≡ (step_arc s c.0).departure = ap (λ (x : Edge). x.departure) (eh ∙ edge_step s list (suc j) c.0 c.1 c.2 p q) in
        let arrives : before.arrival ≡ (step_arc s g.step).arrival = ap (λ (x : Edge). x.arrival) (eb ∙ edge_step s list j g.step g.stands g.present p q) in
        tells (eqb here.departure before.arrival)
        (λ t. record {
          step = c.0;
          stands = c.1;
          present = c.2;
          follows = λ d stands. sym leaves ∙ eqb-true _ _ t ∙ arrives ∙ ap (λ (x : Step). (step_arc s x).arrival) (stands_same g.stands stands);
        })
        (λ t h. eqb-false _ _ t (leaves ∙ ap (λ (x : Step). (step_arc s x).departure) (stands_same c.1 h.stands) ∙ h.follows g.step g.stands ∙ sym arrives))

    -- arcs that are not bad follow one another
    pub follow : (k : ℕ) → Good s list k → Good s list (suc k) → Follows s p q list k
    follow k g h =
        ap (λ (x : Edge). x.departure) (edge_step s list (suc k) h.step h.stands h.present p q) ∙ h.follows g.step g.stands
        ∙ sym (ap (λ (x : Edge). x.arrival) (edge_step s list k g.step g.stands g.present p q))

    -- arcs that name windows and follow one another are not bad
    pub good_all : ((k : ℕ) → k < count list → present s (four_at list k) ≡ true) → ((k : ℕ) → suc k < count list → Follows s p q list k) → (k : ℕ) → k < count list → Good s list k
    good_all known follows zero below = good_first zero (known 0 below) refl
    good_all known follows (suc k) below =
        let c = present_step s list (suc k) (known (suc k) below) in
        let b = present_step s list k (known k (omega arith)) in
        record {
          step = c.0;
          stands = c.1;
          present = c.2;
          follows = λ d stands.
              sym (ap (λ (x : Edge). x.departure) (edge_step s list (suc k) c.0 c.1 c.2 p q)) ∙ follows k below
              ∙ ap (λ (x : Edge). x.arrival) (edge_step s list k b.0 b.1 b.2 p q) ∙ ap (λ (x : Step). (step_arc s x).arrival) (stands_same b.1 stands);
        }

    -- THEOREM: after an arc that is not bad, one whose window is present is not bad exactly if it leaves where that arc arrived
    pub good_next : (k : ℕ) → k ≢ 0 → Good s list (k - 1) → present s (four_at list k) ≡ true → (before here : Edge) → before ≡ edge_in s p q list (k - 1) → here ≡ edge_in s p q list k
        → Tells (Good s list k) (eqb here.departure before.arrival)
    good_next k some g e before here eb eh =
        let same : k ≡ suc (k - 1) = omega arith in
        subst (λ (x : ℕ). Tells (Good s list x) (eqb here.departure before.arrival)) (sym same)
        (next (k - 1) g (ap (λ (x : ℕ). present s (four_at list x)) (sym same) ∙ e) before here eb (eh ∙ ap (edge_in s p q list) same))
