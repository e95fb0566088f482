-- "It must accept every answer that our own Ask gives": the arcs' places of its buffer hold the numbers of a refutation.
use mathlib.Core.Path.{◌≡◌, refl, sym, ap, ◌∙◌, subst}
use mathlib.Core.Bool.{true}
use mathlib.Core.List.{List, [], ◌∷◌}
use Prim.Native.Nat.{ℕ, ◌*◌, ◌%◌, ◌<◌}
use native.Mathlib.Omega.{arith}
use borrow.Author.Tests.{le-leb, eq-eqb}
use lib.ListN.{length, take, length-map}
use Rattle.tables.specs.Sheets.{Sheet}
use Rattle.tables.specs.Answers.{answer}
use Rattle.tables.proofs.Laws.{yes}
use Rattle.windows.specs.Circuits.{Step, numbers, step_arc, Refutes}
use Rattle.windows.proofs.Numbers.{numbers_length}
use Rattle.calls.specs.Ask as ask
use Rattle.calls.specs.ProposedArcs.{whole, Outcome, accepted}
use Rattle.calls.proofs.Circuits.{onto_arcs}
use Rattle.calls.proofs.Timed.{timely}
use Rattle.calls.proofs.Ask.Cases.{refuted_is}
use Rattle.calls.proofs.ProposedArcs.Refusals.{refused_none}

-- the numbers of a refutation are whole arcs, and there are some
refutes_whole : (s : Sheet) (p q : ℕ) (steps : List Step) → Refutes s p q steps → whole (numbers steps) ≡ true
refutes_whole s p q steps r =
    let some : 0 < length steps = omega (arith, r.circuit.circuit.nonempty, length-map steps (step_arc s)) in
    yes _ _ (le-leb 1 (length (numbers steps)) (omega (arith, numbers_length steps))) (eq-eqb (length (numbers steps) % 4) 0 (omega (arith, numbers_length steps)))

module _ (s : Sheet) (p q : ℕ) (plan₀ circuit₀ plan circuit : List ℕ) where
  -- THEOREM: a circuit of n arcs that Ask gives is accepted
  pub own_circuit : (n : ℕ) → ask.Outcome s p q plan₀ circuit₀ (answer 100 (n ∷ [])) plan circuit → Outcome s p q (take (4 * n) circuit) (answer 0 [])
  own_circuit n x =
      let r = refuted_is n x in
      let steps = r.1 in
      let t = timely s p q _ r.0 in
      let is : take (4 * n) circuit ≡ numbers steps = ap (λ (k : ℕ). take (4 * k) circuit) (sym r.2) ∙ ap (take (4 * length steps)) r.3.circuit_is ∙ onto_arcs steps circuit₀ in
      subst (λ (l : List ℕ). Outcome s p q l (answer 0 [])) (sym is)
      (accepted steps refl (refused_none s p q (numbers steps) (sym t.admitted) t.in_time (refutes_whole s p q steps r.3.refutes)) refl r.3.refutes)
