-- Four stores are a run of stores.
use mathlib.Core.Path.{ap, ◌∙◌}
use mathlib.Core.List.{[], ◌∷◌}
use Prim.Native.Nat.{ℕ, ◌+◌, ◌/◌, ◌%◌}
use native.Mathlib.Omega.{arith}
use lib.Seq.{sets}
use Rattle.circuits.specs.declared.Places.{Places}
use Rattle.circuits.specs.Ways.{places_of}
use Rattle.circuits.proofs.Writing.{few_numbers, four}
use Rattle.circuits.proofs.write_arc.Goals as goal

pub overflow_add-position : goal.overflow_add-position
overflow_add-position c = omega (arith, few_numbers _ _ _ c.args.v c.args.n c.places_of-arc.ensures (omega (arith, c.departure-u.ensures, c.requires.3)) c.requires.2)

pub overflow_add-to : goal.overflow_add-to
overflow_add-to c = omega (arith, few_numbers _ _ _ c.args.v c.args.n c.places_of-arc.ensures (omega (arith, c.departure-u.ensures, c.requires.3)) c.requires.2)

pub overflow_add-from : goal.overflow_add-from
overflow_add-from c = omega (arith, few_numbers _ _ _ c.args.v c.args.n c.places_of-arc.ensures (omega (arith, c.departure-u.ensures, c.requires.3)) c.requires.2)

pub overflow_cast-circuit-2 : goal.overflow_cast-circuit-2
overflow_cast-circuit-2 c = omega (arith, few_numbers _ _ _ c.args.v c.args.n c.places_of-arc.ensures (omega (arith, c.departure-u.ensures, c.requires.3)) c.requires.2)

pub overflow_cast-circuit-3 : goal.overflow_cast-circuit-3
overflow_cast-circuit-3 c = omega (arith, few_numbers _ _ _ c.args.v c.args.n c.places_of-arc.ensures (omega (arith, c.departure-u.ensures, c.requires.3)) c.requires.2)

pub overflow_cast-circuit-4 : goal.overflow_cast-circuit-4
overflow_cast-circuit-4 c = omega (arith, few_numbers _ _ _ c.args.v c.args.n c.places_of-arc.ensures (omega (arith, c.departure-u.ensures, c.requires.3)) c.requires.2)

pub returns : goal.returns
returns c =
    let a = c.args in
    let r = c.places_of-arc.result in
    let is = c.places_of-arc.ensures ∙ ap (λ (u : ℕ). places_of (a.mark % 8) u a.v) c.departure-u.ensures in
    four a.circuit.now a.at (a.mark % 8) (r.here / a.n + 1) (r.to % a.n + 1) (r.from % a.n + 1)
    ∙ ap (λ (e : Places). sets a.circuit.now a.at ((a.mark % 8) ∷ (e.here / a.n + 1) ∷ (e.to % a.n + 1) ∷ (e.from % a.n + 1) ∷ [])) is
