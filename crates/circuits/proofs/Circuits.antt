-- The circuit that is written is a trail of parents, begun at its smallest node: a refutation.
use mathlib.Core.Path.{◌≡◌, refl, sym, ap, subst, ◌∙◌}
use mathlib.Core.List.{List, ◌++◌, map}
use Prim.Native.Nat.{ℕ, zero, suc, ◌+◌, ◌-◌, ◌*◌, ◌≤◌, ◌<◌}
use native.Mathlib.Omega.{arith}
use lib.ListN.{length, get_or, drop}
use lib.Seq.{sets-eq}
use Rattle.theory.specs.Arcs.{Arc}
use Rattle.theory.specs.Circuits.{Circuit, departures, FirstSmallest, Above}
use Rattle.theory.specs.Parents.{Came}
use Rattle.theory.specs.Backs.{back, trail, Returns, leaving, Follows}
use Rattle.theory.proofs.Backs.{back_agree, trail_length, trail_map, trail_agree, trail_first, return_circuit, return_above}
use Rattle.tables.specs.Sheets.{Sheet}
use Rattle.tables.specs.Admitted.{Admitted}
use Rattle.windows.specs.Arcs.{nodes, arcs}
use Rattle.windows.specs.Circuits.{Step, numbers, step_arc, AllValid, Refutes}
use Rattle.edges.specs.declared.Record.{Record}
use Rattle.layout.proofs.Laying.{Modes}
use Rattle.turns.specs.Rounds.{table_of, MarkTold, Rose}
use Rattle.circuits.specs.Ways.{before, written, Traced}
use Rattle.circuits.proofs.Writing.{written_length}
use Rattle.circuits.proofs.Tracing.{step_of, Shown, parent, round_arcs, follows, same_way, shown_at}

module _ (s : Sheet) (row : List ℕ) where
  -- the steps that the marks of k steps back from u name, in order of travel
  abbrev steps : ℕ → ℕ → List Step
  steps u k = trail (λ v. step_of s.n v (get_or row v 0)) (before row) u k

  abbrev Shows : ℕ → ℕ → Type 0
  Shows u k = (j : ℕ) → j < k → Shown s (back (before row) u j) (get_or row (back (before row) u j) 0)

  steps_valid : (u k : ℕ) → Shows u k → AllValid s (steps u k)
  unfolding trail
  steps_valid u zero h = tt
  steps_valid u (suc k) h = ((h k (omega arith)).valid, steps_valid u k (λ j l. h j (omega arith)))

  steps_numbers : (u k : ℕ) → Shows u k → numbers (steps u k) ≡ written row s.n u k
  unfolding trail written
  steps_numbers u zero h = refl
  steps_numbers u (suc k) h = rw ((h k (omega arith)).kind, steps_numbers u k (λ j l. h j (omega arith)))

-- ---- what the row of the rounds shows
module _ (s : Sheet) (ok : Admitted s) (p q : ℕ) (l : List Record) (start : List ℕ) (laid : Modes s.tables s.n l start s.m) (row : List ℕ) (N v : ℕ) (all : N ≡ nodes s)
    (told : (u : ℕ) → u < N → 0 < table_of (round_arcs s p q l start) N u → MarkTold (round_arcs s p q l start) row N u) (below : v < N) (last : Rose (round_arcs s p q l start) (N - 1) v)
    (old new : List ℕ) (count : ℕ) (t : Traced row s.n s.positions v old new count) where
  abbrev par : ℕ → Arc
  par u = parent s row u

  abbrev W : ℕ → ℕ
  W j = back (before row) t.node j

  abbrev circuit_steps : List Step
  circuit_steps = steps s row t.node count

  shows : Shows s row t.node count
  shows j h = let o = t.on j h in subst (λ (u : ℕ). Shown s u (get_or row u 0)) o.2 (shown_at s ok p q l start laid row N v all told below last o.0 (omega (arith, o.1)))

  -- round it the marks lead as the parents do
  round_way : (j : ℕ) → j ≤ count → back (leaving par) t.node j ≡ W j
  round_way = back_agree (leaving par) (before row) t.node count (λ j h. sym (shows j h).leave)

  returns : Returns (leaving par) t.node count
  returns =
      record {
        some = t.returns.some;
        closed = round_way count (omega arith) ∙ t.returns.closed;
        first = λ j a b. λ (e : back (leaving par) t.node j ≡ t.node). t.returns.first j a b (sym (round_way j (omega arith)) ∙ e);
      }

  round_follows : Follows (arcs s) p q N par t.node count
  round_follows j h =
      let o = t.on j h in
      subst (λ (u : ℕ). Came (arcs s) p q N u (par u)) (sym (same_way s ok p q l start laid row N v all told below last o.0 (omega (arith, o.1))) ∙ o.2 ∙ sym (round_way j (omega arith)))
      (follows s ok p q l start laid row N v all told below last o.0 (omega (arith, o.1)))

  arcs_are : map (step_arc s) circuit_steps ≡ trail par (leaving par) t.node count
  arcs_are =
      trail_map (λ u. step_of s.n u (get_or row u 0)) (before row) (step_arc s) t.node count
      ∙ trail_agree par (before row) (leaving par) t.node count (λ j h. sym (round_way j (omega arith)))

  -- what is written is the four numbers of each step, and the rest of the buffer stays
  written_steps : 4 * N ≤ length old → new ≡ numbers circuit_steps ++ drop (4 * count) old
  written_steps long =
      let four = written row s.n t.node count in
      let ends : 0 + length four ≡ 4 * count = omega (arith, written_length row s.n t.node count) in
      t.written_is
      ∙ sets-eq four old 0 (omega (arith, ends, t.short))
      ∙ ap (λ (k : ℕ). four ++ drop k old) ends
      ∙ ap (λ (x : List ℕ). x ++ drop (4 * count) old) (sym (steps_numbers s row t.node count shows))

  -- THEOREM: the circuit that is written refutes p/q
  pub refuted : 4 * N ≤ length old → (steps : List Step) × Refutes s p q steps × (length steps ≡ count) × (new ≡ numbers steps ++ drop (4 * count) old)
  refuted long = (
    circuit_steps,
    record {
      circuit = record {
        valid = steps_valid s row t.node count shows;
        circuit = subst (Circuit (arcs s)) (sym arcs_are) (return_circuit (arcs s) p q N par t.node count round_follows returns);
        first = subst (λ (c : List Arc). FirstSmallest (departures c)) (sym arcs_are) (trail_first par t.node count returns (λ j h. omega (arith, t.smallest j h, round_way j (omega arith))));
      };
      above = subst (Above p q) (sym arcs_are) (return_above (arcs s) p q N par t.node count round_follows returns);
    },
    trail_length (λ u. step_of s.n u (get_or row u 0)) (before row) t.node count,
    written_steps long,
  )
