-- What the rounds over a sheet's list came to, once it is written, is the outcome: the earliest plan, or a refutation.
use mathlib.Core.Path.{◌≡◌, refl, sym, ap, subst, ◌∙◌}
use mathlib.Core.List.{List, [], ◌∷◌, ◌++◌}
use Prim.Native.Nat.{ℕ, ◌*◌, ◌≤◌, ◌<◌}
use native.Mathlib.Omega.{arith}
use lib.ListN.{length, drop}
use Rattle.std.specs.Prelude.{Ok}
use Rattle.tables.specs.Sheets.{Sheet}
use Rattle.tables.specs.Answers.{answer}
use Rattle.tables.specs.Admitted.{Admitted}
use Rattle.windows.specs.Arcs.{nodes}
use Rattle.windows.specs.Circuits.{numbers}
use Rattle.edges.specs.declared.Record.{Record}
use Rattle.layout.proofs.Laying.{Modes}
use Rattle.turns.specs.Rounds.{Named, walked, table_of, MarkTold, Ran}
use Rattle.calls.specs.Ask as ask
use Rattle.calls.specs.Ask.{ask_refusal, Outcome}
use Rattle.ask.specs.Answers.{answer_asked, LeadsBack, Finishes, Settles}
use Rattle.ask.specs.declared.Asked.{Asked}
use Rattle.ask.specs.declared.Asked.TheVariants as asked
use Rattle.circuits.proofs.Tracing.{led}
use Rattle.circuits.proofs.Circuits.{refuted}
use Rattle.ask.proofs.Accepting.{accepts}

module _ (s : Sheet) (ok : Admitted s) (p q : ℕ) (l : List Record) (start : List ℕ) (laid : Modes s.tables s.n l start s.m)
    (rounds node : ℕ) (times row : List ℕ) (ran : Ran (walked l start s.schedule s.n s.positions p q s.positions) (nodes s) rounds node times row) where
  abbrev A : List Named
  A = walked l start s.schedule s.n s.positions p q s.positions

  full : nodes s ≤ rounds → rounds ≡ nodes s
  full h = omega (arith, ran.few)

  told : nodes s ≤ rounds → (v : ℕ) → v < nodes s → 0 < table_of A (nodes s) v → MarkTold A row (nodes s) v
  told h = subst (λ (r : ℕ). (v : ℕ) → v < nodes s → 0 < table_of A r v → MarkTold A row r v) (full h) ran.told

  -- the way back leads where all N rounds changed something
  pub leads : nodes s ≤ length row → LeadsBack row s.n s.positions rounds node
  leads long h = let e = ran.last (full h) in led s ok p q l start laid row (nodes s) node refl (told h) e.0 e.1 long

  -- THEOREM: what is written is the outcome
  pub settles : (plan₀ circuit₀ : List ℕ) → 4 * nodes s ≤ length circuit₀ → (a : Asked) (plan circuit : List ℕ)
      → Finishes row s.n s.positions rounds node times plan₀ circuit₀ a plan circuit → Settles s p q plan₀ circuit₀ a plan circuit
  settles plan₀ circuit₀ long (asked.Accepted k) plan circuit f =
      rw (f.0, f.3) (accepts s ok p q l start laid rounds node times row ran f.1 plan₀ circuit₀ plan f.2)
  settles plan₀ circuit₀ long (asked.Refuted count) plan circuit f =
      let e = ran.last (full f.0) in
      let r = refuted s ok p q l start laid row (nodes s) node refl (told f.0) e.0 e.1 circuit₀ circuit count f.1 long in
      (r.0, r.2, record { refutes = r.1; circuit_is = r.3 ∙ ap (λ (k : ℕ). numbers r.0 ++ drop (4 * k) circuit₀) (sym r.2); plan_same = f.2 })

-- where no refusal fits, that is the whole outcome
pub outcome : (s : Sheet) (p q : ℕ) (plan₀ circuit₀ : List ℕ) → ask_refusal s p q plan₀ circuit₀ ≡ 0 → (a : Asked) (plan circuit : List ℕ) → Settles s p q plan₀ circuit₀ a plan circuit
    → Outcome s p q plan₀ circuit₀ (answer_asked (Ok a)) plan circuit
outcome s p q plan₀ circuit₀ e (asked.Accepted k) plan circuit f = ask.accepted k refl e f
outcome s p q plan₀ circuit₀ e (asked.Refuted k) plan circuit f = ask.refuted f.0 (ap (λ (n : ℕ). answer 100 (n ∷ [])) (sym f.1)) e f.2
