-- Two outcomes of Ask are equal, but for which circuit is given; with the same circuit they are equal in full.
use mathlib.Core.Path.{◌≡◌, refl, sym, ap, ◌∙◌}
use mathlib.Core.Logic.{◌≢◌, ◌⊎◌, inl, inr}
use mathlib.Core.List.{List, [], ◌∷◌}
use Prim.Native.Nat.{ℕ, suc, ◌+◌, ◌-◌, ◌*◌, ◌/◌, ◌%◌, ◌≤◌, ◌<◌}
use native.Mathlib.Omega.{arith}
use native.Mathlib.Nat.{mod-lt, mod-eq_of_lt, div-add-mod', div-lt_iff_lt-mul, div-eq_of_lt}
use native.Mathlib.Decide.{dec_lt}
use lib.ListN.{get_or, length, drop}
use lib.Seq.{ext_get_or, get_or-drop}
use lib.IntN.{pos}
use Rattle.theory.specs.Arcs.{Plan, table, Rounds}
use Rattle.theory.proofs.Rounds.{table_least, still_plan}
use Rattle.theory.proofs.Loops.{rounds_same}
use Rattle.tables.specs.Sheets.{Sheet, refusal}
use Rattle.tables.specs.Answers.{Answer, answer}
use Rattle.tables.proofs.Answers.{number_same}
use Rattle.tables.proofs.Refusing.{otherwise_none}
use Rattle.tables.specs.Admitted.{Admitted}
use Rattle.tables.proofs.Laws.{accepted}
use Rattle.windows.specs.Arcs.{node, nodes, arcs}
use Rattle.windows.specs.Circuits.{Step}
use Rattle.windows.proofs.Parts.{le_parts}
use Rattle.windows.proofs.Endless.{onwards, plan_iff, plan_solves, onwards_from_zero}
use Rattle.windows.proofs.Laying.{arcs_within}
use Rattle.windows.proofs.Steps.{never_both}
use Rattle.calls.specs.Circuits.{onto}
use Rattle.calls.specs.Ask as ask
use Rattle.calls.specs.Ask.{ask_refusal, planned, Earliest, Accepts, Shows, Outcome, given}

-- every place below N is the node of an event at a position
pub node_at : (s : Sheet) → 0 < s.n → (v : ℕ) → v < nodes s → (g e : ℕ) × (g < s.positions) × (e < s.n) × (node s (suc g) (suc e) ≡ v)
node_at s some v below =
    let small : v / s.n < s.positions = (div-lt_iff_lt-mul some).1 below in
    (v / s.n, v % s.n, small, mod-lt v some, ap (λ (k : ℕ). k * s.n + v % s.n) (mod-eq_of_lt small) ∙ div-add-mod' v s.n)

module _ (s : Sheet) (p q : ℕ) (some : 0 < s.positions) (events : 0 < s.n) where
  -- the earliest plan is at most every plan of the arcs
  earliest_least : (plan : List ℕ) → Earliest s p q plan → (y : ℕ → ℕ) → Plan (arcs s) p q y → (v : ℕ) → v < nodes s → get_or plan v 0 ≤ y v
  earliest_least plan e y is v below =
      let a = node_at s events v below in
      let g = a.0 in
      let i = a.1 in
      let first = e.earliest (onwards s p y) (plan_solves s some p q y is) (onwards_from_zero s some p y) (suc g) (suc i) (omega arith) a.2 (omega arith, a.3) in
      omega (
        arith,
        (le_parts (pos (get_or plan (node s (suc g) (suc i)) 0)) (onwards s p y (suc g) (suc i))).0 first,
        ap (λ (k : ℕ). get_or plan k 0) a.4,
        ap y a.4,
        ap (λ (k : ℕ). p * k) (div-eq_of_lt a.2),
      )

  -- THEOREM: the plan accepted is the table where the rounds stand still
  pub plan_table : (plan : List ℕ) (r : ℕ) → Earliest s p q plan → Rounds (arcs s) p q (nodes s) r → (v : ℕ) → v < nodes s → get_or plan v 0 ≡ table (arcs s) p q r v
  plan_table plan r e rounds v below =
      let within = arcs_within s some in
      omega (
        arith,
        earliest_least plan e (table (arcs s) p q r) (still_plan (arcs s) p q (nodes s) within r rounds.still) v below,
        table_least (arcs s) p q (λ k. get_or plan k 0) ((plan_iff s some p q (λ k. get_or plan k 0)).1 e.solves.keeps) r v,
      )

  -- the earliest plan is one
  plan_same : (plan plan' : List ℕ) → Earliest s p q plan → Earliest s p q plan' → (v : ℕ) → v < nodes s → get_or plan v 0 ≡ get_or plan' v 0
  plan_same plan plan' e e' v below =
      omega (
        arith,
        earliest_least plan e (λ k. get_or plan' k 0) ((plan_iff s some p q (λ k. get_or plan' k 0)).1 e'.solves.keeps) v below,
        earliest_least plan' e' (λ k. get_or plan k 0) ((plan_iff s some p q (λ k. get_or plan k 0)).1 e.solves.keeps) v below,
      )

-- lists that agree below n and from n on are equal
pub parts_same : (n : ℕ) (xs ys : List ℕ) → length xs ≡ length ys → ((v : ℕ) → v < n → get_or xs v 0 ≡ get_or ys v 0) → drop n xs ≡ drop n ys → xs ≡ ys
parts_same n xs ys long front back =
    ext_get_or 0 xs ys long (λ v h. elim (dec_lt v n) [
      | yes k ↦ front v k
      | no k ↦ rest v (v - n) (omega arith)
    ])
  where
    rest : (v k : ℕ) → v ≡ n + k → get_or xs v 0 ≡ get_or ys v 0
    rest v k e = rw e (sym (get_or-drop n xs k 0) ∙ ap (λ (l : List ℕ). get_or l k 0) back ∙ get_or-drop n ys k 0)

module _ (s : Sheet) (p q : ℕ) (plan₀ circuit₀ : List ℕ) where
  -- what is known where no refusal fits
  admitted : ask_refusal s p q plan₀ circuit₀ ≡ 0 → Admitted s
  admitted e = accepted s (otherwise_none (refusal s) _ e).0

  clash : (plan circuit plan' circuit' : List ℕ) (r : ℕ) (steps : List Step) → Admitted s → Accepts s p q plan₀ circuit₀ r plan circuit → Shows s p q plan₀ circuit₀ steps plan' circuit' → ⊥
  clash plan circuit plan' circuit' r steps ok x y = never_both s ok.size.some_positions p q (planned s p q plan) x.plan_is.solves steps y.refutes

  -- an acceptance leaves one plan, with one count of rounds
  accepts_same : Admitted s → (r k : ℕ) (plan circuit plan' circuit' : List ℕ) → Accepts s p q plan₀ circuit₀ r plan circuit → Accepts s p q plan₀ circuit₀ k plan' circuit'
      → (r ≡ k) × (plan ≡ plan') × (circuit ≡ circuit')
  accepts_same ok r k plan circuit plan' circuit' x y =
      let z = ok.size in (
        rounds_same (arcs s) p q (nodes s) r k x.rounds_are y.rounds_are,
        parts_same (nodes s) plan plan' (x.plan_length ∙ sym y.plan_length) (plan_same s p q z.some_positions z.some_events plan plan' x.plan_is y.plan_is)
            (x.plan_rest ∙ sym y.plan_rest),
        x.circuit_same ∙ sym y.circuit_same,
      )

  -- THEOREM: two outcomes of Ask with the same circuit are equal: the answer, its number and all its values, and every place of both buffers
  pub outcome_equal : (a b : Answer) (plan circuit plan' circuit' : List ℕ) (x : Outcome s p q plan₀ circuit₀ a plan circuit) (y : Outcome s p q plan₀ circuit₀ b plan' circuit') → given x ≡ given y
      → (a ≡ b) × (plan ≡ plan') × (circuit ≡ circuit')
  outcome_equal a b plan circuit plan' circuit' (ask.accepted r e none is) (ask.accepted k e' none' is') same =
      let z = accepts_same (admitted none) r k plan circuit plan' circuit' is is' in
      (e ∙ ap (λ (n : ℕ). answer 0 (n ∷ [])) z.0 ∙ sym e', z.1, z.2)
  outcome_equal a b plan circuit plan' circuit' (ask.accepted r e none is) (ask.refuted steps e' none' is') same = absurd (clash plan circuit plan' circuit' r steps (admitted none) is is')
  outcome_equal a b plan circuit plan' circuit' (ask.accepted r e none is) (ask.refused k e' is' some kept kept') same = absurd (some (sym is' ∙ none))
  outcome_equal a b plan circuit plan' circuit' (ask.refuted steps e none is) (ask.accepted k e' none' is') same = absurd (clash plan' circuit' plan circuit k steps (admitted none) is' is)
  outcome_equal a b plan circuit plan' circuit' (ask.refuted steps e none is) (ask.refuted steps' e' none' is') same = (
    let alike : steps ≡ steps' = same in rw (e, e', alike),
    is.plan_same ∙ sym is'.plan_same,
    is.circuit_is ∙ ap (λ (cs : List Step). onto cs circuit₀) same ∙ sym is'.circuit_is,
  )
  outcome_equal a b plan circuit plan' circuit' (ask.refuted steps e none is) (ask.refused k e' is' some kept kept') same = absurd (some (sym is' ∙ none))
  outcome_equal a b plan circuit plan' circuit' (ask.refused k e is some kept kept') (ask.accepted r e' none is') same = absurd (some (sym is ∙ none))
  outcome_equal a b plan circuit plan' circuit' (ask.refused k e is some kept kept') (ask.refuted steps e' none is') same = absurd (some (sym is ∙ none))
  outcome_equal a b plan circuit plan' circuit' (ask.refused k e is some kept kept') (ask.refused k' e' is' some' same-plan same-circuit) same =
      (e ∙ ap (λ (n : ℕ). answer n []) (sym is ∙ is') ∙ sym e', kept ∙ sym same-plan, kept' ∙ sym same-circuit)

  -- two outcomes both refute, or neither gives a circuit
  both : (a b : Answer) (plan circuit plan' circuit' : List ℕ) (x : Outcome s p q plan₀ circuit₀ a plan circuit) (y : Outcome s p q plan₀ circuit₀ b plan' circuit')
      → ((a.number ≡ 100) × (b.number ≡ 100) × (plan ≡ plan')) ⊎ (given x ≡ given y)
  both a b plan circuit plan' circuit' (ask.accepted r e none is) (ask.accepted k e' none' is') = inr refl
  both a b plan circuit plan' circuit' (ask.accepted r e none is) (ask.refuted steps e' none' is') = absurd (clash plan circuit plan' circuit' r steps (admitted none) is is')
  both a b plan circuit plan' circuit' (ask.accepted r e none is) (ask.refused k e' is' some kept kept') = inr refl
  both a b plan circuit plan' circuit' (ask.refuted steps e none is) (ask.accepted k e' none' is') = absurd (clash plan' circuit' plan circuit k steps (admitted none) is' is)
  both a b plan circuit plan' circuit' (ask.refuted steps e none is) (ask.refuted steps' e' none' is') =
      inl (number_same e, number_same e', is.plan_same ∙ sym is'.plan_same)
  both a b plan circuit plan' circuit' (ask.refuted steps e none is) (ask.refused k e' is' some kept kept') = absurd (some (sym is' ∙ none))
  both a b plan circuit plan' circuit' (ask.refused k e is some kept kept') (ask.accepted r e' none is') = inr refl
  both a b plan circuit plan' circuit' (ask.refused k e is some kept kept') (ask.refuted steps e' none is') = absurd (some (sym is ∙ none))
  both a b plan circuit plan' circuit' (ask.refused k e is some kept kept') (ask.refused k' e' is' some' same-plan same-circuit) = inr refl

  -- THEOREM: two outcomes of Ask are equal: the number, the plan's buffer and, unless it is a refutation, all values and the circuit's buffer
  pub outcome_same : (a b : Answer) (plan circuit plan' circuit' : List ℕ) → Outcome s p q plan₀ circuit₀ a plan circuit → Outcome s p q plan₀ circuit₀ b plan' circuit'
      → (a.number ≡ b.number) × (plan ≡ plan') × (a.number ≢ 100 → (a ≡ b) × (circuit ≡ circuit'))
  outcome_same a b plan circuit plan' circuit' x y =
      elim (both a b plan circuit plan' circuit' x y) [
        | inl refutes ↦ (refutes.0 ∙ sym refutes.1, refutes.2, λ other. absurd (other refutes.0))
        | inr same ↦
            let z = outcome_equal a b plan circuit plan' circuit' x y same in
            (number_same z.0, z.1, λ other. (z.0, z.2))
      ]
