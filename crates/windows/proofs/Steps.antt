-- Circuits as document 01 lists them are circuits of the sheet's arcs, and every circuit of the arcs can be so listed.
use mathlib.Core.Path.{◌≡◌, refl, sym, ap, ◌∙◌, subst}
use mathlib.Core.Logic.{◌⊎◌, inl, inr}
use mathlib.Core.List.{List, [], ◌∷◌, ◌++◌, map}
use Prim.Native.Nat.{ℕ, zero, suc, ◌<◌}
use native.Mathlib.Omega.{arith}
use lib.ListN.{length}
use lib.IntN.{ℤ}
use Rattle.theory.specs.Arcs.{Arc, ◌∈◌, rise, fall}
use Rattle.theory.specs.Circuits.{total, Walk, departures, Circuit, FirstSmallest, Refuted}
use Rattle.theory.proofs.Walks.{refuted_never}
use Rattle.theory.proofs.Loops.{works_or_refuted}
use Rattle.theory.proofs.Turning.{circuit_turn, total_turn, map_append, smallest_split, split_first}
use Rattle.tables.specs.Sheets.{Sheet}
use Rattle.windows.specs.Windows.{Kind, A0, B0, A1, B1, number}
use Rattle.windows.specs.Inequalities.{Times, Solves}
use Rattle.windows.specs.Arcs.{nodes, arc, arcs}
use Rattle.windows.specs.Circuits.{Step, limit, step_arc, Valid, AllValid, CircuitOf, Refutes}
use Rattle.windows.proofs.Listed.{arcs_in, arcs_of_lem}
use Rattle.windows.proofs.Endless.{meaning}
use Rattle.windows.proofs.Laying.{arcs_within}

-- a kind, back from its number; what it is for a number past 3 plays no part
abbrev pub kind_of : ℕ → Kind
kind_of zero = A0
kind_of (suc zero) = B0
kind_of (suc (suc zero)) = A1
kind_of (suc (suc (suc k))) = B1

pub kind_number : (k : Kind) → kind_of (number k) ≡ k
kind_number A0 = refl
kind_number B0 = refl
kind_number A1 = refl
kind_number B1 = refl

module _ (s : Sheet) where
  pub valid_in : (c : Step) → Valid s c → step_arc s c ∈ arcs s
  valid_in c v =
      arcs_in s c.position v.from_first v.to_last (record { kind = c.kind; to = c.to; from = c.from; w = limit s c })
      (record { to_event = v.to_event; from_event = v.from_event; stands = refl; present = v.present })

  step_of : (b : Arc) → b ∈ arcs s → (c : Step) × Valid s c × (step_arc s c ≡ b)
  step_of b m =
      let o = arcs_of_lem s b m in
      let c : Step = record { kind = o.of.kind; position = o.position; to = o.of.to; from = o.of.from } in (
        c,
        record { from_first = o.from_first; to_last = o.to_last; to_event = o.has.to_event; from_event = o.has.from_event; present = rw o.has.stands o.has.present },
        ap (λ (w : ℤ). arc s o.position o.of.kind o.of.to o.of.from w) o.has.stands ∙ o.is,
      )

  -- THEOREM: every walk of the arcs is a list of steps of the sheet
  pub walk_steps : (u : ℕ) (w : List Arc) (v : ℕ) → Walk (arcs s) u w v → (cs : List Step) × AllValid s cs × (map (step_arc s) cs ≡ w)
  walk_steps u [] v h = ([], tt, refl)
  walk_steps u (b ∷ w) v h =
      let c = step_of b h.0 in
      let k = walk_steps b.arrival w v h.2 in
      (c.0 ∷ k.0, (c.1, k.1), cc (c.2, k.2))

  refutes_refuted : (p q : ℕ) (cs : List Step) → Refutes s p q cs → Refuted (arcs s) p q
  refutes_refuted p q cs r = record { by = map (step_arc s) cs; circuit = r.circuit.circuit; above = r.above }

  -- THEOREM: a refutation and a solution are never both there
  pub never_both : 0 < s.positions → (p q : ℕ) (x : Times) → Solves s p q x → (cs : List Step) → Refutes s p q cs → ⊥
  never_both some p q x solves cs r =
      let y = (meaning s some p q).0 (x, solves) in
      refuted_never (arcs s) p q (refutes_refuted p q cs r) y.0 y.1

  -- ---- every circuit of the arcs, listed from its smallest node

  valid_front : (cs ds : List Step) → AllValid s (cs ++ ds) → AllValid s cs
  valid_front [] ds v = tt
  valid_front (c ∷ cs) ds v = (v.0, valid_front cs ds v.1)

  valid_back : (cs ds : List Step) → AllValid s (cs ++ ds) → AllValid s ds
  valid_back [] ds v = v
  valid_back (c ∷ cs) ds v = valid_back cs ds v.1

  pub valid_join : (cs ds : List Step) → AllValid s cs → AllValid s ds → AllValid s (cs ++ ds)
  valid_join [] ds v w = w
  valid_join (c ∷ cs) ds v w = (v.0, valid_join cs ds v.1 w)

  leaves : Step → ℕ
  leaves c = (step_arc s c).departure

  departures_map : (cs : List Step) → departures (map (step_arc s) cs) ≡ map leaves cs
  unfolding leaves
  departures_map [] = refl
  departures_map (c ∷ cs) = ap (λ (l : List ℕ). leaves c ∷ l) (departures_map cs)

  -- a circuit as steps, with the sums of the arcs
  pub record Listing (w : List Arc) : Type 0 where
    pub steps : List Step
    pub circuit : CircuitOf s steps
    pub same : (f : Arc → ℕ) → total f (map (step_arc s) steps) ≡ total f w

  turned : (cs front back : List Step) → cs ≡ front ++ back → AllValid s cs → Circuit (arcs s) (map (step_arc s) cs) → FirstSmallest (map leaves (back ++ front)) → Listing (map (step_arc s) cs)
  turned cs front back joined valid circuit first =
      let split : map (step_arc s) cs ≡ map (step_arc s) front ++ map (step_arc s) back = ap (map (step_arc s)) joined ∙ map_append (step_arc s) front back in
      let v : AllValid s (front ++ back) = subst (AllValid s) joined valid in
      record {
        steps = back ++ front;
        circuit = record {
          valid = valid_join back front (valid_back front back v) (valid_front front back v);
          circuit = rw (map_append (step_arc s) back front) (circuit_turn (arcs s) (map (step_arc s) front) (map (step_arc s) back) (subst (Circuit (arcs s)) split circuit));
          first = rw (departures_map (back ++ front)) first;
        };
        same = λ f. ap (total f) (map_append (step_arc s) back front) ∙ total_turn f (map (step_arc s) front) (map (step_arc s) back) ∙ sym (ap (total f) split);
      }

  -- THEOREM: every circuit of the arcs can be listed as document 01 has it
  pub listing : (w : List Arc) → Circuit (arcs s) w → Listing w
  listing w c = let k = walk_steps c.node w c.node c.closed in go k.0 w k.1 k.2 c
    where
      go : (cs : List Step) (w : List Arc) → AllValid s cs → map (step_arc s) cs ≡ w → Circuit (arcs s) w → Listing w
      go [] w v e c = absurd (omega (arith, c.nonempty, ap length e))
      go (d ∷ ds) w v e c =
          let p = smallest_split leaves d ds in
          subst Listing e (turned (d ∷ ds) p.front (p.first ∷ p.rest) p.joined v (subst (Circuit (arcs s)) (sym e) c) (split_first leaves (d ∷ ds) p))

  -- THEOREM: at every cycle time there is a solution or a refutation
  pub decided : 0 < s.positions → (p q : ℕ) → ((x : Times) × Solves s p q x) ⊎ ((cs : List Step) × Refutes s p q cs)
  decided some p q =
      elim (works_or_refuted (arcs s) p q (nodes s) (arcs_within s some)) [
        | inl w ↦ inl ((meaning s some p q).1 w)
        | inr r ↦
            let l = listing r.by r.circuit in
            inr (l.steps, record { circuit = l.circuit; above = omega (arith, r.above, l.same (rise p q), l.same (fall p q)) })
      ]
