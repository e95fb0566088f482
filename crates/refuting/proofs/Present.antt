-- Four numbers name a window of the sheet exactly if a step of the sheet stands there, and their arc in numbers is the step's at p/q.
use mathlib.Core.Path.{◌≡◌, refl, sym, ap, ◌∙◌}
use mathlib.Core.Bool.{Bool, true, not}
use mathlib.Core.List.{List}
use Prim.Native.Nat.{ℕ, zero, suc, ◌+◌, ◌-◌, ◌*◌, ◌≤◌, ◌<◌}
use native.Mathlib.Omega.{arith}
use native.Mathlib.Nat.{mul-le-mul}
use borrow.Author.Tests.{ltb-true, lt-ltb, not-true}
use lib.Dec.{ltb}
use Rattle.theory.specs.Arcs.{rise, fall}
use Rattle.tables.specs.Sheets.{Sheet, refusal, within, absent}
use Rattle.tables.specs.Admitted.{Admitted}
use Rattle.tables.proofs.Laws.{both, yes, within_is, within_yes}
use Rattle.windows.specs.Windows.{Kind, A0, B0, A1, B1, number, Window, Event}
use Rattle.windows.specs.Arcs.{nodes, arc_of}
use Rattle.windows.specs.Circuits.{Step, Stands, limit, step_arc, Valid}
use Rattle.windows.proofs.Listed.{absent_some, some_absent}
use Rattle.windows.proofs.Limits.{number_small, sheet_laid}
use Rattle.windows.proofs.Steps.{valid_in}
use Rattle.edges.specs.Naming.{four_at, limit_of, NamesPlace}
use Rattle.edges.proofs.Edges.{weighed, edge_is}
use Rattle.refuting.specs.Reading.{named, limit_at, present, edge_in}
use Rattle.edges.specs.declared.Four.{Four}
use Rattle.edges.specs.declared.lines.Line.{Line}
use Rattle.calls.proofs.Timed.{Timely, timely}
use Rattle.tables.specs.Lent.{lent}

-- a number below 4 is a kind's
kind_of : (k : ℕ) → k < 4 → (a : Kind) × (k ≡ number a)
kind_of zero h = (A0, refl)
kind_of (suc zero) h = (B0, refl)
kind_of (suc (suc zero)) h = (A1, refl)
kind_of (suc (suc (suc zero))) h = (B1, refl)
kind_of (suc (suc (suc (suc k)))) h = absurd (omega arith)

module _ (s : Sheet) where
  -- what the test of four numbers says
  record Names (a : Four) : Type 0 where
    few_kinds : a.kind < 4
    in_schedule : (1 ≤ a.position) × (a.position ≤ s.positions)
    to_event : Event s a.to
    from_event : Event s a.from

  names : (a : Four) → named s.n s.positions a ≡ true → Names a
  names a e =
      let x = both _ (within s.n a.from) e in
      let y = both _ (within s.n a.to) x.0 in
      let z = both (ltb a.kind 4) (within s.positions a.position) y.0 in
      record { few_kinds = ltb-true a.kind 4 z.0; in_schedule = within_is _ _ z.1; to_event = within_is _ _ y.1; from_event = within_is _ _ x.1 }

  -- the numbers name a place of the tables
  pub named_place : refusal s ≡ 0 → (a : Four) → named s.n s.positions a ≡ true → NamesPlace s a.kind a.position a.to a.from
  named_place ok a e =
      let t = names a e in
      record { admitted = ok; few_kinds = t.few_kinds; from_first = t.in_schedule.0; to_last = t.in_schedule.1; to_event = t.to_event; from_event = t.from_event }

  -- a window that is present is named
  pub present_named : (a : Four) → present s a ≡ true → named s.n s.positions a ≡ true
  present_named a e = (both (named s.n s.positions a) _ e).0

  -- the test of four numbers that are named is that of their window
  pub present_is : (a : Four) (r b : Bool) → r ≡ named s.n s.positions a → r ≡ true → b ≡ absent (limit_at s a) → not b ≡ present s a
  present_is a r b e f g = rw (sym e ∙ f, g)

  module _ (list : List ℕ) (k : ℕ) where
    -- THEOREM: a step whose window the sheet has stands where the four numbers name a window,
    pub present_step : present s (four_at list k) ≡ true → (c : Step) × Stands list k c × Valid s c
    present_step e =
        let a = four_at list k in
        let b = both (named s.n s.positions a) _ e in
        let t = names a b.0 in
        let kind = kind_of a.kind t.few_kinds in (
          record { kind = kind.0; position = a.position; to = a.to; from = a.from },
          record { kind = kind.1; position = refl; to = refl; from = refl },
          record {
            from_first = t.in_schedule.0;
            to_last = t.in_schedule.1;
            to_event = t.to_event;
            from_event = t.from_event;
            present = absent_some _ (ap (λ (x : ℕ). absent (limit_of s x a.position a.to a.from)) (sym kind.1) ∙ not-true _ b.1);
          },
        )

    module _ (c : Step) (stands : Stands list k c) (valid : Valid s c) where
      -- THEOREM: and where such a step stands they name one
      pub step_present : present s (four_at list k) ≡ true
      step_present =
          rw (stands.kind, stands.position, stands.to, stands.from)
          (yes (named s.n s.positions (record { kind = number c.kind; position = c.position; to = c.to; from = c.from })) _
          (yes _ (within s.n c.from)
          (yes _ (within s.n c.to)
          (yes (ltb (number c.kind) 4) (within s.positions c.position) (lt-ltb (number c.kind) 4 (omega (arith, number_small c.kind))) (within_yes s.positions c.position valid.from_first valid.to_last))
          (within_yes s.n c.to valid.to_event.0 valid.to_event.1))
          (within_yes s.n c.from valid.from_event.0 valid.from_event.1))
          (ap not (some_absent (limit s c) valid.present)))

      -- THEOREM: the arc in numbers is the step's
      pub edge_step : (p q : ℕ) → edge_in s p q list k ≡ weighed p q (step_arc s c)
      edge_step p q =
          let window : Window = record { kind = c.kind; to = c.to; from = c.from; w = limit s c } in
          rw (stands.kind, stands.position, stands.to, stands.from)
          (edge_is s p q (c.position - 1) (omega (arith, valid.from_first, valid.to_last)) window valid.to_event.0 valid.from_event.0
          ∙ ap (λ (h : ℕ). weighed p q (arc_of s h window)) (back c.position valid.from_first))
        where
          back : (h : ℕ) → 1 ≤ h → suc (h - 1) ≡ h
          back h some = omega arith

  -- a step's arc is within the limits
  pub record Small (p q : ℕ) (c : Step) : Type 0 where
    pub leaves : (step_arc s c).departure < nodes s
    pub rises : rise p q (step_arc s c) ≤ 2000000000
    pub falls : fall p q (step_arc s c) ≤ 2000000000

  pub step_small : Admitted s → (p q : ℕ) → p ≤ 1000000000 → q ≤ 1000 → (c : Step) → Valid s c → Small p q c
  step_small ok p q p_small q_small c valid =
      let laid = sheet_laid s ok in
      let a = step_arc s c in
      let m = valid_in s c valid in
      record {
        leaves = (laid.within a m).0;
        rises = bound q a.up p a.forth q_small (laid.ups_small a m) p_small (laid.forth_slots.one a m);
        falls = bound q a.down p a.back q_small (laid.downs_small a m) p_small (laid.back_slots.one a m);
      }
    where
      bound : (x y z t : ℕ) → x ≤ 1000 → y ≤ 1000000 → z ≤ 1000000000 → t ≤ 1 → x * y + z * t ≤ 2000000000
      bound x y z t h i j l = omega (arith, product x y 1000 1000000 h i, product z t 1000000000 1 j l)
        where
          product : (a b m n : ℕ) → a ≤ m → b ≤ n → a * b ≤ m * n
          product a b m n u v = mul-le-mul u v

-- what a line gives
pub ready : (line : Line) → Timely (lent line.sheet) line.time.top line.time.bottom 0
ready line = timely (lent line.sheet) line.time.top line.time.bottom 0 (rw (line.admitted, line.timed) refl)
