-- `tables::Sheet::admit` meets its contract: the three tests in their order, each resting on those before it.
use mathlib.Core.Path.{sym, ap, ◌∙◌}
use Prim.Native.Nat.{ℕ}
use native.Mathlib.Omega.{arith}
use lib.ListN.{take, length-take}
use lib.IntN.{ℤ}
use lib.Dec.{ltb}
use Rattle.std.specs.List.{list_all}
use Rattle.tables.specs.Lent.{lent}
use Rattle.tables.specs.Sheets.{scheduled, admits, admitted, places}
use Rattle.tables.proofs.Laws.{sizes, all_is, refused_4, refused_5, refused_6, refused_not}
use Rattle.tables.proofs.sheets.Sheet.admit.Goals as goal

pub returns-then-not-is_sized-clause-judged : goal.returns-then-not-is_sized-clause-judged
returns-then-not-is_sized-clause-judged c = refused_4 (lent c.args.self) (sym c.is_sized.ensures ∙ c.if-not-is_sized.true)

pub is_scheduled-requires : goal.is_scheduled-requires
is_scheduled-requires c = (sizes (lent c.args.self) (sym c.is_sized.ensures ∙ c.if-not-is_sized.false)).long_schedule

pub returns-then-not-is_scheduled-clause-judged : goal.returns-then-not-is_scheduled-clause-judged
unfolding scheduled
returns-then-not-is_scheduled-clause-judged c = let s = c.args.self in
    refused_5 (lent s) (sym c.is_sized.ensures ∙ c.if-not-is_sized.false) (sym (all_is (λ t. ltb t s.m) (take s.positions s.schedule.now)) ∙ sym c.is_scheduled.ensures ∙ c.if-not-is_scheduled.true)

pub places-requires : goal.places-requires
places-requires c = let z = sizes (lent c.args.self) (sym c.is_sized.ensures ∙ c.if-not-is_sized.false) in (z.few_events, z.few_modes)

pub slice_bounds-are_admitted-end : goal.slice_bounds-are_admitted-end
slice_bounds-are_admitted-end c = let z = sizes (lent c.args.self) (sym c.is_sized.ensures ∙ c.if-not-is_sized.false) in omega (arith, z.long_tables, length-take {A = ℤ})

pub returns-then-not-are_admitted-clause-judged : goal.returns-then-not-are_admitted-clause-judged
unfolding admitted scheduled
returns-then-not-are_admitted-clause-judged c = let s = c.args.self in
    refused_6 (lent s) (sym c.is_sized.ensures ∙ c.if-not-is_sized.false) (sym (all_is (λ t. ltb t s.m) (take s.positions s.schedule.now)) ∙ sym c.is_scheduled.ensures ∙ c.if-not-is_scheduled.false)
    (sym (all_is admits (take (places s.n s.m) s.tables.now)) ∙ ap (λ (k : ℕ). list_all admits (take k s.tables.now)) (sym c.places.ensures) ∙ sym c.are_admitted.ensures ∙ c.if-not-are_admitted.true)

pub invariant_of-result : goal.invariant_of-result
unfolding admitted scheduled
invariant_of-result c = let s = c.args.self in
    record {
      admitted = sym (refused_not (lent s) (sym c.is_sized.ensures ∙ c.if-not-is_sized.false) (sym (all_is (λ t. ltb t s.m) (take s.positions s.schedule.now)) ∙ sym c.is_scheduled.ensures ∙ c.if-not-is_scheduled.false)
          (sym (all_is admits (take (places s.n s.m) s.tables.now)) ∙ ap (λ (k : ℕ). list_all admits (take k s.tables.now)) (sym c.places.ensures) ∙ sym c.are_admitted.ensures ∙ c.if-not-are_admitted.false));
    }
