-- `weights::weigh` meets its contract. The invariant: the total is the sums of the first k arcs, and small.
use mathlib.Core.Path.{◌≡◌, ap, ◌∙◌}
use native.Mathlib.Omega.{arith}
use native.Mathlib.Nat.{le_antisymm}
use Rattle.limits.specs.declared.Weight.{Weight}
use Rattle.weights.specs.Weights.{weight, weights_in, Light}
use Rattle.weights.proofs.Weighing.{weights_step, light_more}
use Rattle.weights.proofs.weigh.Goals as goal

-- nothing is light
light_none : (w : Weight) → w ≡ weight 0 0 0 0 → Light 0 w
light_none w e = rw e (omega arith, omega arith, omega arith, omega arith)

pub loop-k-init : goal.loop-k-init
unfolding weights_in
loop-k-init c = (c.sums-total.ensures, light_none c.sums-total.result c.sums-total.ensures)

pub four_at-arc-requires : goal.four_at-arc-requires
four_at-arc-requires c = omega (arith, c.requires.long)

pub weigh_arc-requires : goal.weigh_arc-requires
weigh_arc-requires c = rw c.four_at-arc.ensures (c.requires.each c.loop-k.k c.loop-k-test.true)

pub add-total-requires : goal.add-total-requires
add-total-requires c = let i = c.loop-k.invariant in
    let few = c.requires.few in
    let h = c.loop-k-test.true in
    ((omega (arith, i.1, few, h), omega (arith, i.1, few, h), omega (arith, i.1, few, h), omega (arith, i.1, few, h)), c.weigh_arc.ensures.light)

pub loop-k-preserved : goal.loop-k-preserved
loop-k-preserved c = let i = c.loop-k.invariant in (
  weights_step _ _ c.loop-k.k _ _ c.add-total.result i.0 (rw c.four_at-arc.ensures at c.weigh_arc.ensures.sums) c.add-total.ensures,
  light_more c.loop-k.k _ _ c.add-total.result i.1 c.weigh_arc.ensures.light c.add-total.ensures,
)

pub returns : goal.returns
returns c = let i = c.loop-k.invariant in
    let few = c.requires.few in
    let end : c.loop-k.k ≡ c.args.count = le_antisymm c.loop-k.auto.k-end c.loop-k-test.false in
    record { sums = i.0 ∙ ap (weights_in _ _) end; light = (omega (arith, i.1, few), omega (arith, i.1, few), omega (arith, i.1, few), omega (arith, i.1, few)) }
