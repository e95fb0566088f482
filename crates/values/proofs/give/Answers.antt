-- A value that the list has no room for changes nothing.
use mathlib.Core.Path.{refl, sym, ◌∙◌}
use lib.ListN.{get_or}
use lib.Seq.{set_out}
use Rattle.values.proofs.Lists.{stores_more, stores_all}
use Rattle.values.proofs.give.Goals as goal
use Rattle.values.proofs.give.Goals.{then-is_inside, else-is_inside}

pub loop-k-init : goal.loop-k-init
loop-k-init c = refl

pub loop-k-preserved : goal.loop-k-preserved
loop-k-preserved c = let list = c.args.list.now in let k = c.loop-k.k in
    stores_more c.args.values.now list c.loop-k.values c.if-is_inside.values k c.loop-k-test.true c.loop-k.invariant
    (elim c.if-is_inside.branch [
      | then-is_inside r ↦ r.values-is
      | else-is_inside r ↦ r.values-is ∙ sym (set_out c.loop-k.values k (get_or list k 0) r.if-is_inside.false)
    ])

pub returns : goal.returns
returns c = record {
  numbered = refl;
  counted = refl;
  valued = stores_all c.args.values.now c.args.list.now _ c.loop-k.k c.loop-k.invariant c.loop-k-test.false;
}
