-- `weights::weigh_arc` meets its contract: the parts of the limit and the crossing are those of the arc, whatever its kind.
use mathlib.Core.Path.{ap, ◌∙◌}
use native.Mathlib.Omega.{arith}
use Rattle.windows.specs.Arcs.{up, down}
use Rattle.numbers.proofs.Signs.{passed}
use Rattle.weights.proofs.Weighing.{kind_same, light_kind}
use Rattle.weights.proofs.weigh_arc.Goals as goal

pub returns : goal.returns
returns c = let u = c.upper-up.ensures in
    let d = c.lower-down.ensures in
    let x = c.crossing-crosses.ensures in
    let l = c.limit-value in
    let value = passed l.result l.type_inv ∙ l.ensures in
    record {
      sums = kind_same _ _ _ _ _ _ _ _ c.by_kind.ensures (u.0 ∙ ap up value) (d.0 ∙ ap down value) x.0;
      light = light_kind c.args.arc.kind _ _ _ _ c.by_kind.ensures (omega (arith, u.1)) (omega (arith, d.1)) x.1;
    }
