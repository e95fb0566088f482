-- `weights::by_kind` meets its contract, kind by kind; a number past 3 is no kind.
use mathlib.Core.Path.{◌∙◌}
use native.Mathlib.Omega.{arith}
use Rattle.weights.proofs.Weighing.{kind_0, kind_1, kind_2, kind_3, kind_past}
use Rattle.weights.proofs.by_kind.Goals as goal

pub returns-in-0 : goal.returns-in-0
returns-in-0 c = c.sums.ensures ∙ kind_0 _ _ _ _ c.in-0.is

pub returns-in-1 : goal.returns-in-1
returns-in-1 c = c.sums-in-1.ensures ∙ kind_1 _ _ _ _ c.in-1.is

pub returns-in-2 : goal.returns-in-2
returns-in-2 c = c.sums-in-2.ensures ∙ kind_2 _ _ _ _ c.in-2.is

pub returns-in-3 : goal.returns-in-3
returns-in-3 c = c.sums-in-3.ensures ∙ kind_3 _ _ _ _ c.in-3.is

pub returns-in-4-to-255 : goal.returns-in-4-to-255
returns-in-4-to-255 c = c.sums-in-4-to-255.ensures ∙ kind_past _ _ _ _ (omega arith)
