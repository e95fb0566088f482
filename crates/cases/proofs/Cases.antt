-- The starred rows, and some without a star, follow from the definitions: a statement over each list, shown by a test that computes.
use mathlib.Core.Path.{refl}
use Rattle.theory.specs.Arcs.{most, table}
use Rattle.tables.specs.Sheets.{all, sized, scheduled, admitted, refusal}
use Rattle.windows.specs.Arcs.{windows, arcs}
use Rattle.cases.specs.Cases.{cases, unstarred, AllSay}
use Rattle.cases.proofs.Rows.{rows_say}

-- THEOREM: every starred row of "Sheets tried by hand" follows from the definitions
pub starred : AllSay cases
unfolding arcs windows table most refusal sized scheduled admitted all
starred = rows_say cases refl

-- THEOREM: and so do these without a star: times past their limits, and a chain that takes two rounds
pub others : AllSay unstarred
unfolding arcs windows table most refusal sized scheduled admitted all
others = rows_say unstarred refl
