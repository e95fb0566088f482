-- `records::clear` meets its contract: what is filled is the part as far as it reaches.
use Rattle.records.proofs.Clearing.{cleared}
use Rattle.tables.specs.Sheets.{no_window}
use mathlib.Core.Path.{◌≡◌, ap, ◌∙◌}
use mathlib.Core.List.{List, ◌++◌}
use native.Mathlib.Omega.{arith}
use Prim.Native.Nat.{ℕ}
use lib.ListN.{drop, replicate, length, take}
use lib.IntN.{ℤ}
use Rattle.std.proofs.Common.{length-take-le}
use Rattle.records.proofs.clear.Goals as goal

pub returns : goal.returns
returns c = let a = c.args in
    let filled : c.fill.new.self ≡ replicate (length (take c.min-end.result a.part.now)) no_window = c.fill.ensures.after (λ y e. e) in
    ap (λ (l : List ℤ). l ++ drop c.min-end.result a.part.now) (filled ∙ ap (λ (k : ℕ). replicate k no_window) (length-take-le c.min-end.result a.part.now (omega (arith, c.min-end.ensures))))
    ∙ cleared no_window a.size a.part.now c.min-end.result c.min-end.ensures
