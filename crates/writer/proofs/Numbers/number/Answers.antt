-- `writer::Numbers::number` meets its contract: no number has more than four groups.
use mathlib.Core.Path.{refl}
use Rattle.numbers.proofs.Writing.{few_groups}
use Rattle.writer.proofs.Runs.{run_one}
use native.Mathlib.Omega.{arith}
use Rattle.writer.proofs.Numbers.number.Goals as goal

pub overflow_add-self : goal.overflow_add-self
overflow_add-self c = omega (arith, c.put.ensures.0, (few_groups c.args.value).1, c.requires)

pub returns-clause-near : goal.returns-clause-near
returns-clause-near c = omega (arith, c.put.ensures.0, (few_groups c.args.value).1)

pub returns-clause-adds : goal.returns-clause-adds
returns-clause-adds c = let t = c.args.self.now in
    record { same_buffer = refl; wrote = run_one t.out.now t.at c.args.value _ _ c.put.ensures.0 c.put.ensures.1 }
