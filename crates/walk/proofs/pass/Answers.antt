-- `walk::pass` meets its contract: a record's step goes on from the boards as the records before it left them.
use Rattle.std.proofs.Common.{◌≡◌, ℕ, length, take, ap, ◌∙◌, refl, add-one}
use native.Mathlib.Nat.{le_antisymm}
use Rattle.layout.specs.Records.{listed}
use Rattle.turns.specs.Rounds.{named, raise, board, after, passed}
use Rattle.turns.proofs.Folds.{pass_none, pass_more, pass_all, able_same}
use Rattle.walk.proofs.pass.Goals as goal

pub loop-record-init : goal.loop-record-init
loop-record-init c = let a = c.args in pass_none a.old.now a.turn.at a.records.now 0 (board a.new.now a.row.now) refl

pub step-requires : goal.step-requires
step-requires c =
    let a = c.args in
    able_same (listed a.records.now c.loop-record.record-index) a.turn.at a.old.now a.new.now a.row.now c.loop-record.new c.loop-record.row (c.requires c.loop-record.record-index c.loop-record-test.true) c.loop-record.auto.new c.loop-record.auto.row

pub loop-record-preserved : goal.loop-record-preserved
loop-record-preserved c =
    let a = c.args in
    let i = c.loop-record.record-index in
    c.step.ensures
    ∙ ap (raise a.old.now (named (listed a.records.now i) a.turn.at)) c.loop-record.invariant
    ∙ rw add-one (pass_more a.old.now a.turn.at a.records.now i (board a.new.now a.row.now) c.loop-record-test.true)

pub returns : goal.returns
returns c =
    let a = c.args in
    let whole : c.loop-record.record-index ≡ length a.records.now = le_antisymm c.loop-record.auto.record-index-end c.loop-record-test.false in
    c.loop-record.invariant
    ∙ ap (λ (i : ℕ). after a.old.now (passed a.turn.at (take i a.records.now)) (board a.new.now a.row.now)) whole
    ∙ pass_all a.old.now a.turn.at a.records.now (board a.new.now a.row.now)
