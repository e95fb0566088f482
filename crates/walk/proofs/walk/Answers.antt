-- `walk::walk` meets its contract: what a turn does to the state is `turns/proofs/Walking`; of `pass` and `next` only their contracts are known.
use Rattle.std.proofs.Common.{◌≡◌, ℕ, ◌<◌, length, sym, ◌∙◌, arith}
use mathlib.Core.List.{List}
use Rattle.edges.specs.declared.Record.{Record}
use Rattle.turns.specs.declared.jobs.Job.{Job}
use Rattle.turns.specs.declared.Turn.{Turn}
use Rattle.turns.specs.Rounds.{board, after, passed, Parts, Next}
use Rattle.turns.proofs.Walking.{part_of, Ready, State, state_none, ready, state_more}
use Rattle.walk.proofs.walk.Goals as goal

-- at a turn that is left, what the pass and the turn after it rest on
ready_turn : (l : List Record) (job : Job) (parts : Parts l job.sheet.n job.start job.sheet.schedule.now job.sheet.positions) (room : length l ≡ 4608) (t : Turn) (old new row : List ℕ) →
    ((parts : Parts l job.sheet.n job.start job.sheet.schedule.now job.sheet.positions) (room : length l ≡ 4608) → State l job parts room t old new row) → 0 < t.left → Ready l job t old new row
ready_turn l job parts room t old new row s more = ready l job parts room t old new row (s parts room) more

-- and what they leave is a state again, with fewer turns left
more : (l : List Record) (job : Job) (parts : Parts l job.sheet.n job.start job.sheet.schedule.now job.sheet.positions) (room : length l ≡ 4608) (t : Turn) (old new row : List ℕ) →
    (s : State l job parts room t old new row) → 0 < t.left → (new' row' : List ℕ) → board new' row' ≡ after old (passed t.at (part_of l t)) (board new row) →
    length new' ≡ length new → length row' ≡ length row → (t' : Turn) (old' : List ℕ) → Next t job old new' t' old' → State l job parts room t' old' new' row' × (t'.left < t.left)
more l job parts room t old new row s left new' row' passing ln lr t' old' next =
    state_more l job parts room t old new row s left new' row' passing (ln ∙ s.new_long) (lr ∙ s.row_long) t' old' next

pub loop-turn-init : goal.loop-turn-init
loop-turn-init c = λ parts room.
    let a = c.args in
    let r = c.requires in
    state_none a.list.now a.job.now parts room a.begin a.old.now a.new.now a.row.now r.1 r.2 r.3 r.4 r.5

pub offset_bounds-list-turn : goal.offset_bounds-list-turn
offset_bounds-list-turn c =
    let r = ready_turn c.args.list.now c.args.job.now c.requires.0 c.told-list c.loop-turn.turn c.loop-turn.old c.loop-turn.new c.loop-turn.row c.loop-turn.invariant c.loop-turn-test.true in
    omega (arith, r.part_in, r.part_below, c.told-list)

pub slice_bounds-pass-count : goal.slice_bounds-pass-count
slice_bounds-pass-count c =
    let r = ready_turn c.args.list.now c.args.job.now c.requires.0 c.told-list c.loop-turn.turn c.loop-turn.old c.loop-turn.new c.loop-turn.row c.loop-turn.invariant c.loop-turn-test.true in
    r.part_in

pub slice_bounds-pass-start : goal.slice_bounds-pass-start
slice_bounds-pass-start c =
    let r = ready_turn c.args.list.now c.args.job.now c.requires.0 c.told-list c.loop-turn.turn c.loop-turn.old c.loop-turn.new c.loop-turn.row c.loop-turn.invariant c.loop-turn-test.true in
    r.part_in

pub slice_bounds-pass-end : goal.slice_bounds-pass-end
slice_bounds-pass-end c =
    let r = ready_turn c.args.list.now c.args.job.now c.requires.0 c.told-list c.loop-turn.turn c.loop-turn.old c.loop-turn.new c.loop-turn.row c.loop-turn.invariant c.loop-turn-test.true in
    omega (arith, r.part_below, c.told-list)

pub pass-requires : goal.pass-requires
pass-requires c =
    let r = ready_turn c.args.list.now c.args.job.now c.requires.0 c.told-list c.loop-turn.turn c.loop-turn.old c.loop-turn.new c.loop-turn.row c.loop-turn.invariant c.loop-turn-test.true in
    r.able

pub next-turn-requires : goal.next-turn-requires
next-turn-requires c =
    let r = ready_turn c.args.list.now c.args.job.now c.requires.0 c.told-list c.loop-turn.turn c.loop-turn.old c.loop-turn.new c.loop-turn.row c.loop-turn.invariant c.loop-turn-test.true in
    let s = c.loop-turn.invariant c.requires.0 c.told-list in
    (c.loop-turn-test.true, r.here, r.round, c.pass.auto.new ∙ s.new_long ∙ sym s.old_long, omega (arith, s.old_long))

pub loop-turn-preserved : goal.loop-turn-preserved
loop-turn-preserved c = λ parts room.
    (more c.args.list.now c.args.job.now parts room c.loop-turn.turn c.loop-turn.old c.loop-turn.new c.loop-turn.row (c.loop-turn.invariant parts room) c.loop-turn-test.true
    c.pass.new.new c.pass.new.row c.pass.ensures c.pass.auto.new c.pass.auto.row c.next-turn.result c.next-turn.new.old c.next-turn.ensures).0

pub loop-turn-smaller : goal.loop-turn-smaller
loop-turn-smaller c =
    (more c.args.list.now c.args.job.now c.requires.0 c.told-list c.loop-turn.turn c.loop-turn.old c.loop-turn.new c.loop-turn.row (c.loop-turn.invariant c.requires.0 c.told-list) c.loop-turn-test.true
    c.pass.new.new c.pass.new.row c.pass.ensures c.pass.auto.new c.pass.auto.row c.next-turn.result c.next-turn.new.old c.next-turn.ensures).1

pub returns : goal.returns
returns c =
    let s = c.loop-turn.invariant c.requires.0 c.told-list in
    s.over (omega (arith, c.loop-turn-test.false))
