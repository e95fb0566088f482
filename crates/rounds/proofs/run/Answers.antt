-- The list is laid out, and the walk over it begins with table 0 in both tables.
use Prim.Native.Nat.{ℕ, ◌*◌, ◌≤◌}
use native.Mathlib.Omega.{arith}
use native.Mathlib.Nat.{mul-le-mul}
use lib.ListN.{length-replicate}
use Rattle.turns.proofs.Places.{nodes_small, repeated}
use Rattle.rounds.proofs.run.Goals as goal

turns_few : (N positions : ℕ) → N ≤ 192 → positions ≤ 16 → N * positions ≤ 3072
turns_few N positions h k = mul-le-mul h k

pub overflow_mul-left : goal.overflow_mul-left
overflow_mul-left c = let j = c.args.job.now in
    omega (arith, nodes_small j.sheet.n j.sheet.positions j.time.top j.posed.limits)

pub overflow_mul-left-2 : goal.overflow_mul-left-2
overflow_mul-left-2 c = let j = c.args.job.now in
    omega (arith, turns_few (j.sheet.positions * j.sheet.n) j.sheet.positions (nodes_small j.sheet.n j.sheet.positions j.time.top j.posed.limits) j.posed.limits.few_positions)

pub lay_out-requires : goal.lay_out-requires
lay_out-requires c = let z = c.args.job.now.posed.limits in (z.some_events, z.few_events, c.requires.0, c.requires.1)

pub walk-end-requires : goal.walk-end-requires
walk-end-requires c = (
  c.requires.2 c.lay_out.new.list c.lay_out.ensures,
  c.turn_at-begin.ensures,
  c.requires.3,
  repeated 0 192,
  length-replicate {A = ℕ} 192 0,
  c.requires.4,
)
