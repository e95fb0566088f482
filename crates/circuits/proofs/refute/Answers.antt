-- A node is met again, the way round it is sound, and it is written from its smallest node on.
use mathlib.Core.Path.{subst}
use mathlib.Core.Bool.{Bool, false}
use native.Mathlib.Omega.{arith}
use lib.ListN.{length-replicate}
use Rattle.turns.proofs.Places.{repeated}
use Rattle.circuits.specs.Ways.{Sound}
use Rattle.circuits.proofs.Ways.{met_sound, sound_on, round_few, traced}
use Rattle.circuits.proofs.refute.Goals as goal

pub meet-u-requires : goal.meet-u-requires
meet-u-requires c = (c.requires.0, record { room = omega (arith, c.requires.0.rowed.few, length-replicate {A = Bool} 192 false); none = repeated false 192 })

pub go_round-ring-requires : goal.go_round-ring-requires
go_round-ring-requires c = let a = c.args in let t = c.meet-u.ensures in
    (met_sound a.marks.now.row.now a.marks.now.n a.marks.now.positions c.meet-u.result a.v c.requires.0 t, (t.count, omega (arith, t.within), t.returns))

pub write-requires : goal.write-requires
write-requires c = let a = c.args in let t = c.meet-u.ensures in let r = c.go_round-ring.ensures in
    let few = round_few a.marks.now.row.now a.marks.now.n a.marks.now.positions a.v c.meet-u.result c.go_round-ring.result.least c.go_round-ring.result.count t r in (
      subst (Sound a.marks.now.row.now a.marks.now.n a.marks.now.positions) r.there (sound_on a.marks.now.row.now a.marks.now.n a.marks.now.positions c.meet-u.result (met_sound a.marks.now.row.now a.marks.now.n a.marks.now.positions c.meet-u.result a.v c.requires.0 t) r.at),
      omega (arith, few, c.requires.0.rowed.few),
      omega (arith, few, c.requires.1),
    )

pub returns : goal.returns
returns c = let a = c.args in
    traced a.marks.now.row.now a.marks.now.n a.marks.now.positions a.v c.meet-u.result c.go_round-ring.result.least c.go_round-ring.result.count c.meet-u.ensures c.go_round-ring.ensures a.circuit.now _ c.write.ensures
