-- What a circuit's sums say of the climb. This definition faces the code; document 01 has only what the climb finds (theory/specs/Ends).
use Rattle.std.specs.Prelude.{◌-◌, ◌≤◌, ◌<◌}
use Rattle.theory.specs.Ends.{Reduces}
use Rattle.limits.specs.declared.Weight.{Weight}
use Rattle.limits.specs.declared.Climb.{Climb}
use Rattle.limits.specs.declared.Climb.TheVariants.{On, Alone, Both}

-- c below 0: on to W/(-c) in lowest terms. c at least 0: W above 0, or not.
abbrev pub Leads : Weight → Climb → Type 0
Leads w (On limit) = (w.forths < w.backs) × Reduces (w.ups - w.downs) (w.backs - w.forths) limit.top limit.bottom
Leads w Alone = (w.backs ≤ w.forths) × (w.downs < w.ups)
Leads w Both = (w.backs ≤ w.forths) × (w.ups ≤ w.downs)
