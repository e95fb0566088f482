-- Where a position stands, and the arc of a record there.
use mathlib.Core.Path.{◌≡◌, refl}
use mathlib.Core.Bool.{Bool, true, false, cond}
use Prim.Native.Nat.{ℕ, ◌+◌, ◌*◌, ◌≤◌, ◌<◌}
use native.Mathlib.Omega.{arith}
use native.Mathlib.Nat.{mul-le-mul}
use lib.Dec.{eqb}
use Rattle.edges.specs.declared.Record.{Record}
use Rattle.edges.specs.declared.Site.{Site}
use Rattle.edges.specs.Edges.{edge_at, edge_of, site_of}

-- where a position stands is small
pub small : (g n : ℕ) → g ≤ 16 → n ≤ 12 → g * n ≤ 192
small g n h k = mul-le-mul h k

-- the places of a position and of the next, and what crossing costs, are small
pub record Stands (at : Site) (p q : ℕ) : Type 0 where
  pub here_small : at.here ≤ 192
  pub next_small : at.next ≤ 192
  pub cross_small : at.cross ≤ p
  pub same_q : at.q ≡ q

pub stands : (g n positions p q : ℕ) → g < positions → positions ≤ 16 → n ≤ 12 → Stands (site_of g n positions p q) p q
unfolding site_of
stands g n positions p q h k l = go (eqb (g + 1) positions)
  where
    go : (b : Bool) → Stands (cond {A = Site} b (record { here = g * n; next = 0; cross = p; q = q }) (record { here = g * n; next = (g + 1) * n; cross = 0; q = q })) p q
    go true = record { here_small = small g n (omega arith) l; next_small = omega arith; cross_small = omega arith; same_q = refl }
    go false = record { here_small = small g n (omega arith) l; next_small = small (g + 1) n (omega arith) l; cross_small = omega arith; same_q = refl }

-- the arc there, from where it stands
pub edge_there : (g n positions p q : ℕ) (a : Record) → let at = site_of g n positions p q in edge_of a at.q at.here at.next at.cross ≡ edge_at n positions p q g a
unfolding site_of edge_at
edge_there g n positions p q a = go (eqb (g + 1) positions)
  where
    go : (b : Bool) → let at = cond {A = Site} b (record { here = g * n; next = 0; cross = p; q = q }) (record { here = g * n; next = (g + 1) * n; cross = 0; q = q }) in
        edge_of a at.q at.here at.next at.cross ≡ cond b (edge_of a q (g * n) 0 p) (edge_of a q (g * n) ((g + 1) * n) 0)
    go true = refl
    go false = refl
