-- The arc of a record at a position, in the code's own numbers (document 01, "Arcs"). These definitions face the code;
-- proofs/Edges ties them to the arcs of a sheet.
use Rattle.std.specs.Prelude.{cond, ℕ, zero, suc, ◌+◌, ◌-◌, ◌*◌, ◌/◌, ◌%◌, eqb, ℤ}
use Rattle.windows.specs.Arcs.{up, down}
use Rattle.edges.specs.declared.Edge.{Edge}
use Rattle.edges.specs.declared.Record.{Record}
use Rattle.edges.specs.declared.Site.{Site}

-- the record of the place k of a mode's part of the tables, where the limit w stands
abbrev pub from_place : ℕ → ℕ → ℤ → Record
from_place n k w = record { kind = k / (n * n); to = k / n % n + 1; from = k % n + 1; w = w }

-- from departure to arrival, with the weight rise - fall
abbrev pub edge : ℕ → ℕ → ℕ → ℕ → Edge
edge d a u w = record { departure = d; arrival = a; rise = u; fall = w }

-- The events of the record's position stand from `here` on in a buffer of times, those of the next position from `next` on. Crossing
-- from the one to the next costs `cross`: p at position V, else 0. Kinds 0 to 3 as in document 01; a number past 3 asks nothing.
unfoldable pub by_kind : ℕ → Record → ℕ → ℕ → ℕ → ℕ → Edge
by_kind zero a q here next cross = edge (here + a.from - 1) (here + a.to - 1) (q * up a.w) (q * down a.w)
by_kind (suc zero) a q here next cross = edge (here + a.to - 1) (here + a.from - 1) (q * down a.w) (q * up a.w)
by_kind (suc (suc zero)) a q here next cross = edge (here + a.from - 1) (next + a.to - 1) (q * up a.w) (q * down a.w + cross)
by_kind (suc (suc (suc zero))) a q here next cross = edge (next + a.to - 1) (here + a.from - 1) (q * down a.w + cross) (q * up a.w)
by_kind (suc (suc (suc (suc k)))) a q here next cross = edge 0 0 0 0

-- the arc of a record, by its kind
abbrev pub edge_of : Record → ℕ → ℕ → ℕ → ℕ → Edge
edge_of a q here next cross = by_kind a.kind a q here next cross

-- the arc of a record at the position g + 1, of `positions`: after the last position comes the first again, a cycle time later
unfoldable pub edge_at : ℕ → ℕ → ℕ → ℕ → ℕ → Record → Edge
edge_at n positions p q g a = cond (eqb (g + 1) positions) (edge_of a q (g * n) 0 p) (edge_of a q (g * n) ((g + 1) * n) 0)

-- The position g + 1 of V: where its events and those of the next position stand, what crossing costs, and how many steps a unit of time
-- has.
unfoldable pub site_of : ℕ → ℕ → ℕ → ℕ → ℕ → Site
site_of g n positions p q =
    cond (eqb (g + 1) positions) (record { here = g * n; next = 0; cross = p; q = q }) (record { here = g * n; next = (g + 1) * n; cross = 0; q = q })
