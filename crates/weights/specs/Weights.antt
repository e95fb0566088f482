-- A circuit's sums, as the code adds them up: "a circuit's total with q = 1 is W + c·(cycle time)". W is ups - downs, c is forths - backs.
-- These definitions face the code: they speak of the four numbers of each arc, whatever these are. proofs/Held ties them to a circuit's arcs.
use Rattle.std.specs.Prelude.{ℕ, zero, suc, ◌+◌, ◌*◌, ◌/◌, ◌≤◌, ◌<◌, List, length, get_or}
use Rattle.tables.specs.Sheets.{Sheet}
use Rattle.windows.specs.Arcs.{up, down}
use Rattle.edges.specs.Naming.{limit_of, NamesPlace}
use Rattle.limits.specs.declared.Weight.{Weight}

-- four sums
abbrev pub weight : ℕ → ℕ → ℕ → ℕ → Weight
weight u d f b = record { ups = u; downs = d; forths = f; backs = b }

-- "Weights: q·w for 0, -q·w for 1, q·w for 2, -q·w for 3. Where the window crosses the period end (position V), kind 2 loses p and kind 3
-- gains p": by the number of the kind, from the parts of the limit and the crossing. A number past 3 is no kind, and adds nothing.
unfoldable pub kind_weight : ℕ → ℕ → ℕ → ℕ → Weight
kind_weight zero u d c = weight u d 0 0
kind_weight (suc zero) u d c = weight d u 0 0
kind_weight (suc (suc zero)) u d c = weight u d 0 c
kind_weight (suc (suc (suc zero))) u d c = weight d u c 0
kind_weight (suc (suc (suc (suc k)))) u d c = weight 0 0 0 0

-- what the arc of four numbers adds
abbrev pub weight_of : Sheet → ℕ → ℕ → ℕ → ℕ → Weight
weight_of s kind position to from = let w = limit_of s kind position to from in kind_weight kind (up w) (down w) (position / s.positions)

-- what the arc at k of a buffer adds
abbrev pub weight_at : Sheet → List ℕ → ℕ → Weight
weight_at s circuit k = weight_of s (get_or circuit (4 * k) 0) (get_or circuit (4 * k + 1) 0) (get_or circuit (4 * k + 2) 0) (get_or circuit (4 * k + 3) 0)

-- the sums of two lists of arcs together
abbrev pub plus : Weight → Weight → Weight
plus a b = weight (a.ups + b.ups) (a.downs + b.downs) (a.forths + b.forths) (a.backs + b.backs)

-- the sums of the first arcs of a buffer
unfoldable pub weights_in : Sheet → List ℕ → ℕ → Weight
weights_in s circuit zero = weight 0 0 0 0
weights_in s circuit (suc k) = plus (weights_in s circuit k) (weight_at s circuit k)

-- the sums of k arcs are small
abbrev pub Light : ℕ → Weight → Type 0
Light k w = (w.ups ≤ k * 2147483648) × (w.downs ≤ k * 2147483648) × (w.forths ≤ k) × (w.backs ≤ k)

-- the four numbers of the arc at k of a buffer name a place of the tables
abbrev pub NamesAt : Sheet → List ℕ → ℕ → Type 0
NamesAt s circuit k = NamesPlace s (get_or circuit (4 * k) 0) (get_or circuit (4 * k + 1) 0) (get_or circuit (4 * k + 2) 0) (get_or circuit (4 * k + 3) 0)

-- and those of all its first arcs
pub record Lists (s : Sheet) (circuit : List ℕ) (count : ℕ) : Type 0 where
  pub long : 4 * count ≤ length circuit
  pub few : count ≤ 192
  pub each : (k : ℕ) → k < count → NamesAt s circuit k
