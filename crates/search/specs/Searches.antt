-- What each step of the search promises, as the code hands it on. Every buffer of the work's own has room for 192 arcs.
use Rattle.std.specs.Prelude.{◌≡◌, ◌⊎◌, List, ℕ, ◌-◌, ◌*◌, ◌≤◌, ◌<◌, length, Option, None, Some, Result, Ok, Err}
use Rattle.theory.specs.Arcs.{Works}
use Rattle.theory.specs.Ends.{Reduces}
use Rattle.tables.specs.Sheets.{Sheet}
use Rattle.windows.specs.Arcs.{arcs}
use Rattle.ask.specs.declared.Asked.{Asked}
use Rattle.ask.specs.declared.Asked.TheVariants as asked
use Rattle.limits.specs.declared.Weight.{Weight}
use Rattle.weights.specs.Weights.{weights_in}
use Rattle.search.specs.declared.Stand.{Stand}
use Rattle.search.specs.declared.Above.{Above}
use Rattle.search.specs.declared.NoTime.{NoTime}
use Rattle.search.specs.Copies.{copied}
use Rattle.search.specs.Climbs.{Beats, Over, LowHeld, HighHeld, NoneHeld}

-- of an admitted sheet: a cycle time within Ask's limits, and room for a circuit
pub record Ready (at : Stand) (found : List ℕ) : Type 0 where
  pub some : 1 ≤ at.time.bottom
  pub few : at.time.bottom ≤ 1000
  pub small : at.time.top ≤ 1000000000
  pub room : length found ≡ 768

-- what Ask then answers: it works, or the circuit in the buffer is above zero
abbrev pub Asks : Sheet → Stand → Asked → List ℕ → Type 0
Asks s at (asked.Accepted rounds) found = Works (arcs s) at.time.top at.time.bottom × (length found ≡ 768)
Asks s at (asked.Refuted count) found = Beats s at.time.top at.time.bottom found count × (length found ≡ 768)

-- what is found there: it works, or the circuit in the buffer is above zero, with its sums
abbrev pub Judged : Sheet → Stand → Option Above → List ℕ → Type 0
Judged s at None found = Works (arcs s) at.time.top at.time.bottom × (length found ≡ 768)
Judged s at (Some a) found = Beats s at.time.top at.time.bottom found a.arcs × (a.weight ≡ weights_in s found a.arcs) × (length found ≡ 768)

-- a circuit of c below 0 that is above zero somewhere has W at least 0
abbrev pub Gains : Weight → Type 0
Gains w = w.forths < w.backs → w.downs ≤ w.ups

-- on to its limit, with the circuit found in `low`; or nothing works, as it shows alone, in `low`, or with the one before
abbrev pub Rises : Weight → ℕ → List ℕ → ℕ → List ℕ → Result Stand NoTime → List ℕ → Type 0
Rises w before found count low₀ (Ok next) low =
    (next.arcs ≡ count) × (w.forths < w.backs) × Reduces (w.ups - w.downs) (w.backs - w.forths) next.time.top next.time.bottom × (low ≡ copied found (4 * count) low₀)
Rises w before found count low₀ (Err none) low =
    (w.backs ≤ w.forths)
    × (((w.downs < w.ups) × (none.first ≡ count) × (none.second ≡ 0) × (low ≡ copied found (4 * count) low₀)) ⊎ ((w.ups ≤ w.downs) × (none.first ≡ before) × (none.second ≡ count) × (low ≡ low₀)))

-- a circuit that is above zero over what works has c above 0 and W at most 0
abbrev pub Turns : Weight → Type 0
Turns w = (w.backs < w.forths) × (w.ups ≤ w.downs)

-- to its limit, with the circuit found in `high`
abbrev pub Falls : Weight → List ℕ → ℕ → List ℕ → Stand → List ℕ → Type 0
Falls w found count high₀ next high = (next.arcs ≡ count) × Reduces (w.downs - w.ups) (w.forths - w.backs) next.time.top next.time.bottom × (high ≡ copied found (4 * count) high₀)

-- the climb stands at a cycle time, with its circuit in `low`
pub record LowStands (s : Sheet) (at : Stand) (low found : List ℕ) : Type 0 where
  pub held : LowHeld s low at.time.top at.time.bottom at.arcs
  pub low_room : length low ≡ 768
  pub found_room : length found ≡ 768

-- before the climb of an admitted sheet: two buffers
pub record Starting (low found : List ℕ) : Type 0 where
  pub low_room : length low ≡ 768
  pub found_room : length found ≡ 768

-- after it
abbrev pub Climbs : Sheet → Result Stand NoTime → List ℕ → List ℕ → Type 0
Climbs s (Ok at) low found = Works (arcs s) at.time.top at.time.bottom × LowStands s at low found
Climbs s (Err none) low found = NoneHeld s low none.first found none.second × (length low ≡ 768) × (length found ≡ 768)

-- something works at or below where the descent stands, and Ask may be asked there
pub record Hangs (s : Sheet) (at : Stand) (high found : List ℕ) : Type 0 where
  pub ready : Ready at found
  pub over : Over s at.time.top at.time.bottom
  pub high_room : length high ≡ 768

-- the descent stands at a circuit's limit
pub record HighStands (s : Sheet) (at : Stand) (high found : List ℕ) : Type 0 where
  pub hangs : Hangs s at high found
  pub held : HighHeld s high at.time.top at.time.bottom at.arcs

-- and rests where it works
pub record Rests (s : Sheet) (at : Stand) (high found : List ℕ) : Type 0 where
  pub works : Works (arcs s) at.time.top at.time.bottom
  pub held : HighHeld s high at.time.top at.time.bottom at.arcs
  pub high_room : length high ≡ 768
  pub found_room : length found ≡ 768

-- before the descent: what works is known, and small
pub record Overhead (s : Sheet) (low : Stand) (high found : List ℕ) : Type 0 where
  pub positive : 0 < low.time.bottom
  pub small : low.time.top ≤ 192000000
  pub works : Works (arcs s) low.time.top low.time.bottom
  pub high_room : length high ≡ 768
  pub found_room : length found ≡ 768

-- after it: 192,000,001 works, which is above every limit, or the highest cycle time is found
abbrev pub Descends : Sheet → Option Stand → List ℕ → List ℕ → Type 0
Descends s None high found = Works (arcs s) 192000001 1
Descends s (Some at) high found = Rests s at high found
