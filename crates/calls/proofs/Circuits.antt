-- A circuit in a lent buffer: its places hold the arcs' numbers, and all others what they held before.
use mathlib.Core.Path.{◌≡◌}
use mathlib.Core.List.{List}
use Prim.Native.Nat.{ℕ, ◌*◌, ◌≤◌}
use native.Mathlib.Omega.{arith}
use lib.ListN.{length, take, drop, length-append, length-drop}
use lib.Seq.{take_at, drop_at}
use Rattle.windows.specs.Circuits.{Step, numbers}
use Rattle.windows.proofs.Numbers.{numbers_length}
use Rattle.calls.specs.Circuits.{onto}

module _ (cs : List Step) (before : List ℕ) where
  -- THEOREM: the arcs' places hold their numbers
  pub onto_arcs : take (4 * length cs) (onto cs before) ≡ numbers cs
  onto_arcs = take_at (numbers cs) _ (4 * length cs) (numbers_length cs)

  -- THEOREM: "only the arcs' places are written": all places behind them are as before
  pub onto_rest : drop (4 * length cs) (onto cs before) ≡ drop (4 * length cs) before
  onto_rest = drop_at (numbers cs) _ (4 * length cs) (numbers_length cs)

  -- THEOREM: the buffer is as long as before
  pub onto_length : 4 * length cs ≤ length before → length (onto cs before) ≡ length before
  onto_length room = omega (arith, length-append (numbers cs) (drop (4 * length cs) before), numbers_length cs, length-drop (4 * length cs) before)
