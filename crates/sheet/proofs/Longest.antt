-- "The longest sheet has 27,684 bytes": no admitted sheet has more, and one has as many.
use mathlib.Core.Path.{◌≡◌, refl, sym, ap, subst, ◌∙◌}
use mathlib.Core.Bool.{true}
use mathlib.Core.List.{List, [], ◌∷◌, ◌++◌}
use Prim.Native.Nat.{ℕ, zero, suc, ◌+◌, ◌*◌, ◌/◌, ◌%◌, ◌≤◌, ◌<◌}
use native.Mathlib.Omega.{arith}
use native.Mathlib.Decide.{dec_lt}
use borrow.Author.Tests.{ltb-true}
use lib.IntN.{ℤ, pos}
use lib.Dec.{ltb}
use lib.ListN.{length, take, drop, replicate, length-append}
use lib.Seq.{length-take-le}
use Rattle.numbers.specs.Groups.{groups, grouped}
use Rattle.numbers.specs.Signs.{encoded}
use Rattle.numbers.proofs.Writing.{size_one, size_two, size_three}
use Rattle.tables.specs.Sheets.{Sheet, sheet, admits, all, sized, scheduled, admitted, refusal}
use Rattle.tables.proofs.Laws.{both, accepted, passes}
use Rattle.sheet.specs.File.{Placed}
use Rattle.sheet.specs.Written.{in_groups, cell, placed_of, records, mode_numbers, modes_numbers, sheet_numbers, written}
use Rattle.sheet.proofs.Places.{fit_of}
use Rattle.sheet.proofs.Windows.{few, Good}
use Rattle.sheet.proofs.Parts.{windows_few, good_windows}
use Rattle.sheet.proofs.Groups.{in_groups_append}
use Rattle.sheet.proofs.Sheets.{places_are}
use Rattle.sheet.proofs.There.{limit_code, all_both, first_long, others_long, parted}

-- ---- the size of a number
pub two_at_most : (v : ℕ) → v < 16384 → length (groups v) ≤ 2
two_at_most v h = elim (dec_lt v 128) [
  | yes a ↦ let e = size_one v a in omega arith
  | no a ↦ let e = size_two v (omega arith) h in omega arith
]

pub three_at_most : (v : ℕ) → v < 2097152 → length (groups v) ≤ 3
three_at_most v h = elim (dec_lt v 16384) [
  | yes a ↦ let e = two_at_most v a in omega arith
  | no a ↦ let e = size_three v (omega arith) h in omega arith
]

cons_size : (v : ℕ) (rest : List ℕ) → length (in_groups (v ∷ rest)) ≡ length (groups v) + length (in_groups rest)
unfolding in_groups
cons_size v rest = length-append (groups v) (in_groups rest)

append_size : (a b : List ℕ) → length (in_groups (a ++ b)) ≡ length (in_groups a) + length (in_groups b)
append_size a b = ap length (in_groups_append a b) ∙ length-append (in_groups a) (in_groups b)

-- ---- six bytes a record
records_size : (n low : ℕ) (windows : List Placed) → 0 < n → n ≤ 12 → Good (4 * (n * n)) low windows → length (in_groups (records n windows)) ≤ 6 * length windows
unfolding records Good in_groups
records_size n low [] h g f = omega arith
records_size n low (w ∷ rest) h g f =
    let k = fit_of n w.place h f.1 in
    let a = size_one (w.place / (n * n)) (omega (arith, k.kinds)) in
    let b = size_one (w.place / n % n + 1) (omega (arith, k.few_to)) in
    let c = size_one (w.place % n + 1) (omega (arith, k.few_from)) in
    let d = three_at_most (encoded w.limit) (omega (arith, limit_code w.limit f.2)) in
    let i = records_size n (w.place + 1) rest h g f.3 in
    omega (
      arith,
      a,
      b,
      c,
      d,
      i,
      cons_size (w.place / (n * n)) ((w.place / n % n + 1) ∷ (w.place % n + 1) ∷ encoded w.limit ∷ records n rest),
      cons_size (w.place / n % n + 1) ((w.place % n + 1) ∷ encoded w.limit ∷ records n rest),
      cons_size (w.place % n + 1) (encoded w.limit ∷ records n rest),
      cons_size (encoded w.limit) (records n rest),
    )

-- 3,458 bytes a mode
mode_size : (n : ℕ) (part : List ℤ) → 0 < n → n ≤ 12 → length part ≡ 4 * (n * n) → all admits part ≡ true → length (in_groups (mode_numbers n part)) ≤ 3458
unfolding mode_numbers
mode_size n part h g e q =
    let s = few n g in
    let l = windows_few 0 part in
    let r = records_size n 0 (placed_of 0 part) h g (good_windows (4 * (n * n)) 0 part (omega arith) q) in
    let c = two_at_most (length (placed_of 0 part)) (omega arith) in
    omega (arith, cons_size (length (placed_of 0 part)) (records n (placed_of 0 part)))

modes_size : (n m : ℕ) (tables : List ℤ) → 0 < n → n ≤ 12 → m * (4 * (n * n)) ≤ length tables → all admits (take (m * (4 * (n * n))) tables) ≡ true → length (in_groups (modes_numbers n m tables)) ≤ 3458 * m
unfolding modes_numbers in_groups
modes_size n zero tables h g l q = omega arith
modes_size n (suc m) tables h g l q =
    let p = take (4 * (n * n)) tables in
    let r = drop (4 * (n * n)) tables in
    let b = all_both admits p (take (m * (4 * (n * n))) r) (subst (λ (x : List ℤ). all admits x ≡ true) (parted tables n m l) q) in
    omega (arith, append_size (mode_numbers n p) (modes_numbers n m r), mode_size n p h g (first_long tables n m l) b.0, modes_size n m r h g (others_long tables n m l) b.1)

-- one byte a position
schedule_size : (m : ℕ) (schedule : List ℕ) → m ≤ 8 → all (λ t. ltb t m) schedule ≡ true → length (in_groups schedule) ≤ length schedule
unfolding all in_groups
schedule_size m [] g q = omega arith
schedule_size m (t ∷ rest) g q =
    let b = both (ltb t m) (all (λ t. ltb t m) rest) q in
    let l = ltb-true t m b.0 in
    let o = size_one t (omega arith) in
    omega (arith, cons_size t rest, schedule_size m rest g b.1)

-- THEOREM: no admitted sheet has more than 27,684 bytes
pub longest : (s : Sheet) → refusal s ≡ 0 → length (written s) ≤ 27684
unfolding refusal scheduled admitted written sheet_numbers
longest s e =
    let z = (accepted s e).size in
    let p = passes (sized s) (scheduled s) (admitted s) e in
    let schedule = take s.positions s.schedule in
    let numbers = modes_numbers s.n s.m s.tables in
    let a = size_one 1 (omega arith) in
    let b = size_one s.n (omega (arith, z.few_events)) in
    let c = size_one s.m (omega (arith, z.few_modes)) in
    let d = size_one s.positions (omega (arith, z.few_positions)) in
    let v = schedule_size s.m schedule z.few_modes p.1 in
    let l = length-take-le s.positions s.schedule z.long_schedule in
    let q = places_are s.n s.m in
    let t = modes_size s.n s.m s.tables z.some_events z.few_events (omega (arith, z.long_tables)) (subst (λ (j : ℕ). all admits (take j s.tables) ≡ true) (sym q) p.2) in
    omega (
      arith,
      z.few_modes,
      z.few_positions,
      append_size (1 ∷ s.n ∷ s.m ∷ s.positions ∷ schedule) numbers,
      cons_size 1 (s.n ∷ s.m ∷ s.positions ∷ schedule),
      cons_size s.n (s.m ∷ s.positions ∷ schedule),
      cons_size s.m (s.positions ∷ schedule),
      cons_size s.positions schedule,
    )

-- the sheet with every window there is, each at 1,000,000
unfoldable full : Sheet
full = sheet 12 8 16 (replicate 4608 (pos 1000000)) (replicate 16 0)

full_admitted : refusal full ≡ 0
unfolding full refusal sized scheduled admitted all
full_admitted = refl

full_bytes : length (written full) ≡ 27684
unfolding full written sheet_numbers modes_numbers mode_numbers records placed_of cell in_groups grouped
full_bytes = refl

-- THEOREM: and an admitted sheet has as many
pub full_long : (s : Sheet) × (refusal s ≡ 0) × (length (written s) ≡ 27684)
full_long = (full, full_admitted, full_bytes)
