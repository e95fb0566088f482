-- A report is short: "No plan time exceeds 382,000,000,000", and an arc's four numbers have seven digits at most. So every text has room.
use mathlib.Core.Path.{◌≡◌, refl, sym, ap, subst}
use mathlib.Core.Logic.{inl, inr}
use mathlib.Core.List.{List, [], ◌∷◌, ◌++◌, map}
use Prim.Native.Nat.{ℕ, zero, suc, ◌+◌, ◌*◌, ◌≤◌, ◌<◌}
use native.Mathlib.Omega.{arith}
use lib.ListN.{get_or, length, length-append, length-map}
use Rattle.text.specs.Text.{decimal}
use Rattle.text.proofs.Values.{tens, decimal_most, decimal_few}
use Rattle.theory.specs.Ends.{High, open_end, up_to}
use Rattle.theory.specs.Arcs.{Rounds}
use Rattle.theory.proofs.Turning.{map_append}
use Rattle.tables.specs.Sheets.{Sheet, refusal}
use Rattle.tables.specs.Admitted.{Sizes, Admitted}
use Rattle.tables.proofs.Laws.{accepted}
use Rattle.sheet.specs.File.{Part}
use Rattle.sheet.specs.File as file
use Rattle.windows.specs.Windows.{number}
use Rattle.windows.specs.Arcs.{node, nodes, one_to, each, arcs}
use Rattle.windows.specs.Circuits.{Step, Valid, AllValid}
use Rattle.windows.proofs.Laying.{node_inside}
use Rattle.windows.proofs.Limits.{number_small, nodes_few}
use Rattle.windows.proofs.Listed.{each_more}
use Rattle.calls.specs.Ask.{Earliest}
use Rattle.calls.proofs.Ask.Bounds.{plan_small}
use Rattle.calls.specs.Circuits.{CircuitOrNone}
use Rattle.lines.specs.Lines.{low_word, high_word, first_word, second_word, refused_word, none_word, ends_word, plan_word, following, line, fraction, high_spelled, arc_line, circuit_lines, high_lines, numbers_line, times_at, plan_lines}
use Rattle.telling.specs.Tells.{TellsEnds, TellsNone, Tells}
use Rattle.report.specs.Report.{room}
use Rattle.lines.proofs.Lengths.{line_one, line_two, line_three, line_four, fraction_most, high_most, following_length}
use Rattle.telling.proofs.Telling.{few_192, low_askable}

-- ---- the lines of a circuit

module _ (s : Sheet) (admitted : refusal s ≡ 0) where
  ok : Admitted s
  ok = accepted s admitted

  arc_short : (c : Step) → Valid s c → length (arc_line c) ≤ 11
  unfolding tens
  arc_short c v =
      omega (
        arith,
        line_four (decimal (number c.kind)) (decimal c.position) (decimal c.to) (decimal c.from),
        decimal_few 0 (number c.kind) (omega (arith, number_small c.kind)),
        decimal_few 1 c.position (omega (arith, v.to_last, ok.size.few_positions)),
        decimal_few 1 c.to (omega (arith, v.to_event.1, ok.size.few_events)),
        decimal_few 1 c.from (omega (arith, v.from_event.1, ok.size.few_events)),
      )

  arcs_short : (cs : List Step) → AllValid s cs → length (each cs arc_line) ≤ length cs * 11
  arcs_short [] v = omega arith
  arcs_short (c ∷ cs) v = omega (arith, length-append (arc_line c) (each cs arc_line), arc_short c v.0, arcs_short cs v.1)

  valid : (cs : List Step) → CircuitOrNone s cs → AllValid s cs
  valid cs (inl e) = subst (AllValid s) (sym e) tt
  valid cs (inr c) = c.valid

  module _ (cs : List Step) (h : CircuitOrNone s cs) where
    circuit_short : (word : List ℕ) → length word ≤ 6 → length (circuit_lines word cs) ≤ 2140
    circuit_short word short =
        omega (
          arith,
          length-append (line word (decimal (length cs) ∷ [])) (each cs arc_line),
          line_two word (decimal (length cs)),
          decimal_most (length cs),
          arcs_short cs (valid cs h),
          few_192 s admitted cs h,
        )

    high_short : (high : High) → length (high_lines high cs) ≤ 2140
    high_short open_end = omega arith
    high_short (up_to top bottom) = circuit_short high_word (omega arith)

-- ---- the lines of a plan

-- a plan's time
abbrev Small : ℕ → Type 0
Small t = t ≤ 382000000000

abbrev AllSmall : List ℕ → Type 0
AllSmall [] = Unit {0}
AllSmall (t ∷ ts) = Small t × AllSmall ts

small_append : (xs ys : List ℕ) → AllSmall xs → AllSmall ys → AllSmall (xs ++ ys)
small_append [] ys a b = b
small_append (x ∷ xs) ys a b = (a.0, small_append xs ys a.1 b)

mapped_small : (f : ℕ → ℕ) (n : ℕ) → ((i : ℕ) → 1 ≤ i → i ≤ n → Small (f i)) → AllSmall (map f (one_to n))
mapped_small f zero h = tt
mapped_small f (suc n) h =
    subst AllSmall (sym (map_append f (one_to n) (suc n ∷ [])))
    (small_append (map f (one_to n)) (f (suc n) ∷ []) (mapped_small f n (λ i a b. h i a (omega arith))) (h (suc n) (omega arith) (omega arith), tt))

one_to_length : (n : ℕ) → length (one_to n) ≡ n
one_to_length zero = refl
one_to_length (suc n) = omega (arith, length-append (one_to n) (suc n ∷ []), one_to_length n)

following_short : (xs : List ℕ) → AllSmall xs → length (following (map decimal xs)) ≤ length xs * 13 + 1
unfolding tens
following_short [] small = omega arith
following_short (x ∷ xs) small = omega (arith, following_length (decimal x) (map decimal xs), decimal_few 11 x (omega (arith, small.0)), following_short xs small.1)

times_short : (xs : List ℕ) → AllSmall xs → length (numbers_line xs) ≤ length xs * 13
unfolding tens
times_short [] small = omega arith
times_short (x ∷ xs) small = omega (arith, length-append (decimal x) (following (map decimal xs)), decimal_few 11 x (omega (arith, small.0)), following_short xs small.1)

-- so many lines of so many bytes
lines_short : (f : ℕ → List ℕ) (most n : ℕ) → ((i : ℕ) → 1 ≤ i → i ≤ n → length (f i) ≤ most) → length (each (one_to n) f) ≤ n * most
lines_short f most zero h = omega arith
lines_short f most (suc n) h =
    omega (
      arith,
      ap length (each_more n f),
      length-append (each (one_to n) f) (f (suc n)),
      lines_short f most n (λ i a b. h i a (omega arith)),
      h (suc n) (omega arith) (omega arith),
    )

module _ (s : Sheet) (admitted : refusal s ≡ 0) (p q r : ℕ) (plan : List ℕ) (few : q ≤ 1000) (small : p ≤ 1000000000) (is : Earliest s p q plan) (rounds : Rounds (arcs s) p q (nodes s) r) where
  z : Sizes s
  z = (accepted s admitted).size

  time_small : (v : ℕ) → v < nodes s → Small (get_or plan v 0)
  time_small v below = plan_small s (accepted s admitted) p q r few small plan is rounds v below

  line_short : (h : ℕ) → length (numbers_line (times_at s plan h)) ≤ s.n * 13
  line_short h =
      let f : ℕ → ℕ = λ i. get_or plan (node s h i) 0 in
      omega (
        arith,
        times_short (times_at s plan h) (mapped_small f s.n (λ i a b. time_small (node s h i) (node_inside s z.some_positions h i (a, b)))),
        length-map (one_to s.n) f,
        one_to_length s.n,
      )

  plan_short : length (plan_lines s q r plan) ≤ 2543
  plan_short =
      omega (
        arith,
        length-append (line plan_word (decimal q ∷ decimal r ∷ [])) (each (one_to s.positions) (λ h. numbers_line (times_at s plan h))),
        line_three plan_word (decimal q) (decimal r),
        decimal_most q,
        decimal_most r,
        lines_short (λ h. numbers_line (times_at s plan h)) (s.n * 13) s.positions (λ h a b. line_short h),
        nodes_few s (accepted s admitted),
      )

-- ---- the text

ends_short : (s : Sheet) → refusal s ≡ 0 → (text : List ℕ) → TellsEnds s text → length text ≤ room
ends_short s admitted text t =
    let low = low_askable s admitted t.finds in
    let first = line ends_word (fraction t.top t.bottom ∷ high_spelled t.high ∷ []) in
    let lows = circuit_lines low_word t.first in
    let highs = high_lines t.high t.second in
    omega (
      arith,
      ap length t.text_is,
      length-append (first ++ lows ++ highs) (plan_lines s t.bottom t.rounds t.plan),
      length-append (first ++ lows) highs,
      length-append first lows,
      line_three ends_word (fraction t.top t.bottom) (high_spelled t.high),
      fraction_most t.top t.bottom,
      high_most t.high,
      circuit_short s admitted t.first t.finds.first_circuit low_word (omega arith),
      high_short s admitted t.second t.finds.second_circuit t.high,
      plan_short s admitted t.top t.bottom t.rounds t.plan (omega (arith, low.few)) low.small t.plan_is t.rounds_are,
    )

none_short : (s : Sheet) → refusal s ≡ 0 → (text : List ℕ) → TellsNone s text → length text ≤ room
none_short s admitted text t =
    let firsts = circuit_lines first_word t.first in
    let seconds = circuit_lines second_word t.second in
    omega (
      arith,
      ap length t.text_is,
      length-append (line none_word [] ++ firsts) seconds,
      length-append (line none_word []) firsts,
      line_one none_word,
      circuit_short s admitted t.first t.lacks.first_circuit first_word (omega arith),
      circuit_short s admitted t.second t.lacks.second_circuit second_word (omega arith),
    )

-- THEOREM: every report has room
pub text_short : (w : Part Sheet) → ((s : Sheet) (next : ℕ) → w ≡ file.got s next → refusal s ≡ 0) → (text : List ℕ) → Tells w text → length text ≤ room
text_short (file.got s next) h text (inl t) = ends_short s (h s next refl) text t
text_short (file.got s next) h text (inr t) = none_short s (h s next refl) text t
text_short (file.refused r) h text e = omega (arith, ap length e, line_three refused_word (decimal r.number) (decimal r.at), decimal_most r.number, decimal_most r.at)
