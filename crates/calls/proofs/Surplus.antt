-- "the surplus is neither read nor written": sheets that are the same but for surplus are refused alike, and every outcome of Ask, of Ends and of a held proposal for the one
-- is an outcome for the other, with the same answer and the same buffers. Each is compared with itself without surplus.
-- This is of what the calls answer; which of several circuits is given is left open there (Ask/Unique, Ends/Unique), and so is what it rests on.
use mathlib.Core.Path.{◌≡◌, sym, ap, ap₂, ◌∙◌, subst}
use mathlib.Core.Logic.{◌≢◌}
use mathlib.Core.List.{List, ◌++◌}
use Prim.Native.Nat.{ℕ, pred, ◌%◌, ◌≤◌}
use native.Mathlib.Nat.{mod-lt, le_refl}
use lib.ListN.{length}
use lib.Seq.{get_or-take, take-take, take-append-le}
use lib.IntN.{ℤ}
use Rattle.tables.specs.Sheets.{Sheet, sheet, exact, no_window, place, places, sized, scheduled, admitted, refusal}
use Rattle.tables.specs.Answers.{Answer}
use Rattle.tables.proofs.Laws.{accepted}
use Rattle.windows.specs.Windows.{number, entry, mode}
use Rattle.windows.specs.Arcs.{nodes}
use Rattle.windows.proofs.Limits.{number_small, place_below, mode_below}
use Rattle.calls.specs.Ask as ask
use Rattle.calls.specs.Ends as ends
use Rattle.calls.specs.ProposedTimes as times
use Rattle.calls.specs.ProposedArcs as arcs
use Rattle.calls.specs.Surplus.{SameButSurplus}
use Rattle.calls.proofs.Ask.Unique as asked
use Rattle.calls.proofs.Ends.Unique as ended
use Rattle.calls.proofs.Taking.{long_same}
use Rattle.calls.proofs.ProposedTimes.Unique as timed
use Rattle.calls.proofs.ProposedArcs.Unique as listed
use Rattle.calls.proofs.Alike.{Alike, ask_alike, ends_alike, times_alike, arcs_alike}

-- ---- refusals

-- THEOREM: the surplus is not read by a refusal: a sheet without it has the same
pub exact_refusal : (s : Sheet) → refusal (exact s) ≡ refusal s
unfolding refusal sized scheduled admitted
exact_refusal s =
    rw (
      long_same (places s.n s.m) s.tables,
      long_same s.positions s.schedule,
      take-take (places s.n s.m) (places s.n s.m) s.tables (le_refl _),
      take-take s.positions s.positions s.schedule (le_refl _),
    )

-- ---- limits

module _ (s : Sheet) where
  -- the schedule is read below V, and the tables below 4·m·n²
  exact_alike : refusal s ≡ 0 → Alike s (exact s).tables (exact s).schedule
  exact_alike e h k i j to from =
      let ok = accepted s e in
      let n = s.n in
      let t : mode (exact s) h ≡ mode s h = get_or-take s.positions s.schedule (pred h % s.positions) 0 (mod-lt (pred h) ok.size.some_positions) in
      let below = place_below n s.m (mode s h) (number k) i j (mode_below s ok h) (number_small k) to.0 to.1 from.0 from.1 in
      sym (ap (λ (t : ℕ). entry (exact s) t k i j) t ∙ get_or-take (places n s.m) s.tables (place n (mode s h) (number k) i j) no_window below)

  exact_back : refusal (exact s) ≡ 0 → Alike (exact s) s.tables s.schedule
  exact_back e h k i j to from = sym (exact_alike (sym (exact_refusal s) ∙ e) h k i j to from)

-- ---- sheets that are the same but for surplus

-- THEOREM: such are a sheet that has all the places needed, and the same sheet with more behind them
pub surplus_more : (s : Sheet) → places s.n s.m ≤ length s.tables → s.positions ≤ length s.schedule → (more : List ℤ) (others : List ℕ)
    → SameButSurplus (sheet s.n s.m s.positions (s.tables ++ more) (s.schedule ++ others)) s
surplus_more s long wide more others =
    ap₂ (λ (t : List ℤ) (v : List ℕ). sheet s.n s.m s.positions t v) (take-append-le (places s.n s.m) s.tables more long) (take-append-le s.positions s.schedule others wide)

module _ (s s' : Sheet) (same : SameButSurplus s s') where
  -- THEOREM: they are refused alike
  pub surplus_refusal : refusal s ≡ refusal s'
  surplus_refusal = sym (exact_refusal s) ∙ ap refusal same ∙ exact_refusal s'

  -- THEOREM: by Ask too
  pub surplus_ask_refusal : (p q : ℕ) (plan circuit : List ℕ) → ask.ask_refusal s p q plan circuit ≡ ask.ask_refusal s' p q plan circuit
  surplus_ask_refusal p q plan circuit = rw (surplus_refusal, ap nodes same)

  -- THEOREM: by Ends
  pub surplus_ends_refusal : (first second : List ℕ) → ends.ends_refusal s first second ≡ ends.ends_refusal s' first second
  surplus_ends_refusal first second = rw (surplus_refusal, ap nodes same)

  -- THEOREM: with proposed times
  pub surplus_times_refusal : (p q : ℕ) (list : List ℤ) → times.times_refusal s p q list ≡ times.times_refusal s' p q list
  surplus_times_refusal p q list = rw (surplus_refusal, ap nodes same)

  -- THEOREM: and with proposed arcs
  pub surplus_arcs_refusal : (p q : ℕ) (list : List ℕ) → arcs.arcs_refusal s p q list ≡ arcs.arcs_refusal s' p q list
  surplus_arcs_refusal p q list = rw surplus_refusal

  -- THEOREM: every outcome of Ask for the one is an outcome for the other, with the same answer and the same buffers
  pub surplus_ask : (p q : ℕ) (plan₀ circuit₀ : List ℕ) (a : Answer) (plan circuit : List ℕ) → ask.Outcome s p q plan₀ circuit₀ a plan circuit → ask.Outcome s' p q plan₀ circuit₀ a plan circuit
  surplus_ask p q plan₀ circuit₀ a plan circuit x =
      ask_alike (exact s') s'.tables s'.schedule (exact_refusal s') (exact_back s') p q plan₀ circuit₀ a plan circuit
      (subst (λ (t : Sheet). ask.Outcome t p q plan₀ circuit₀ a plan circuit) same
      (ask_alike s (exact s).tables (exact s).schedule (sym (exact_refusal s)) (exact_alike s) p q plan₀ circuit₀ a plan circuit x))

  -- THEOREM: so what Ask answers for the one and for the other is equal, but for which circuit is given
  pub surplus_asked : (p q : ℕ) (plan₀ circuit₀ : List ℕ) (a b : Answer) (plan circuit plan' circuit' : List ℕ) → ask.Outcome s p q plan₀ circuit₀ a plan circuit → ask.Outcome s' p q plan₀ circuit₀ b plan' circuit'
      → (a.number ≡ b.number) × (plan ≡ plan') × (a.number ≢ 100 → (a ≡ b) × (circuit ≡ circuit'))
  surplus_asked p q plan₀ circuit₀ a b plan circuit plan' circuit' x y =
      asked.outcome_same s' p q plan₀ circuit₀ a b plan circuit plan' circuit' (surplus_ask p q plan₀ circuit₀ a plan circuit x) y

  -- THEOREM: every outcome of Ends for the one is an outcome for the other, with the same answer and the same buffers
  pub surplus_ends : (first₀ second₀ : List ℕ) (a : Answer) (first second : List ℕ) → ends.Outcome s first₀ second₀ a first second → ends.Outcome s' first₀ second₀ a first second
  surplus_ends first₀ second₀ a first second x =
      ends_alike (exact s') s'.tables s'.schedule (exact_refusal s') (exact_back s') first₀ second₀ a first second
      (subst (λ (t : Sheet). ends.Outcome t first₀ second₀ a first second) same
      (ends_alike s (exact s).tables (exact s).schedule (sym (exact_refusal s)) (exact_alike s) first₀ second₀ a first second x))

  -- THEOREM: so what Ends answers for the one and for the other agrees: the same number, and the same ends or the same refusal
  pub surplus_ended : (first₀ second₀ : List ℕ) (a b : Answer) (first second first' second' : List ℕ) → ends.Outcome s first₀ second₀ a first second → ends.Outcome s' first₀ second₀ b first' second'
      → ends.Agree a b
  surplus_ended first₀ second₀ a b first second first' second' x y =
      ended.outcome_same s' first₀ second₀ a b first second first' second' (surplus_ends first₀ second₀ a first second x) y

  -- THEOREM: every outcome for proposed times for the one is an outcome for the other, with the same answer
  pub surplus_times : (p q : ℕ) (list : List ℤ) (a : Answer) → times.Outcome s p q list a → times.Outcome s' p q list a
  surplus_times p q list a x =
      times_alike (exact s') s'.tables s'.schedule (exact_refusal s') (exact_back s') p q list a
      (subst (λ (t : Sheet). times.Outcome t p q list a) same (times_alike s (exact s).tables (exact s).schedule (sym (exact_refusal s)) (exact_alike s) p q list a x))

  -- THEOREM: so what is answered for the one and for the other is equal
  pub surplus_timed : (p q : ℕ) (list : List ℤ) (a b : Answer) → times.Outcome s p q list a → times.Outcome s' p q list b → a ≡ b
  surplus_timed p q list a b x y = timed.outcome_same s' p q list a b (surplus_times p q list a x) y

  -- THEOREM: every outcome for proposed arcs for the one is an outcome for the other, with the same answer
  pub surplus_arcs : (p q : ℕ) (list : List ℕ) (a : Answer) → arcs.Outcome s p q list a → arcs.Outcome s' p q list a
  surplus_arcs p q list a x =
      arcs_alike (exact s') s'.tables s'.schedule (exact_refusal s') (exact_back s') p q list a
      (subst (λ (t : Sheet). arcs.Outcome t p q list a) same (arcs_alike s (exact s).tables (exact s).schedule (sym (exact_refusal s)) (exact_alike s) p q list a x))

  -- THEOREM: so what is answered for the one and for the other is equal
  pub surplus_listed : (p q : ℕ) (list : List ℕ) (a b : Answer) → arcs.Outcome s p q list a → arcs.Outcome s' p q list b → a ≡ b
  surplus_listed p q list a b x y = listed.outcome_same s' p q list a b (surplus_arcs p q list a x) y
