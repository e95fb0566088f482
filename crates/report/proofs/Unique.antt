-- Two reports of the same bytes are equal, but for the lines of the circuits and which of the two forms of "none" they show.
use mathlib.Core.Path.{◌≡◌, refl, sym, ap, ap₂, subst, ◌∙◌}
use mathlib.Core.Logic.{inl, inr}
use mathlib.Core.List.{List, [], ◌∷◌, ◌++◌, map}
use Prim.Native.Nat.{ℕ, zero, suc, ◌≤◌, ◌<◌}
use native.Mathlib.Omega.{arith}
use lib.ListN.{get_or, length, take, drop}
use Rattle.text.specs.Text.{decimal}
use Rattle.theory.specs.Arcs.{table, Rounds}
use Rattle.theory.specs.Ends.{High}
use Rattle.theory.proofs.Fractions.{range_same, low_works}
use Rattle.theory.proofs.Loops.{rounds_same}
use Rattle.theory.proofs.Turning.{map_append}
use Rattle.tables.specs.Sheets.{Sheet, refusal}
use Rattle.tables.specs.Answers.{Answer, answer}
use Rattle.tables.proofs.Answers.{number_same}
use Rattle.tables.specs.Admitted.{Sizes}
use Rattle.tables.proofs.Laws.{accepted}
use Rattle.numbers.specs.Groups.{Bytes}
use Rattle.sheet.specs.File.{Part, sheet_in}
use Rattle.sheet.specs.File as file
use Rattle.sheet.proofs.Admitted.{read_admitted}
use Rattle.sheet.proofs.Front.{front}
use Rattle.windows.specs.Inequalities.{Runs}
use Rattle.windows.specs.Arcs.{node, nodes, arcs, one_to}
use Rattle.windows.proofs.Listed.{each_one_to}
use Rattle.windows.specs.Circuits.{Step}
use Rattle.windows.proofs.Laying.{node_inside}
use Rattle.calls.specs.Ask.{Earliest}
use Rattle.calls.proofs.Ask.Unique.{plan_table}
use Rattle.lines.specs.Lines.{ends_word, low_word, none_word, first_word, second_word, plan_word, line, fraction, high_spelled, circuit_lines, high_lines, numbers_line, times_at, plan_lines}
use Rattle.telling.specs.Tells.{TellsEnds, TellsNone, Tells}
use Rattle.report.specs.Report.{judged, Reports, Outcome, text_in, TextsAgree}
use Rattle.report.specs.Report as report

-- maps that agree from 1 to n make the same list of these
map_same : {B : Type 0} (n : ℕ) (f g : ℕ → B) → ((i : ℕ) → 1 ≤ i → i ≤ n → f i ≡ g i) → map f (one_to n) ≡ map g (one_to n)
map_same zero f g h = refl
map_same (suc n) f g h =
    map_append f (one_to n) (suc n ∷ []) ∙ ap₂ (λ (xs : List _) (y : _). xs ++ y ∷ []) (map_same n f g (λ i a b. h i a (omega arith))) (h (suc n) (omega arith) (omega arith))
    ∙ sym (map_append g (one_to n) (suc n ∷ []))

module _ (s : Sheet) (z : Sizes s) where
  -- the plan's lines are determined by the cycle time
  plan_lines_same : (p q r r' : ℕ) (plan plan' : List ℕ) → Earliest s p q plan → Earliest s p q plan' → Rounds (arcs s) p q (nodes s) r → Rounds (arcs s) p q (nodes s) r'
      → plan_lines s q r plan ≡ plan_lines s q r' plan'
  plan_lines_same p q r r' plan plan' e e' k k' =
      ap (λ (u : ℕ). plan_lines s q u plan) same
      ∙ ap (λ (t : List ℕ). line plan_word (decimal q ∷ decimal r' ∷ []) ++ t) (each_one_to s.positions (λ h. numbers_line (times_at s plan h)) (λ h. numbers_line (times_at s plan' h)) (λ h a b. ap numbers_line (map_same s.n (λ i. get_or plan (node s h i) 0) (λ i. get_or plan' (node s h i) 0) (λ i c d. times (node s h i) (node_inside s z.some_positions h i (c, d))))))
    where
      same : r ≡ r'
      same = rounds_same (arcs s) p q (nodes s) r r' k k'

      times : (v : ℕ) → v < nodes s → get_or plan v 0 ≡ get_or plan' v 0
      times v below =
          plan_table s p q z.some_positions z.some_events plan r e k v below ∙ ap (λ (u : ℕ). table (arcs s) p q u v) same
          ∙ sym (plan_table s p q z.some_positions z.some_events plan' r' e' k' v below)

  -- THEOREM: the ends and the plan's lines are determined
  pub ends_same : (text text' : List ℕ) (a : TellsEnds s text) (b : TellsEnds s text')
      → (a.top ≡ b.top) × (a.bottom ≡ b.bottom) × (a.high ≡ b.high) × (plan_lines s a.bottom a.rounds a.plan ≡ plan_lines s b.bottom b.rounds b.plan)
  ends_same text text' a b =
      let e = range_same (Runs s) a.top a.bottom b.top b.bottom a.high b.high a.finds.range b.finds.range in
      (e.0, e.1, e.2, at b.top b.bottom e.0 e.1 b.rounds b.plan b.plan_is b.rounds_are)
    where
      at : (p q : ℕ) → a.top ≡ p → a.bottom ≡ q → (r : ℕ) (plan : List ℕ) → Earliest s p q plan → Rounds (arcs s) p q (nodes s) r
          → plan_lines s a.bottom a.rounds a.plan ≡ plan_lines s q r plan
      at p q e f r plan is rounds =
          plan_lines_same a.top a.bottom a.rounds r a.plan plan a.plan_is
          (subst (λ (k : ℕ). Earliest s a.top k plan) (sym f) (subst (λ (k : ℕ). Earliest s k q plan) (sym e) is)) a.rounds_are
          (subst (λ (k : ℕ). Rounds (arcs s) a.top k (nodes s) r) (sym f) (subst (λ (k : ℕ). Rounds (arcs s) k q (nodes s) r) (sym e) rounds))
          ∙ ap (λ (k : ℕ). plan_lines s k r plan) f

-- there are ends or there are none
never_both : (s : Sheet) (text text' : List ℕ) → TellsEnds s text → TellsNone s text' → ⊥
never_both s text text' a b = b.lacks.never a.top a.bottom a.finds.range.bottom (low_works (Runs s) a.top a.bottom a.high a.finds.range)

tells_same : (w : Part Sheet) → ((s : Sheet) (next : ℕ) → w ≡ file.got s next → refusal s ≡ 0) → (text text' : List ℕ) (x : Tells w text) (y : Tells w text') → TextsAgree w text text' x y
tells_same (file.got s next) h text text' (inl a) (inl b) = ends_same s (accepted s (h s next refl)).size text text' a b
tells_same (file.got s next) h text text' (inl a) (inr b) = never_both s text text' a b
tells_same (file.got s next) h text text' (inr a) (inl b) = never_both s text' text b a
tells_same (file.got s next) h text text' (inr a) (inr b) = tt
tells_same (file.refused r) h text text' x y = x ∙ sym y

-- THEOREM: two reports of the same bytes agree
pub reports_same : (bytes text text' : List ℕ) (x : Reports bytes text) (y : Reports bytes text') → TextsAgree (sheet_in (take judged bytes)) text text' x y
reports_same bytes text text' x y = tells_same (sheet_in (take judged bytes)) (read_admitted (take judged bytes)) text text' x y

-- THEOREM: "Of a file over 27,685 bytes the first 27,685 are judged; the answer is the same."
pub judged_same : (bytes text : List ℕ) → Bytes bytes → judged ≤ length bytes → Reports bytes text → Tells (sheet_in bytes) text
judged_same bytes text b long x = subst (λ (w : Part Sheet). Tells w text) (front bytes b long) x

-- THEOREM: where the number is 0, the text that was written is a report of the bytes
pub written_reports : {bytes out₀ : List ℕ} {a : Answer} {out : List ℕ} (x : Outcome bytes out₀ a out) → a.number ≡ 0 → Reports bytes (text_in x)
written_reports (report.written text e roomy is same) none = is
written_reports (report.refused e short same) none = absurd (omega (arith, number_same e))

module _ (bytes out₀ : List ℕ) (a b : Answer) (out out' : List ℕ) where
  -- THEOREM: two outcomes have the same number, and two refusals leave the same buffer
  pub outcome_same : Outcome bytes out₀ a out → Outcome bytes out₀ b out' → a.number ≡ b.number
  outcome_same (report.written text e roomy is same) (report.written text' e' roomy' is' same') = number_same e ∙ sym (number_same e')
  outcome_same (report.written text e roomy is same) (report.refused e' short same') = absurd (omega (arith, roomy, short))
  outcome_same (report.refused e short same) (report.written text' e' roomy is' same') = absurd (omega (arith, roomy, short))
  outcome_same (report.refused e short same) (report.refused e' short' same') = number_same e ∙ sym (number_same e')

  pub refused_same : Outcome bytes out₀ a out → Outcome bytes out₀ b out' → a.number ≡ 9 → out ≡ out'
  refused_same (report.written text e roomy is same) y nine = absurd (omega (arith, number_same e))
  refused_same (report.refused e short same) (report.written text' e' roomy is' same') nine = absurd (omega (arith, roomy, short))
  refused_same (report.refused e short same) (report.refused e' short' same') nine = same ∙ sym same'

  -- THEOREM: the same text is the same answer and leaves the same buffer; a refused file's text always is
  pub buffer_same : (x : Outcome bytes out₀ a out) (y : Outcome bytes out₀ b out') → text_in x ≡ text_in y → (a ≡ b) × (out ≡ out')
  buffer_same (report.written text e roomy is same) (report.written text' e' roomy' is' same') t =
      (e ∙ ap (λ (l : List ℕ). answer 0 (length l ∷ [])) t ∙ sym e', same ∙ ap (λ (l : List ℕ). l ++ drop (length l) out₀) t ∙ sym same')
  buffer_same (report.written text e roomy is same) (report.refused e' short same') t = absurd (omega (arith, roomy, short))
  buffer_same (report.refused e short same) (report.written text' e' roomy is' same') t = absurd (omega (arith, roomy, short))
  buffer_same (report.refused e short same) (report.refused e' short' same') t = (e ∙ sym e', same ∙ sym same')

-- ---- where the circuits are the same, so is all else

-- THEOREM: two reports of ends with the same circuits are the same text
pub ends_text_same : (s : Sheet) → Sizes s → (text text' : List ℕ) (a : TellsEnds s text) (b : TellsEnds s text') → a.first ≡ b.first
    → a.second ≡ b.second → text ≡ text'
ends_text_same s z text text' a b first second =
    let e = ends_same s z text text' a b in
    let lines : line ends_word (fraction a.top a.bottom ∷ high_spelled a.high ∷ []) ≡ line ends_word (fraction b.top b.bottom ∷ high_spelled b.high ∷ []) =
    same a.top a.bottom a.high b.top b.bottom b.high e.0 e.1 e.2 in
    let lows = ap (circuit_lines low_word) first in
    let highs = ap₂ high_lines e.2 second in
    a.text_is ∙ ap₂ (λ (x y : List ℕ). x ++ y) (ap₂ (λ (x y : List ℕ). x ++ y) (ap₂ (λ (x y : List ℕ). x ++ y) lines lows) highs) e.3 ∙ sym b.text_is
  where
    same : (t b : ℕ) (h : High) (t' b' : ℕ) (h' : High) → t ≡ t' → b ≡ b' → h ≡ h' → line ends_word (fraction t b ∷ high_spelled h ∷ []) ≡ line ends_word (fraction t' b' ∷ high_spelled h' ∷ [])
    same t b h t' b' h' x y z = cc

-- THEOREM: and so are two of none
pub none_text_same : (s : Sheet) (text text' : List ℕ) (a : TellsNone s text) (b : TellsNone s text') → a.first ≡ b.first
    → a.second ≡ b.second → text ≡ text'
none_text_same s text text' a b first second =
    a.text_is ∙ ap₂ (λ (x y : List Step). line none_word [] ++ circuit_lines first_word x ++ circuit_lines second_word y) first second ∙ sym b.text_is
