-- The lines by what the buffers hold are the lines of the report: a circuit's arcs, and the times of a plan.
use mathlib.Core.Path.{◌≡◌, refl, sym, ap, ap₂, ◌∙◌}
use mathlib.Core.List.{List, [], ◌∷◌, ◌++◌, map, append_assoc, append-nil}
use Prim.Native.Nat.{ℕ, zero, suc, pred, ◌+◌, ◌*◌, ◌≤◌, ◌<◌}
use native.Mathlib.Omega.{arith}
use native.Mathlib.Nat.{mod-eq_of_lt, mul-le-mul_right, zero-mul}
use lib.ListN.{get_or, length, take, drop, length-drop}
use lib.Seq.{take-suc, get_or-drop, drop-drop}
use Rattle.std.proofs.lemmas.List.{map-append}
use Rattle.text.specs.Text.{decimal}
use Rattle.tables.specs.Sheets.{Sheet}
use Rattle.windows.specs.Arcs.{nodes, one_to, each}
use Rattle.windows.specs.Circuits.{Step, numbers}
use Rattle.windows.proofs.Listed.{each_more}
use Rattle.lines.specs.Lines.{line, arc_line, numbers_line, times_at, plan_lines, plan_word}
use Rattle.lines.specs.Buffers.{arc_lines, times_lines, plan_text}

-- ---- the arcs

pub arcs_are : (steps : List Step) (rest : List ℕ) → arc_lines (numbers steps ++ rest) (length steps) ≡ each steps arc_line
unfolding arc_lines
arcs_are [] rest = refl
arcs_are (c ∷ steps) rest = ap (λ (t : List ℕ). arc_line c ++ t) (arcs_are steps rest)

-- ---- the times

-- n times from the start of a list
times_taken : (l : List ℕ) (n : ℕ) → n ≤ length l → map (λ i. get_or l (pred i) 0) (one_to n) ≡ take n l
times_taken l zero h = refl
times_taken l (suc n) h = map-append (λ i. get_or l (pred i) 0) (one_to n) (suc n ∷ []) ∙ ap (λ (t : List ℕ). t ++ get_or l n 0 ∷ []) (times_taken l n (omega arith)) ∙ sym (take-suc l n 0 h)

pub times_more : (plan : List ℕ) (n g : ℕ) → times_lines plan n (suc g) ≡ times_lines plan n g ++ numbers_line (take n (drop (g * n) plan))
unfolding times_lines
times_more plan n zero = append-nil (numbers_line (take n plan)) ∙ ap (λ (i : ℕ). numbers_line (take n (drop i plan))) (sym (zero-mul n))
times_more plan n (suc g) =
    ap (λ (t : List ℕ). numbers_line (take n plan) ++ t) (times_more (drop n plan) n g)
    ∙ sym (append_assoc (numbers_line (take n plan)) (times_lines (drop n plan) n g) (numbers_line (take n (drop (g * n) (drop n plan)))))
    ∙ ap (λ (l : List ℕ). (numbers_line (take n plan) ++ times_lines (drop n plan) n g) ++ numbers_line (take n l)) (drop-drop (g * n) n plan ∙ ap (λ (i : ℕ). drop i plan) (next n g))
  where
    next : (n g : ℕ) → n + g * n ≡ suc g * n
    next n g = omega arith

module _ (s : Sheet) (plan : List ℕ) (long : nodes s ≤ length plan) where
  times_at_lem : (g : ℕ) → g < s.positions → times_at s plan (suc g) ≡ take s.n (drop (g * s.n) plan)
  times_at_lem g below =
      map_each (one_to s.n) (λ i. ap (λ (h : ℕ). get_or plan (h * s.n + pred i) 0) (mod-eq_of_lt below) ∙ sym (get_or-drop (g * s.n) plan (pred i) 0))
      ∙ times_taken (drop (g * s.n) plan) s.n (omega (arith, length-drop (g * s.n) plan, mul-le-mul_right s.n (below' g below)))
    where
      below' : (g : ℕ) → g < s.positions → g + 1 ≤ s.positions
      below' g h = omega arith

      map_each : {f g : ℕ → ℕ} (l : List ℕ) → ((i : ℕ) → f i ≡ g i) → map f l ≡ map g l
      map_each [] h = refl
      map_each (x ∷ l) h = ap₂ (λ (a : ℕ) (t : List ℕ). a ∷ t) (h x) (map_each l h)

  times_are : (g : ℕ) → g ≤ s.positions → times_lines plan s.n g ≡ each (one_to g) (λ h. numbers_line (times_at s plan h))
  unfolding times_lines
  times_are zero h = refl
  times_are (suc g) h =
      times_more plan s.n g
      ∙ ap₂ (λ (a b : List ℕ). a ++ b) (times_are g (omega arith)) (ap numbers_line (sym (times_at_lem g h)))
      ∙ sym (each_more g (λ h. numbers_line (times_at s plan h)))

  -- THEOREM: the text by a buffer is the text of the plan in it
  pub plan_is : (q rounds : ℕ) → plan_text q rounds plan s.n s.positions ≡ plan_lines s q rounds plan
  plan_is q rounds = ap (λ (t : List ℕ). line plan_word (decimal q ∷ decimal rounds ∷ []) ++ t) (times_are s.positions (omega arith))
