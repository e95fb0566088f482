-- A text that stands in the buffer is the report's outcome.
use mathlib.Core.Path.{◌≡◌, ap, ◌∙◌, subst}
use mathlib.Core.List.{List, [], ◌∷◌, ◌++◌}
use Prim.Native.Nat.{ℕ, ◌+◌, ◌≤◌}
use native.Mathlib.Omega.{arith}
use lib.ListN.{length, take, drop, length-append}
use lib.Seq.{sets-eq}
use Rattle.tables.specs.Answers.{answer}
use Rattle.tables.proofs.Answers.{number_same, value_same}
use Rattle.sheet.specs.File.{sheet_in}
use Rattle.sheet.proofs.Admitted.{read_admitted}
use Rattle.telling.specs.Tells.{Tells}
use Rattle.report.specs.Report.{judged, room, Outcome}
use Rattle.report.specs.Report as report
use Rattle.telling.specs.Steps.{TextStands}
use Rattle.report.specs.Told.{answer_told}
use Rattle.std.specs.Prelude.{Result, Ok, Err}
use Rattle.numbers.specs.declared.refusals.Reason.{Reason}
use Rattle.report.proofs.Short.{text_short}

pub written : (bytes front out₀ out : List ℕ) (next : ℕ) → room ≤ length out₀ → front ≡ take judged bytes → TextStands (Tells (sheet_in front)) out₀ next out → Outcome bytes out₀ (answer_told (Ok next)) out
written bytes front out₀ out next roomy e x =
    let short = text_short (sheet_in front) (read_admitted front) x.text x.says in
    let front-is : 0 + length x.text ≡ length x.text = omega arith in
    let count : next ≡ length x.text = omega (arith, x.puts.next_is) in
    report.written x.text (ap (λ (k : ℕ). answer 0 (k ∷ [])) count) roomy (subst (λ (b : List ℕ). Tells (sheet_in b) x.text) e x.says) (x.puts.out_is ∙ sets-eq x.text out₀ 0 (omega arith) ∙ ap (λ (k : ℕ). x.text ++ drop k out₀) front-is)

-- what was written is in the buffer
pub within : (bytes out₀ out : List ℕ) (r : Result ℕ Reason) (count : ℕ) → r ≡ Ok count → Outcome bytes out₀ (answer_told r) out → count ≤ length out
within bytes out₀ out r count e o = go (subst (λ (x : Result ℕ Reason). Outcome bytes out₀ (answer_told x) out) e o)
  where
    go : Outcome bytes out₀ (answer 0 (count ∷ [])) out → count ≤ length out
    go (report.written text is roomy says same) = omega (arith, value_same 0 is, ap length same, length-append text (drop (length text) out₀))
    go (report.refused is short same) = absurd (omega (arith, number_same is))
