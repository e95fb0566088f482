-- `reader::read_into` meets its contract: n, m and V, then the schedule, and then the tables.
use Rattle.sheet.specs.File.{Part, got, refused, counts, sheet_in, sheet_after}
use Rattle.sheet.specs.File as file
use Rattle.reader.specs.Steps.{head_part}
use Rattle.tables.specs.Sheets.{sheet}
use Rattle.records.proofs.Walking.{walked, unwalked}
use Rattle.records.proofs.Taking.{left_at, left_no}
use Rattle.sheet.proofs.Following.{then_value, then_refused}
use Rattle.sheet.proofs.Sheets.{counted}
use Rattle.std.specs.Prelude.{Result, Ok, Err}
use Rattle.numbers.specs.Refusals.{said}
use Rattle.numbers.specs.declared.refusals.Refusal as code
use Rattle.reader.specs.declared.Counts.{Counts}
use Rattle.numbers.proofs.Reasons.{handed_on}
use Rattle.reader.proofs.Filling.{fills_refused, fills_done}
use mathlib.Core.Path.{◌≡◌, sym, ap, ◌∙◌}
use mathlib.Core.List.{List}
use Prim.Native.Nat.{ℕ}
use lib.Seq.{sets}
use lib.IntN.{ℤ}
use Rattle.reader.proofs.read_into.Goals as goal

-- what is put into a list
abbrev values : List ℤ → List ℤ → List ℤ
values was l = sets was 0 l

abbrev modes : List ℕ → List ℕ → List ℕ
modes was l = sets was 0 l

-- n, m and V, by what the head answered
module _ (x : Part file.Counts) (r : Result Counts code.Refusal) (next : ℕ) (e : head_part r next ≡ x) where
  headed : (c : Counts) → r ≡ Ok c → x ≡ got (counts c.n c.m c.positions) next
  headed c w = sym e ∙ ap (λ (z : Result Counts code.Refusal). head_part z next) w

  headed_no : (why : code.Refusal) → r ≡ Err why → x ≡ refused (said why)
  headed_no why w = sym e ∙ ap (λ (z : Result Counts code.Refusal). head_part z next) w

pub returns-in_err-counts : goal.returns-in_err-counts
unfolding sheet_in
returns-in_err-counts c = let a = c.args in
    rw (handed_on _ _ c.from_residual.ensures.1)
    (fills_refused (sheet_in a.file.now) a.tables.now a.schedule.now _ _ _ (then_refused _ _ _ (headed_no _ _ _ c.read_head.ensures.reads _ c.in_err-counts.was)))

pub read_schedule-requires : goal.read_schedule-requires
read_schedule-requires c =
    let k = counted _ _ _ _ (headed _ _ _ c.read_head.ensures.reads _ c.in_ok-counts.was) in (k.some_modes, k.few_modes)

pub returns-in_err-read_schedule : goal.returns-in_err-read_schedule
unfolding sheet_in sheet_after
returns-in_err-read_schedule c = let a = c.args in
    rw (handed_on _ _ c.from_residual-in_err-read_schedule.ensures.1)
    (fills_refused (sheet_in a.file.now) a.tables.now a.schedule.now _ _ _
    (then_value _ _ _ _ (headed _ _ _ c.read_head.ensures.reads _ c.in_ok-counts.was)
    ∙ then_refused _ _ _ (unwalked modes _ _ _ _ _ (left_no _ _ _ c.in_err-read_schedule.was) (rw c.read_head.ensures.kept at c.read_schedule.ensures.walks))))

pub read_tables-requires : goal.read_tables-requires
read_tables-requires c =
    let k = counted _ _ _ _ (headed _ _ _ c.read_head.ensures.reads _ c.in_ok-counts.was) in (k.few_events, k.few_modes)

pub returns-in_err-read_tables : goal.returns-in_err-read_tables
unfolding sheet_in sheet_after
returns-in_err-read_tables c = let a = c.args in
    let k = walked modes _ _ _ _ _ (left_at _ _ _ c.in_ok-read_schedule.was) (rw c.read_head.ensures.kept at c.read_schedule.ensures.walks) in
    rw (handed_on _ _ c.from_residual-in_err-read_tables.ensures.1)
    (fills_refused (sheet_in a.file.now) a.tables.now a.schedule.now _ _ _
    (then_value _ _ _ _ (headed _ _ _ c.read_head.ensures.reads _ c.in_ok-counts.was)
    ∙ then_value _ _ _ _ k.is
    ∙ then_refused _ _ _ (unwalked values _ _ _ _ _ (left_no _ _ _ c.in_err-read_tables.was) (rw (c.read_schedule.ensures.kept, c.read_head.ensures.kept) at c.read_tables.ensures.walks))))

pub returns : goal.returns
unfolding sheet_in sheet_after
returns c = let a = c.args in
    let s = c.in_ok-counts.counts in
    let k = walked modes _ _ _ _ _ (left_at _ _ _ c.in_ok-read_schedule.was) (rw c.read_head.ensures.kept at c.read_schedule.ensures.walks) in
    let t = walked values _ _ _ _ _ (left_at _ _ _ c.in_ok-read_tables.was) (rw (c.read_schedule.ensures.kept, c.read_head.ensures.kept) at c.read_tables.ensures.walks) in
    fills_done (sheet_in a.file.now) a.tables.now a.schedule.now _ _ (sheet s.n s.m s.positions t.thing k.thing) _
    (then_value _ _ _ _ (headed _ _ _ c.read_head.ensures.reads _ c.in_ok-counts.was)
    ∙ then_value _ _ _ _ k.is
    ∙ then_value _ _ _ _ t.is) t.after k.after
