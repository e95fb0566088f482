-- Numbers written one after the other: the laws of `run` and `Adds`.
use mathlib.Core.Path.{◌≡◌, refl, sym, ap, ap₂, ◌∙◌}
use mathlib.Core.List.{List, [], ◌∷◌, ◌++◌, append-nil}
use Prim.Native.Nat.{ℕ, ◌+◌}
use native.Mathlib.Omega.{arith}
use lib.ListN.{length, length-append}
use lib.Seq.{sets}
use Rattle.numbers.specs.Groups.{groups}
use Rattle.sheet.specs.Written.{in_groups}
use Rattle.sheet.proofs.Groups.{in_groups_append}
use Rattle.sheet.proofs.Sets.{sets_append}
use Rattle.writer.specs.Steps.{State, state, run, Adds}
use Rattle.writer.specs.declared.Numbers.{Numbers}

module _ (out : List ℕ) (at : ℕ) where
  -- nothing is written
  pub run_none : state at out ≡ run out at []
  unfolding run in_groups
  run_none = ap (λ (k : ℕ). state k out) (same at)
    where
      same : (k : ℕ) → k ≡ k + 0
      same k = omega arith

  -- one number is written
  pub run_one : (v size : ℕ) (now : List ℕ) → size ≡ length (groups v) → now ≡ sets out at (groups v) → state (at + size) now ≡ run out at (v ∷ [])
  unfolding run in_groups
  run_one v size now e q = rw (append-nil (groups v)) (ap₂ (λ (k : ℕ) (l : List ℕ). state (at + k) l) e q)

  module _ (a : List ℕ) (p : ℕ) (now : List ℕ) (e : state p now ≡ run out at a) where
    -- and others are written after them
    pub run_then : (b : List ℕ) → run now p b ≡ run out at (a ++ b)
    unfolding run
    run_then b =
        rw (ap (λ (s : State). s.next) e, ap (λ (s : State). s.out) e, in_groups_append a b, length-append (in_groups a) (in_groups b))
        (ap₂ (λ (k : ℕ) (l : List ℕ). state k l) (sum at (length (in_groups a)) (length (in_groups b))) (sym (sets_append (in_groups a) (in_groups b) out at)))
      where
        sum : (x y z : ℕ) → x + y + z ≡ x + (y + z)
        sum x y z = omega arith

    pub run_more : (b : List ℕ) (q : ℕ) (end : List ℕ) → state q end ≡ run now p b → state q end ≡ run out at (a ++ b)
    run_more b q end h = h ∙ run_then b

-- ---- the same of a sheet's numbers and what is added to them

pub nothing_adds : (t : Numbers) → Adds t [] t
nothing_adds t = record { same_buffer = refl; wrote = run_none t.out.now t.at }

pub adds_then : {s t u : Numbers} {a b : List ℕ} → Adds s a t → Adds t b u → Adds s (a ++ b) u
adds_then {s} {t} {u} {a} {b} x y = record {
  same_buffer = y.same_buffer ∙ x.same_buffer;
  wrote = run_more s.out.now s.at a t.at t.out.now x.wrote b u.at u.out.now y.wrote;
}

-- ---- a loop has written some numbers of a whole, and the rest is left
pub record Leaves (before : Numbers) (whole : List ℕ) (after : Numbers) (rest : List ℕ) : Type 0 where
  pub same_buffer : after.out.ghost_name ≡ before.out.ghost_name
  pub same_end : run after.out.now after.at rest ≡ run before.out.now before.at whole

pub leaves_all : (t : Numbers) (whole : List ℕ) → Leaves t whole t whole
leaves_all t whole = record { same_buffer = refl; same_end = refl }

pub leaves_less : {s t u : Numbers} {whole a b : List ℕ} → Leaves s whole t (a ++ b) → Adds t a u → Leaves s whole u b
leaves_less {s} {t} {u} {whole} {a} {b} x y = record {
  same_buffer = y.same_buffer ∙ x.same_buffer;
  same_end = run_then t.out.now t.at a u.at u.out.now y.wrote b ∙ x.same_end;
}

pub leaves_none : {s t : Numbers} {whole : List ℕ} → Leaves s whole t [] → Adds s whole t
leaves_none {s} {t} x = record { same_buffer = x.same_buffer; wrote = run_none t.out.now t.at ∙ x.same_end }
