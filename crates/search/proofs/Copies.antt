-- A copy of the first numbers of one list over those of another, number by number.
use mathlib.Core.Path.{◌≡◌, sym, ap, ◌∙◌}
use mathlib.Core.List.{List, ◌++◌}
use Prim.Native.Nat.{ℕ, suc, ◌+◌, ◌≤◌, ◌<◌}
use native.Mathlib.Omega.{arith}
use native.Mathlib.Numerals.{add-one}
use lib.ListN.{get_or, length, take, drop, set, length-append, length-drop}
use lib.Seq.{take-suc, drop-cons, set_at, append_snoc, length-take-le}
use Rattle.search.specs.Copies.{copied}

pub copied_length : (from : List ℕ) (k : ℕ) (to : List ℕ) → k ≤ length from → k ≤ length to → length (copied from k to) ≡ length to
copied_length from k to h g = omega (arith, length-append (take k from) (drop k to), length-drop k to, length-take-le k from h)

pub copied_more : (from : List ℕ) (k : ℕ) (to now : List ℕ) → k < length from → k < length to → now ≡ copied from k to → set now k (get_or from k 0) ≡ copied from (k + 1) to
copied_more from k to now h g e =
    ap (λ (l : List ℕ). set l k (get_or from k 0)) (e ∙ ap (λ (l : List ℕ). take k from ++ l) (drop-cons to k 0 g))
    ∙ set_at (take k from) (get_or to k 0) (drop (suc k) to) (get_or from k 0) k (length-take-le k from (omega arith))
    ∙ sym (append_snoc (take k from) (get_or from k 0) (drop (suc k) to))
    ∙ ap (λ (l : List ℕ). l ++ drop (suc k) to) (sym (take-suc from k 0 h))
    ∙ ap (λ (n : ℕ). copied from n to) (sym (add-one k))
