-- Text after text in a buffer: the laws of `Puts` and `Adds`.
use mathlib.Core.Path.{◌≡◌, refl, sym, ap, ◌∙◌}
use mathlib.Core.List.{List, [], ◌∷◌, ◌++◌}
use Prim.Native.Nat.{ℕ, suc, ◌+◌, ◌<◌}
use native.Mathlib.Omega.{arith}
use native.Mathlib.Nat.{add-zero}
use native.Mathlib.Numerals.{add-one}
use lib.ListN.{get_or, length, set, take, length-append}
use lib.Seq.{sets, take-suc}
use Rattle.text.specs.Text.{Puts, Adds}
use Rattle.text.specs.declared.Text.{Text}

-- the second run of stores begins where the first ends
sets_append : (l : List ℕ) (at : ℕ) (xs ys : List ℕ) → sets (sets l at xs) (at + length xs) ys ≡ sets l at (xs ++ ys)
sets_append l at [] ys = ap (λ (i : ℕ). sets l i ys) (add-zero at)
sets_append l at (x ∷ xs) ys = ap (λ (i : ℕ). sets (sets (set l at x) (suc at) xs) i ys) (further at (length xs)) ∙ sets_append (set l at x) (suc at) xs ys
  where
    further : (i k : ℕ) → i + suc k ≡ suc i + k
    further i k = omega arith

-- no text
pub nothing_puts : (o : List ℕ) (at : ℕ) → Puts o at [] at o
nothing_puts o at = record { next_is = sym (add-zero at); out_is = refl }

-- a text and then another
pub puts_then : {o mid out : List ℕ} {at next end : ℕ} {a b : List ℕ} → Puts o at a next mid → Puts mid next b end out → Puts o at (a ++ b) end out
puts_then {o} {mid} {out} {at} {next} {end} {a} {b} x y = record {
  next_is = omega (arith, x.next_is, y.next_is, length-append a b);
  out_is = y.out_is ∙ ap (λ (l : List ℕ). sets l next b) x.out_is ∙ ap (λ (i : ℕ). sets (sets o at a) i b) x.next_is ∙ sets_append o at a b;
}

-- ---- the same of a text and what is added to it

pub nothing_adds : (t : Text) → Adds t [] t
nothing_adds t = record { same_buffer = refl; puts = nothing_puts t.out.now t.at }

pub adds_then : {s t u : Text} {a b : List ℕ} → Adds s a t → Adds t b u → Adds s (a ++ b) u
adds_then x y = record { same_buffer = y.same_buffer ∙ x.same_buffer; puts = puts_then x.puts y.puts }

-- one byte more of a word
pub adds_more : {s t u : Text} (word : List ℕ) (k : ℕ) → k < length word → Adds s (take k word) t → Adds t (get_or word k 0 ∷ []) u → Adds s (take (k + 1) word) u
adds_more word k h x y = rw (add-one k, take-suc word k 0 h) (adds_then x y)
