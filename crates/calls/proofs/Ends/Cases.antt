-- What an outcome of Ends says where its answer is known: each number with its values belongs to one of the three cases.
use mathlib.Core.Path.{◌≡◌, refl, sym, ◌∙◌}
use mathlib.Core.Logic.{◌≢◌}
use mathlib.Core.List.{List, [], ◌∷◌, ◌++◌}
use Prim.Native.Nat.{ℕ}
use native.Mathlib.Omega.{arith}
use lib.ListN.{length}
use Rattle.theory.specs.Ends.{High, open_end, up_to}
use Rattle.tables.specs.Sheets.{Sheet}
use Rattle.tables.specs.Answers.{Answer, answer}
use Rattle.tables.proofs.Answers.{number_same, value_same, many_same}
use Rattle.windows.specs.Circuits.{Step}
use Rattle.calls.specs.Circuits.{onto}
use Rattle.calls.specs.Ends.{ends_refusal, ends_values, Finds, Lacks, Outcome, found, none, refused}

-- the ends and the arc counts, in numbers
abbrev pub found_answer : ℕ → ℕ → High → ℕ → ℕ → Answer
found_answer top bottom high count₁ count₂ = answer 0 (ends_values top bottom high ++ count₁ ∷ count₂ ∷ [])

-- no refusal fits, and two circuits, so many arcs each, stand in the buffers and show what they are given for
pub record Gives (s : Sheet) (Shows : List Step → List Step → Type 0) (first₀ second₀ : List ℕ) (count₁ count₂ : ℕ) (first second : List ℕ) : Type 0 where
  pub unrefused : ends_refusal s first₀ second₀ ≡ 0
  pub cs : List Step
  pub ds : List Step
  pub counted₁ : length cs ≡ count₁
  pub counted₂ : length ds ≡ count₂
  pub shown : Shows cs ds
  pub first_is : first ≡ onto cs first₀
  pub second_is : second ≡ onto ds second₀

-- the values tell the ends and the counts
values_tell : (t b : ℕ) (h : High) (c d t' b' : ℕ) (h' : High) (c' d' : ℕ) → found_answer t b h c d ≡ found_answer t' b' h' c' d' → (t ≡ t') × (b ≡ b') × (h ≡ h') × (c ≡ c') × (d ≡ d')
values_tell t b open_end c d t' b' open_end c' d' e = (value_same 0 e, value_same 1 e, refl, value_same 2 e, value_same 3 e)
values_tell t b open_end c d t' b' (up_to x y) c' d' e = absurd (omega (arith, many_same e))
values_tell t b (up_to x y) c d t' b' open_end c' d' e = absurd (omega (arith, many_same e))
values_tell t b (up_to x y) c d t' b' (up_to x' y') c' d' e = (value_same 0 e, value_same 1 e, same (value_same 2 e) (value_same 3 e), value_same 4 e, value_same 5 e)
  where
    same : x ≡ x' → y ≡ y' → up_to x y ≡ up_to x' y'
    same f g = rw (f, g)

module _ {s : Sheet} {first₀ second₀ first second : List ℕ} where
  pub found_is : (top bottom : ℕ) (high : High) (count₁ count₂ : ℕ) → Outcome s first₀ second₀ (found_answer top bottom high count₁ count₂) first second
      → Gives s (Finds s top bottom high) first₀ second₀ count₁ count₂ first second
  found_is top bottom high count₁ count₂ (found t b h cs ds e unrefused is same same') =
      let v = values_tell top bottom high count₁ count₂ t b h (length cs) (length ds) e in
      record {
        unrefused = unrefused;
        cs = cs;
        ds = ds;
        counted₁ = sym v.3;
        counted₂ = sym v.4;
        shown = finds_as t top b bottom h high cs ds (sym v.0) (sym v.1) (sym v.2) is;
        first_is = same;
        second_is = same';
      }
    where
      finds_as : (t t' b b' : ℕ) (h h' : High) (cs ds : List Step) → t ≡ t' → b ≡ b' → h ≡ h' → Finds s t b h cs ds → Finds s t' b' h' cs ds
      finds_as t t' b b' h h' cs ds x y z f = rw (← x, ← y, ← z) f
  found_is top bottom high count₁ count₂ (none cs ds e unrefused is same same') = absurd (omega (arith, number_same e))
  found_is top bottom high count₁ count₂ (refused k e is some same same') = absurd (some (sym (number_same e)))

  pub none_is : (count₁ count₂ : ℕ) → Outcome s first₀ second₀ (answer 101 (count₁ ∷ count₂ ∷ [])) first second → Gives s (Lacks s) first₀ second₀ count₁ count₂ first second
  none_is count₁ count₂ (found t b h cs ds e unrefused is same same') = absurd (omega (arith, number_same e))
  none_is count₁ count₂ (none cs ds e unrefused is same same') =
      record { unrefused = unrefused; cs = cs; ds = ds; counted₁ = sym (value_same 0 e); counted₂ = sym (value_same 1 e); shown = is; first_is = same; second_is = same' }
  none_is count₁ count₂ (refused k e is some same same') = absurd (omega (arith, many_same e))

  pub refused_is : (k : ℕ) → Outcome s first₀ second₀ (answer k []) first second → (ends_refusal s first₀ second₀ ≡ k) × (k ≢ 0) × (first ≡ first₀) × (second ≡ second₀)
  refused_is k (found t b h cs ds e unrefused is same same') = absurd (some_values h (many_same e))
    where
      some_values : (h : High) → 0 ≡ length (ends_values t b h ++ length cs ∷ length ds ∷ []) → ⊥
      some_values open_end f = omega (arith, f)
      some_values (up_to x y) f = omega (arith, f)
  refused_is k (none cs ds e unrefused is same same') = absurd (omega (arith, many_same e))
  refused_is k (refused j e is some same same') = (is ∙ sym (number_same e), (λ zero. some (sym (number_same e) ∙ zero)), same, same')
