-- Two outcomes of Ends are equal, but for which circuits, and which of the two forms of "none", are given; with the same circuits they are equal in full.
use mathlib.Core.Path.{◌≡◌, refl, sym, ap, ◌∙◌}
use mathlib.Core.Logic.{◌≢◌}
use mathlib.Core.List.{List, [], ◌∷◌, ◌++◌, map}
use Prim.Native.Nat.{ℕ}
use native.Mathlib.Omega.{arith}
use lib.ListN.{length}
use Rattle.theory.specs.Arcs.{Arc}
use Rattle.theory.specs.Ends.{High, open_end, up_to, Range, Never, LowShown, at_zero, above_zero, HighShown, no_limit, limit}
use Rattle.theory.proofs.Fractions.{range_same, low_works}
use Rattle.tables.specs.Sheets.{Sheet}
use Rattle.tables.specs.Answers.{Answer, answer}
use Rattle.tables.proofs.Answers.{number_same}
use Rattle.windows.specs.Inequalities.{Runs}
use Rattle.windows.specs.Circuits.{Step, step_arc}
use Rattle.calls.specs.Circuits.{onto}
use Rattle.calls.proofs.Ends.Cases.{found_answer, found_is}
use Rattle.calls.specs.Ends.{ends_values, Outcome, found, none, refused, given_first, given_second, but_counts, Agree}

-- the ends alone
but_counts_lem : (top bottom : ℕ) (high : High) (count₁ count₂ : ℕ) → but_counts (found_answer top bottom high count₁ count₂) ≡ ends_values top bottom high
but_counts_lem top bottom open_end count₁ count₂ = refl
but_counts_lem top bottom (up_to c d) count₁ count₂ = refl

same_ends : (t b t' b' : ℕ) (h h' : High) → t ≡ t' → b ≡ b' → h ≡ h' → ends_values t b h ≡ ends_values t' b' h'
same_ends t b t' b' h h' x y z = rw (x, y, z)

same_found : (t b t' b' : ℕ) (h h' : High) (c d c' d' : ℕ) → t ≡ t' → b ≡ b' → h ≡ h' → c ≡ c' → d ≡ d' → found_answer t b h c d ≡ found_answer t' b' h' c' d'
same_found t b t' b' h h' c d c' d' x y z u v = rw (x, y, z, u, v)

low_none : {arcs : List Arc} {b a : ℕ} {c : List Arc} → LowShown arcs b a c → a ≡ 0 → c ≡ []
low_none at_zero e = refl
low_none (above_zero some ring falls level) e = absurd (omega arith)

high_none : {arcs : List Arc} {h : High} {c : List Arc} → HighShown arcs h c → h ≡ open_end → c ≡ []
high_none no_limit e = refl
high_none (limit ring climbs level) e = let z : ◌≡◌ {A = ℕ} 0 1 = cc in absurd (omega arith)

module _ (s : Sheet) where
  clash : (top bottom : ℕ) (high : High) → Range (Runs s) top bottom high → Never (Runs s) → ⊥
  clash top bottom high range never = never top bottom range.bottom (low_works (Runs s) top bottom high range)

module _ (s : Sheet) (first₀ second₀ : List ℕ) where
  agrees : (a b c d : Answer) → a ≡ c → b ≡ d → Agree c d → Agree a b
  agrees a b c d e f g = rw (e, f) g

  -- THEOREM: two outcomes of Ends agree: the same number, and the same ends or the same refusal
  pub outcome_same : (a b : Answer) (first second first' second' : List ℕ) → Outcome s first₀ second₀ a first second → Outcome s first₀ second₀ b first' second' → Agree a b
  outcome_same a b first second first' second' (found t u h cs ds e unrefused is same more) (found t' u' h' cs' ds' e' unrefused' is' same' more') =
      let r = range_same (Runs s) t u t' u' h h' is.range is'.range in
      agrees a b _ _ e e' (refl, but_counts_lem t u h (length cs) (length ds) ∙ same_ends t u t' u' h h' r.0 r.1 r.2 ∙ sym (but_counts_lem t' u' h' (length cs') (length ds')))
  outcome_same a b first second first' second' (found t u h cs ds e unrefused is same more) (none cs' ds' e' unrefused' is' same' more') = absurd (clash s t u h is.range is'.never)
  outcome_same a b first second first' second' (found t u h cs ds e unrefused is same more) (refused k e' is' some same' more') = absurd (some (sym is' ∙ unrefused))
  outcome_same a b first second first' second' (none cs ds e unrefused is same more) (found t' u' h' cs' ds' e' unrefused' is' same' more') = absurd (clash s t' u' h' is'.range is.never)
  outcome_same a b first second first' second' (none cs ds e unrefused is same more) (none cs' ds' e' unrefused' is' same' more') = agrees a b _ _ e e' (refl, refl)
  outcome_same a b first second first' second' (none cs ds e unrefused is same more) (refused k e' is' some same' more') = absurd (some (sym is' ∙ unrefused))
  outcome_same a b first second first' second' (refused k e is some same more) (found t' u' h' cs' ds' e' unrefused' is' same' more') = absurd (some (sym is ∙ unrefused'))
  outcome_same a b first second first' second' (refused k e is some same more) (none cs' ds' e' unrefused' is' same' more') = absurd (some (sym is ∙ unrefused'))
  outcome_same a b first second first' second' (refused k e is some same more) (refused k' e' is' some' same' more') = agrees a b _ _ e e' (sym is ∙ is', refl)

  -- THEOREM: two outcomes of Ends with the same circuits are equal: the answer, its number and all its values, and every place of both buffers
  pub outcome_equal : (a b : Answer) (first second first' second' : List ℕ) (x : Outcome s first₀ second₀ a first second) (y : Outcome s first₀ second₀ b first' second')
      → given_first x ≡ given_first y → given_second x ≡ given_second y → (a ≡ b) × (first ≡ first') × (second ≡ second')
  outcome_equal a b first second first' second' (found t u h cs ds e unrefused is same more) (found t' u' h' cs' ds' e' unrefused' is' same' more') c d =
      let r = range_same (Runs s) t u t' u' h h' is.range is'.range in (
        e ∙ same_found t u t' u' h h' (length cs) (length ds) (length cs') (length ds') r.0 r.1 r.2 (ap length c) (ap length d) ∙ sym e',
        same ∙ ap (λ (l : List Step). onto l first₀) c ∙ sym same',
        more ∙ ap (λ (l : List Step). onto l second₀) d ∙ sym more',
      )
  outcome_equal a b first second first' second' (found t u h cs ds e unrefused is same more) (none cs' ds' e' unrefused' is' same' more') c d = absurd (clash s t u h is.range is'.never)
  outcome_equal a b first second first' second' (found t u h cs ds e unrefused is same more) (refused k e' is' some same' more') c d = absurd (some (sym is' ∙ unrefused))
  outcome_equal a b first second first' second' (none cs ds e unrefused is same more) (found t' u' h' cs' ds' e' unrefused' is' same' more') c d = absurd (clash s t' u' h' is'.range is.never)
  outcome_equal a b first second first' second' (none cs ds e unrefused is same more) (none cs' ds' e' unrefused' is' same' more') c d = (
    let one : cs ≡ cs' = c in let two : ds ≡ ds' = d in rw (e, e', one, two),
    same ∙ ap (λ (l : List Step). onto l first₀) c ∙ sym same',
    more ∙ ap (λ (l : List Step). onto l second₀) d ∙ sym more',
  )
  outcome_equal a b first second first' second' (none cs ds e unrefused is same more) (refused k e' is' some same' more') c d = absurd (some (sym is' ∙ unrefused))
  outcome_equal a b first second first' second' (refused k e is some same more) (found t' u' h' cs' ds' e' unrefused' is' same' more') c d = absurd (some (sym is ∙ unrefused'))
  outcome_equal a b first second first' second' (refused k e is some same more) (none cs' ds' e' unrefused' is' same' more') c d = absurd (some (sym is ∙ unrefused'))
  outcome_equal a b first second first' second' (refused k e is some same more) (refused k' e' is' some' same' more') c d =
      (e ∙ ap (λ (n : ℕ). answer n []) (sym is ∙ is') ∙ sym e', same ∙ sym same', more ∙ sym more')

  -- a number that is neither 0 nor 101 is a refusal's, which gives no circuit
  refused_none : (a : Answer) (first second : List ℕ) (x : Outcome s first₀ second₀ a first second) → a.number ≢ 0 → a.number ≢ 101 → (given_first x ≡ []) × (given_second x ≡ [])
  refused_none a first second (found t u h cs ds e unrefused is same more) not-0 not-101 = absurd (not-0 (number_same e))
  refused_none a first second (none cs ds e unrefused is same more) not-0 not-101 = absurd (not-101 (number_same e))
  refused_none a first second (refused k e is some same more) not-0 not-101 = (refl, refl)

  -- THEOREM: so two refusals are equal, and leave the same buffers, which are those lent
  pub refused_same : (a b : Answer) (first second first' second' : List ℕ) → Outcome s first₀ second₀ a first second → Outcome s first₀ second₀ b first' second' → a.number ≢ 0 → a.number ≢ 101
      → (a ≡ b) × (first ≡ first') × (second ≡ second')
  refused_same a b first second first' second' x y not-0 not-101 =
      let n = (outcome_same a b first second first' second' x y).0 in
      let g = refused_none a first second x not-0 not-101 in
      let h = refused_none b first' second' y (λ e. not-0 (n ∙ e)) (λ e. not-101 (n ∙ e)) in
      outcome_equal a b first second first' second' x y (g.0 ∙ sym h.0) (g.1 ∙ sym h.1)

  -- no arcs: nothing is counted and nothing written
  unwritten : (cs : List Step) (count : ℕ) (before after : List ℕ) → length cs ≡ count → after ≡ onto cs before → map (step_arc s) cs ≡ [] → (count ≡ 0) × (after ≡ before)
  unwritten [] count before after counted is empty = (sym counted, is)
  unwritten (c ∷ cs) count before after counted is empty = let z : ◌≡◌ {A = ℕ} 0 1 = cc in absurd (omega arith)

  -- THEOREM: where low is 0 there is no circuit of low: the count is 0, and the buffer is as it was lent
  pub no_low : (bottom : ℕ) (high : High) (count₁ count₂ : ℕ) (first second : List ℕ) → Outcome s first₀ second₀ (answer 0 (ends_values 0 bottom high ++ count₁ ∷ count₂ ∷ [])) first second
      → (count₁ ≡ 0) × (first ≡ first₀)
  no_low bottom high count₁ count₂ first second x =
      let g = found_is 0 bottom high count₁ count₂ x in
      unwritten g.cs count₁ first₀ first g.counted₁ g.first_is (low_none g.shown.low_shown refl)

  -- THEOREM: and where high is open there is none of high
  pub no_high : (top bottom count₁ count₂ : ℕ) (first second : List ℕ) → Outcome s first₀ second₀ (answer 0 (ends_values top bottom open_end ++ count₁ ∷ count₂ ∷ [])) first second
      → (count₂ ≡ 0) × (second ≡ second₀)
  no_high top bottom count₁ count₂ first second x =
      let g = found_is top bottom open_end count₁ count₂ x in
      unwritten g.ds count₂ second₀ second g.counted₂ g.second_is (high_none g.shown.high_shown refl)
