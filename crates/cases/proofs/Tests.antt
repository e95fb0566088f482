-- Tests that compute, for sheets that are written out: a test that comes out true shows what it tests.
use mathlib.Core.Path.{◌≡◌, refl, sym, ◌∙◌}
use mathlib.Core.Logic.{inl, inr}
use mathlib.Core.Bool.{Bool, true, false, not, ◌&&◌}
use mathlib.Core.List.{List, [], ◌∷◌, map}
use Prim.Native.Nat.{ℕ, zero, suc, pred, ◌+◌, ◌-◌, ◌*◌, ◌%◌, ◌≤◌, ◌<◌}
use native.Mathlib.Omega.{arith}
use native.Mathlib.Nat.{le_of_dvd, pos_of_dvd_of_pos, mod-eq-zero_of_dvd}
use native.Mathlib.Decide.{ℕ_discrete, dec_lt}
use borrow.Author.Tests.{leb-true, ltb-true, eqb-true, eq-eqb, not-true}
use lib.Dec.{leb, ltb, eqb}
use lib.ListN.{get_or}
use Rattle.theory.specs.Arcs.{Arc, rise, fall, Works, table, Still, Rounds, Within}
use Rattle.theory.specs.Circuits.{Fresh, Distinct, total, Walk, departures, Smallest, ups, downs, forths, backs}
use Rattle.theory.specs.Ends.{Lowest, High, open_end, up_to, LowShown, at_zero, above_zero, HighShown, no_limit, limit, NoneShown, single, double}
use Rattle.theory.proofs.Rounds.{still_later}
use Rattle.theory.proofs.Loops.{still_works}
use Rattle.tables.proofs.Laws.{clash}
use Rattle.tables.specs.Sheets.{Sheet, absent, within}
use Rattle.tables.proofs.Laws.{both, within_is}
use Rattle.windows.specs.Arcs.{nodes, arcs}
use Rattle.windows.specs.Circuits as circuits
use Rattle.windows.specs.Circuits.{Step, step_arc, Valid, AllValid, CircuitOf}
use Rattle.calls.specs.Circuits.{CircuitOrNone}
use Rattle.windows.proofs.Listed.{absent_some}
use Rattle.windows.proofs.Laying.{arcs_within}
use Rattle.windows.proofs.Steps.{valid_in}

-- ---- rounds

-- table r+1 is equal to table r, at each of N nodes
abbrev pub stands : List Arc → ℕ → ℕ → ℕ → ℕ → Bool
stands arcs p q zero r = true
stands arcs p q (suc N) r = eqb (table arcs p q (suc r) N) (table arcs p q r N) && stands arcs p q N r

-- r is the count of rounds
abbrev pub counted : List Arc → ℕ → ℕ → ℕ → ℕ → Bool
counted arcs p q N zero = stands arcs p q N 0
counted arcs p q N (suc r) = stands arcs p q N (suc r) && not (stands arcs p q N r)

-- the list holds table r, at each of N nodes
abbrev pub tabled : List Arc → ℕ → ℕ → ℕ → List ℕ → ℕ → Bool
tabled arcs p q r plan zero = true
tabled arcs p q r plan (suc N) = eqb (get_or plan N 0) (table arcs p q r N) && tabled arcs p q r plan N

module _ (arcs : List Arc) (p q r : ℕ) where
  pub stands_still : (N : ℕ) → stands arcs p q N r ≡ true → Still arcs p q N r
  stands_still zero e v below = absurd (omega arith)
  stands_still (suc N) e v below =
      let k = both _ (stands arcs p q N r) e in
      elim (ℕ_discrete v N) [
        | yes same ↦ rw same (eqb-true _ _ k.0)
        | no other ↦ stands_still N k.1 v (omega arith)
      ]

  still_stands : (N : ℕ) → Still arcs p q N r → stands arcs p q N r ≡ true
  still_stands zero still = refl
  still_stands (suc N) still = rw (eq-eqb _ _ (still N (omega arith)), still_stands N (λ v below. still v (omega arith)))

  pub tabled_is : (plan : List ℕ) (N : ℕ) → tabled arcs p q r plan N ≡ true → (v : ℕ) → v < N → get_or plan v 0 ≡ table arcs p q r v
  tabled_is plan zero e v below = absurd (omega arith)
  tabled_is plan (suc N) e v below =
      let k = both _ (tabled arcs p q r plan N) e in
      elim (ℕ_discrete v N) [
        | yes same ↦ rw same (eqb-true _ _ k.0)
        | no other ↦ tabled_is plan N k.1 v (omega arith)
      ]

-- still after r+1 and not after r: r+1 is the count
pub counted_is : (arcs : List Arc) (p q N r : ℕ) → Within N arcs → counted arcs p q N r ≡ true → Rounds arcs p q N r
counted_is arcs p q N zero within e = record { still = stands_still arcs p q 0 N e; least = λ k still. omega arith }
counted_is arcs p q N (suc r) within e =
    let k = both (stands arcs p q N (suc r)) (not (stands arcs p q N r)) e in
    record {
      still = stands_still arcs p q (suc r) N k.0;
      least = λ j still. elim (dec_lt r j) [
        | yes h ↦ h
        | no h ↦ absurd (clash (sym (still_stands arcs p q r N (still_later arcs p q N within j r (omega arith) still)) ∙ not-true _ k.1))
      ];
    }

-- ---- fractions

-- none of 2, 3, .., k divides both
abbrev pub apart : ℕ → ℕ → ℕ → Bool
apart a b zero = true
apart a b (suc zero) = true
apart a b (suc (suc k)) = not (eqb (a % suc (suc k)) 0 && eqb (b % suc (suc k)) 0) && apart a b (suc k)

-- a/b is in lowest terms
abbrev pub lowest : ℕ → ℕ → Bool
lowest a b = ltb 0 b && apart a b b

apart_is : (a b k : ℕ) → apart a b k ≡ true → (d : ℕ) → 2 ≤ d → d ≤ k → a % d ≡ 0 → b % d ≡ 0 → ⊥
apart_is a b zero e d some most x y = omega arith
apart_is a b (suc zero) e d some most x y = omega arith
apart_is a b (suc (suc k)) e d some most x y =
    let h = both _ (apart a b (suc k)) e in
    elim (ℕ_discrete d (suc (suc k))) [
      | yes same ↦ clash (sym (divides (a % suc (suc k)) (b % suc (suc k)) (rw (← same) x) (rw (← same) y)) ∙ not-true _ h.0)
      | no other ↦ apart_is a b (suc k) h.1 d some (omega arith) x y
    ]
  where
    divides : (x y : ℕ) → x ≡ 0 → y ≡ 0 → (eqb x 0 && eqb y 0) ≡ true
    divides x y e f = rw (eq-eqb x 0 e, eq-eqb y 0 f)

pub lowest_is : (a b : ℕ) → lowest a b ≡ true → (0 < b) × Lowest a b
lowest_is a b e =
    let h = both (ltb 0 b) (apart a b b) e in
    let some = ltb-true 0 b h.0 in (
      some,
      λ k x y. elim (dec_lt 1 k) [
        | yes more ↦ absurd (apart_is a b b h.1 k more (le_of_dvd some y) (mod-eq-zero_of_dvd k x) (mod-eq-zero_of_dvd k y))
        | no few ↦ omega (arith, pos_of_dvd_of_pos y some)
      ],
    )

-- ---- circuits

abbrev fresh : ℕ → List ℕ → Bool
fresh n [] = true
fresh n (x ∷ xs) = not (eqb n x) && fresh n xs

fresh_is : (n : ℕ) (xs : List ℕ) → fresh n xs ≡ true → Fresh n xs
fresh_is n [] e = tt
fresh_is n (x ∷ xs) e = let k = both _ (fresh n xs) e in ((λ same. clash (sym (eq-eqb n x same) ∙ not-true _ k.0)), fresh_is n xs k.1)

abbrev distinct : List ℕ → Bool
distinct [] = true
distinct (x ∷ xs) = fresh x xs && distinct xs

distinct_is : (xs : List ℕ) → distinct xs ≡ true → Distinct xs
distinct_is [] e = tt
distinct_is (x ∷ xs) e = let k = both _ (distinct xs) e in (fresh_is x xs k.0, distinct_is xs k.1)

abbrev smallest : ℕ → List ℕ → Bool
smallest v [] = true
smallest v (u ∷ rest) = leb v u && smallest v rest

smallest_is : (v : ℕ) (xs : List ℕ) → smallest v xs ≡ true → Smallest v xs
smallest_is v [] e = tt
smallest_is v (u ∷ rest) e = let k = both _ (smallest v rest) e in (leb-true v u k.0, smallest_is v rest k.1)

module _ (s : Sheet) where
  abbrev valid : Step → Bool
  valid c = within s.positions c.position && within s.n c.to && within s.n c.from && not (absent (circuits.limit s c))

  valid_is : (c : Step) → valid c ≡ true → Valid s c
  valid_is c e =
      let k = both _ (not (absent (circuits.limit s c))) e in
      let l = both _ (within s.n c.from) k.0 in
      let m = both (within s.positions c.position) (within s.n c.to) l.0 in
      let h = within_is s.positions c.position m.0 in
      record { from_first = h.0; to_last = h.1; to_event = within_is s.n c.to m.1; from_event = within_is s.n c.from l.1; present = absent_some (circuits.limit s c) (not-true _ k.1) }

  -- valid steps from node u to node v
  abbrev leads : ℕ → List Step → ℕ → Bool
  leads u [] v = eqb u v
  leads u (c ∷ rest) v = valid c && eqb (step_arc s c).departure u && leads (step_arc s c).arrival rest v

  leads_walk : (u : ℕ) (cs : List Step) (v : ℕ) → leads u cs v ≡ true → AllValid s cs × Walk (arcs s) u (map (step_arc s) cs) v
  leads_walk u [] v e = (tt, eqb-true u v e)
  leads_walk u (c ∷ rest) v e =
      let k = both _ (leads (step_arc s c).arrival rest v) e in
      let l = both (valid c) (eqb (step_arc s c).departure u) k.0 in
      let r = leads_walk (step_arc s c).arrival rest v k.1 in
      let ok = valid_is c l.0 in
      ((ok, r.0), (valid_in s c ok, eqb-true _ _ l.1, r.1))

  -- the steps are a circuit, from its smallest node on
  abbrev pub circles : List Step → Bool
  circles [] = false
  circles (c ∷ rest) =
      leads (step_arc s c).departure (c ∷ rest) (step_arc s c).departure
      && distinct (departures (map (step_arc s) (c ∷ rest)))
      && smallest (step_arc s c).departure (departures (map (step_arc s) rest))

  pub circles_is : (cs : List Step) → circles cs ≡ true → CircuitOf s cs
  circles_is [] e = absurd (clash (sym e))
  circles_is (c ∷ rest) e =
      let k = both _ (smallest (step_arc s c).departure (departures (map (step_arc s) rest))) e in
      let l = both (leads (step_arc s c).departure (c ∷ rest) (step_arc s c).departure) (distinct (departures (map (step_arc s) (c ∷ rest)))) k.0 in
      let w = leads_walk (step_arc s c).departure (c ∷ rest) (step_arc s c).departure l.0 in
      record {
        valid = w.0;
        circuit = record { node = (step_arc s c).departure; closed = w.1; nonempty = omega arith; distinct = distinct_is (departures (map (step_arc s) (c ∷ rest))) l.1 };
        first = smallest_is (step_arc s c).departure (departures (map (step_arc s) rest)) k.1;
      }

-- ---- what circuits show

-- c below 0, and above 0; the total at a/b is zero
abbrev falling : List Arc → Bool
falling c = ltb (forths c) (backs c)

abbrev climbing : List Arc → Bool
climbing c = ltb (backs c) (forths c)

abbrev level : ℕ → ℕ → List Arc → Bool
level a b c = eqb (total (rise a b) c) (total (fall a b) c)

module _ (s : Sheet) where
  abbrev arcs_of : List Step → List Arc
  arcs_of cs = map (step_arc s) cs

  -- the circuit shows that low is a/b
  abbrev pub shows_low : ℕ → ℕ → List Step → Bool
  shows_low zero b [] = true
  shows_low zero b (c ∷ rest) = false
  shows_low (suc a) b cs = circles s cs && falling (arcs_of cs) && level (suc a) b (arcs_of cs)

  pub shows_low_lem : (a b : ℕ) (cs : List Step) → shows_low a b cs ≡ true → CircuitOrNone s cs × LowShown (arcs s) b a (arcs_of cs)
  shows_low_lem zero b [] e = (inl refl, at_zero)
  shows_low_lem zero b (c ∷ rest) e = absurd (clash (sym e))
  shows_low_lem (suc a) b cs e =
      let k = both _ (level (suc a) b (arcs_of cs)) e in
      let l = both (circles s cs) (falling (arcs_of cs)) k.0 in
      let c = circles_is s cs l.0 in
      (inr c, above_zero {a = suc a} (omega arith) c.circuit (ltb-true _ _ l.1) (eqb-true _ _ k.1))

  -- and that high is open, or a fraction
  abbrev pub shows_high : High → List Step → Bool
  shows_high open_end [] = true
  shows_high open_end (c ∷ rest) = false
  shows_high (up_to a b) cs = circles s cs && climbing (arcs_of cs) && level a b (arcs_of cs)

  pub shows_high_lem : (high : High) (cs : List Step) → shows_high high cs ≡ true → CircuitOrNone s cs × HighShown (arcs s) high (arcs_of cs)
  shows_high_lem open_end [] e = (inl refl, no_limit)
  shows_high_lem open_end (c ∷ rest) e = absurd (clash (sym e))
  shows_high_lem (up_to a b) cs e =
      let k = both _ (level a b (arcs_of cs)) e in
      let l = both (circles s cs) (climbing (arcs_of cs)) k.0 in
      let c = circles_is s cs l.0 in
      (inr c, limit c.circuit (ltb-true _ _ l.1) (eqb-true _ _ k.1))

  -- one circuit shows that nothing works; or two do
  abbrev pub shows_none : List Step → Bool
  shows_none cs = circles s cs && ltb (downs (arcs_of cs)) (ups (arcs_of cs)) && leb (backs (arcs_of cs)) (forths (arcs_of cs))

  pub shows_none_lem : (cs : List Step) → shows_none cs ≡ true → CircuitOf s cs × NoneShown (arcs s) (arcs_of cs) []
  shows_none_lem cs e =
      let k = both _ (leb (backs (arcs_of cs)) (forths (arcs_of cs))) e in
      let l = both (circles s cs) (ltb (downs (arcs_of cs)) (ups (arcs_of cs))) k.0 in
      let c = circles_is s cs l.0 in
      (c, single c.circuit (ltb-true _ _ l.1) (leb-true _ _ k.1))

  abbrev clashes : List Arc → List Arc → Bool
  clashes c d = ltb (downs c * (forths d - backs d) + downs d * (backs c - forths c)) (ups c * (forths d - backs d) + ups d * (backs c - forths c))

  abbrev pub show_none : List Step → List Step → Bool
  show_none cs ds = circles s cs && falling (arcs_of cs) && circles s ds && climbing (arcs_of ds) && clashes (arcs_of cs) (arcs_of ds)

  pub show_none_lem : (cs ds : List Step) → show_none cs ds ≡ true → CircuitOf s cs × CircuitOf s ds × NoneShown (arcs s) (arcs_of cs) (arcs_of ds)
  show_none_lem cs ds e =
      let k = both _ (clashes (arcs_of cs) (arcs_of ds)) e in
      let l = both _ (climbing (arcs_of ds)) k.0 in
      let m = both _ (circles s ds) l.0 in
      let n = both (circles s cs) (falling (arcs_of cs)) m.0 in
      let c = circles_is s cs n.0 in
      let d = circles_is s ds m.1 in
      (c, d, double c.circuit (ltb-true _ _ n.1) d.circuit (ltb-true _ _ l.1) (ltb-true _ _ k.1))

  -- ---- what works

  -- the tables stand still by round N-1
  abbrev pub works : ℕ → ℕ → Bool
  works p q = stands (arcs s) p q (nodes s) (pred (nodes s))

  pub works_is : 0 < s.positions → (p q : ℕ) → works p q ≡ true → Works (arcs s) p q
  works_is some p q e = still_works (arcs s) p q (nodes s) (pred (nodes s)) (arcs_within s some) (stands_still (arcs s) p q (pred (nodes s)) (nodes s) e)
