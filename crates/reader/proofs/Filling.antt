-- A walk over the whole file, which fills tables and schedule: the laws of `Fills`.
use mathlib.Core.Path.{◌≡◌, refl, sym, ap, subst}
use mathlib.Core.List.{List}
use Prim.Native.Nat.{ℕ, ◌≤◌}
use mathlib.Core.Bool.{◌&&◌}
use lib.Dec.{leb}
use lib.IntN.{ℤ}
use lib.ListN.{length}
use lib.Seq.{sets}
use Rattle.std.specs.Prelude.{Result, Ok, Err}
use Rattle.numbers.specs.Refusals.{said}
use Rattle.numbers.specs.declared.refusals.Refusal as code
use Rattle.tables.specs.Sheets.{Sheet, places}
use Rattle.reader.specs.Answers.{roomy}
use Rattle.sheet.specs.File.{Part, got, refused, sheet_in}
use Rattle.sheet.proofs.Sheets.{sheeted}
use Rattle.reader.specs.Steps.{counted, Fills}
use Rattle.reader.specs.declared.Counts.{Counts}

pub record Filled (x : Part Sheet) (c : Counts) : Type 0 where
  pub s : Sheet
  pub next : ℕ
  pub is : x ≡ got s next
  pub counts : counted s ≡ c

module _ (x : Part Sheet) (t₀ : List ℤ) (s₀ : List ℕ) (r : Result Counts code.Refusal) (t : List ℤ) (v : List ℕ) where
  pub filled : (c : Counts) → r ≡ Ok c → Fills x t₀ s₀ r t v → Filled x c
  unfolding Fills
  filled = cases x
    where
      cases : (x : Part Sheet) → (c : Counts) → r ≡ Ok c → Fills x t₀ s₀ r t v → Filled x c
      cases (got s next) c e h = record { s = s; next = next; is = refl; counts = cc }
      cases (refused why) c e h = absurd (rw e at h)

  pub unfilled : (why : code.Refusal) → r ≡ Err why → Fills x t₀ s₀ r t v → x ≡ refused (said why)
  unfolding Fills
  unfilled = cases x
    where
      cases : (x : Part Sheet) → (why : code.Refusal) → r ≡ Err why → Fills x t₀ s₀ r t v → x ≡ refused (said why)
      cases (got s next) why e h = cc
      cases (refused j) why e h = ap refused (sym (rw e at h))

pub fills_refused : (x : Part Sheet) (t₀ : List ℤ) (s₀ : List ℕ) (t : List ℤ) (v : List ℕ) (why : code.Refusal) → x ≡ refused (said why) → Fills x t₀ s₀ (Err why) t v
unfolding Fills
fills_refused x t₀ s₀ t v why e = rw e refl

pub fills_done : (x : Part Sheet) (t₀ : List ℤ) (s₀ : List ℕ) (t : List ℤ) (v : List ℕ) (s : Sheet) (next : ℕ) → x ≡ got s next
    → t ≡ sets t₀ 0 s.tables → v ≡ sets s₀ 0 s.schedule → Fills x t₀ s₀ (Ok (counted s)) t v
unfolding Fills
fills_done x t₀ s₀ t v s next e p q = rw e (refl, p, q)

-- what was read is small
pub small : (file : List ℕ) (c : Counts) → Filled (sheet_in file) c → (c.n ≤ 12) × (c.m ≤ 8)
small file c f =
    let k = (sheeted file f.s f.next f.is).count in
    (subst (λ (x : Counts). x.n ≤ 12) f.counts k.few_events, subst (λ (x : Counts). x.m ≤ 8) f.counts k.few_modes)

-- whether there is room for it, by its counts
pub room : (x : Part Sheet) (c : Counts) (f : Filled x c) (t : List ℤ) (v : List ℕ) (k : ℕ) → k ≡ places c.n c.m → roomy f.s t v ≡ (leb k (length t) && leb c.positions (length v))
room x c f t v k e = rw e (ap (λ (z : Counts). leb (places z.n z.m) (length t) && leb z.positions (length v)) f.counts)
