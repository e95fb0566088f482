-- Each arm makes the arc of its kind; a number past 3 is no kind.
use native.Mathlib.Omega.{arith}
use native.Mathlib.Nat.{mul-le-mul}
use mathlib.Core.Path.{◌≡◌, refl, sym, ap, ap₂, ◌∙◌}
use Prim.Native.Nat.{ℕ, zero, suc, ◌+◌, ◌-◌, ◌*◌, ◌≤◌}
use Rattle.numbers.proofs.Signs.{passed}
use Rattle.windows.specs.Arcs.{up, down}
use Rattle.edges.specs.declared.Record.{Record}
use Rattle.edges.specs.Edges.{by_kind, edge}
use Rattle.edges.proofs.edge_of.Goals as goal

other : (k : ℕ) (a : Record) (q here next cross : ℕ) → 4 ≤ k → edge 0 0 0 0 ≡ by_kind k a q here next cross
unfolding by_kind
other zero a q here next cross h = absurd (omega arith)
other (suc zero) a q here next cross h = absurd (omega arith)
other (suc (suc zero)) a q here next cross h = absurd (omega arith)
other (suc (suc (suc zero))) a q here next cross h = absurd (omega arith)
other (suc (suc (suc (suc k)))) a q here next cross h = refl

-- the product with q is small
product : (q u m : ℕ) → q ≤ 1000 → u ≤ m → q * u ≤ 1000 * m
product q u m h k = mul-le-mul h k

-- the arm of a kind
arm : (k : ℕ) (a : Record) (q here next cross : ℕ) → a.kind ≡ k → by_kind k a q here next cross ≡ by_kind a.kind a q here next cross
arm k a q here next cross e = ap (λ (j : ℕ). by_kind j a q here next cross) (sym e)

pub overflow_mul-up : goal.overflow_mul-up
overflow_mul-up c = omega (arith, product c.args.at.q c.upper.result 2147483648 c.requires.2 (omega (arith, c.upper.ensures.1)))

pub overflow_mul-down : goal.overflow_mul-down
overflow_mul-down c = omega (arith, product c.args.at.q c.lower.result 2147483648 c.requires.2 (omega (arith, c.lower.ensures.1)))

pub overflow_add-crossed : goal.overflow_add-crossed
overflow_add-crossed c = let r = c.lower in
    omega (arith, product c.args.at.q r.result 2147483648 c.requires.2 (omega (arith, r.ensures.1)), c.requires.5)

pub returns-in-0 : goal.returns-in-0
unfolding by_kind
returns-in-0 c =
    let up_is : c.upper.result ≡ up c.args.w.w = c.upper.ensures.0 ∙ ap up (passed c.args.w.w c.struct_told-1.given.1.1.1.0.1) in
    let down_is : c.lower.result ≡ down c.args.w.w = c.lower.ensures.0 ∙ ap down (passed c.args.w.w c.struct_told-2-1.given.1.1.1.0.1) in
    let a = c.args in
    c.between.ensures ∙ ap₂ (λ (t f : ℕ). edge (a.at.here + f - 1) (a.at.here + t - 1) (a.at.q * c.upper.result) (a.at.q * c.lower.result)) c.from-to.ensures c.from-from.ensures ∙ ap₂ (λ (u d : ℕ). edge (a.at.here + a.w.from - 1) (a.at.here + a.w.to - 1) (a.at.q * u) (a.at.q * d)) up_is down_is ∙ arm 0 a.w a.at.q a.at.here a.at.next a.at.cross c.in-0.is

pub returns-in-1 : goal.returns-in-1
unfolding by_kind
returns-in-1 c =
    let up_is : c.upper.result ≡ up c.args.w.w = c.upper.ensures.0 ∙ ap up (passed c.args.w.w c.struct_told-1.given.1.1.1.0.1) in
    let down_is : c.lower.result ≡ down c.args.w.w = c.lower.ensures.0 ∙ ap down (passed c.args.w.w c.struct_told-2-1.given.1.1.1.0.1) in
    let a = c.args in
    c.between-in-1.ensures ∙ ap₂ (λ (t f : ℕ). edge (a.at.here + t - 1) (a.at.here + f - 1) (a.at.q * c.lower.result) (a.at.q * c.upper.result)) c.from-to.ensures c.from-from.ensures ∙ ap₂ (λ (u d : ℕ). edge (a.at.here + a.w.to - 1) (a.at.here + a.w.from - 1) (a.at.q * d) (a.at.q * u)) up_is down_is ∙ arm 1 a.w a.at.q a.at.here a.at.next a.at.cross c.in-1.is

pub returns-in-2 : goal.returns-in-2
unfolding by_kind
returns-in-2 c =
    let up_is : c.upper.result ≡ up c.args.w.w = c.upper.ensures.0 ∙ ap up (passed c.args.w.w c.struct_told-1.given.1.1.1.0.1) in
    let down_is : c.lower.result ≡ down c.args.w.w = c.lower.ensures.0 ∙ ap down (passed c.args.w.w c.struct_told-2-1.given.1.1.1.0.1) in
    let a = c.args in
    c.between-in-2.ensures ∙ ap₂ (λ (t f : ℕ). edge (a.at.here + f - 1) (a.at.next + t - 1) (a.at.q * c.upper.result) (a.at.q * c.lower.result + a.at.cross)) c.from-to.ensures c.from-from.ensures ∙ ap₂ (λ (u d : ℕ). edge (a.at.here + a.w.from - 1) (a.at.next + a.w.to - 1) (a.at.q * u) (a.at.q * d + a.at.cross)) up_is down_is ∙ arm 2 a.w a.at.q a.at.here a.at.next a.at.cross c.in-2.is

pub returns-in-3 : goal.returns-in-3
unfolding by_kind
returns-in-3 c =
    let up_is : c.upper.result ≡ up c.args.w.w = c.upper.ensures.0 ∙ ap up (passed c.args.w.w c.struct_told-1.given.1.1.1.0.1) in
    let down_is : c.lower.result ≡ down c.args.w.w = c.lower.ensures.0 ∙ ap down (passed c.args.w.w c.struct_told-2-1.given.1.1.1.0.1) in
    let a = c.args in
    c.between-in-3.ensures ∙ ap₂ (λ (t f : ℕ). edge (a.at.next + t - 1) (a.at.here + f - 1) (a.at.q * c.lower.result + a.at.cross) (a.at.q * c.upper.result)) c.from-to.ensures c.from-from.ensures ∙ ap₂ (λ (u d : ℕ). edge (a.at.next + a.w.to - 1) (a.at.here + a.w.from - 1) (a.at.q * d + a.at.cross) (a.at.q * u)) up_is down_is ∙ arm 3 a.w a.at.q a.at.here a.at.next a.at.cross c.in-3.is

pub returns-in-4-to-255 : goal.returns-in-4-to-255
returns-in-4-to-255 c = let a = c.args in
    c.between-in-4-to-255.ensures ∙ other a.w.kind a.w a.at.q a.at.here a.at.next a.at.cross (omega arith)
