-- An f64 sum from minus zero is the sum from plus zero, but for the sign of a sum that is zero; no comparison with plus zero sees that. Assumes nothing.
use mathlib.Core.Path.{◌≡◌, refl, sym, ap, ◌∙◌, subst}
use mathlib.Core.Bool.{Bool, true, false, true≢false}
use mathlib.Core.Logic.{◌⊎◌, inl, inr}
use Prim.Native.Nat.{ℕ, zero, suc, ◌+◌, ◌-◌, ◌*◌, ◌<◌, zero-le}
use native.Mathlib.Nat.{zero-lt-suc, zero-mul, mul-pos}
use native.Mathlib.Omega.{arith}
use lib.Ieee.{Float, nan, inf, fin, binary64, up, down, round, sum, add, le, lt, eq, of_bits}
use lib.Ieee.Fits.{down_pos}
use lib.Ieee.Scale.{round_same}
use borrow.Author.Tests.{lt-ltb}
use Rattle.laws.specs.Loop.{loop}
use Rattle.laws.specs.Scaled.{plus_zero, minus_zero}
use Rattle.laws.proofs.Loop.{loops-together}

-- equal, or minus zero and plus zero
abbrev pub ButZeroSign : Float → Float → Type 0
ButZeroSign x y = (x ≡ y) ⊎ ((x ≡ minus_zero) × (y ≡ plus_zero))

-- ---- one summand
none : (s : Bool) (c : ℕ) → 0 < c → round binary64 s 0 c ≡ round binary64 s 0 1
none s c h = round_same binary64 s 0 c 0 1 h (zero-lt-suc 0) (zero-mul 1 ∙ sym (zero-mul c))

pub round-minus : (c : ℕ) → 0 < c → round binary64 true 0 c ≡ minus_zero
unfolding round of_bits
round-minus c h = none true c h

pub round-plus : (c : ℕ) → 0 < c → round binary64 false 0 c ≡ plus_zero
unfolding round of_bits
round-plus c h = none false c h

-- a summand of sign t and size b / c
sums : (t : Bool) (b c : ℕ) → 0 < c → ButZeroSign (sum binary64 true 0 t b c) (sum binary64 false 0 t b c)
unfolding sum
sums false zero c h = inl refl
sums false (suc b) c h =
    let n : suc b - 0 ≡ 0 + suc b = omega arith in
    inl (rw (lt-ltb 0 (suc b) (zero-lt-suc b)) (ap (λ (n : ℕ). round binary64 false n c) n))
sums true zero c h = inr (round-minus c h, round-plus c h)
sums true (suc b) c h =
    let n : 0 + suc b ≡ suc b - 0 = omega arith in
    inl (rw (lt-ltb 0 (suc b) (zero-lt-suc b)) (ap (λ (n : ℕ). round binary64 true n c) n))

one_more : (x : Float) → ButZeroSign (add binary64 minus_zero x) (add binary64 plus_zero x)
unfolding add of_bits
one_more nan = inl refl
one_more (inf t) = inl refl
one_more (fin t n d) =
    let e : 0 * down d ≡ 0 = zero-mul (down d) in
    subst (λ (a : ℕ). ButZeroSign (sum binary64 true a t (n * up d * 1) (1 * down d)) (sum binary64 false a t (n * up d * 1) (1 * down d))) (sym e)
    (sums t (n * up d * 1) (1 * down d) (mul-pos (zero-lt-suc 0) (down_pos d)))

next : (x s t : Float) → ButZeroSign s t → ButZeroSign (add binary64 s x) (add binary64 t x)
next x s t (inl e) = inl (ap (λ (s : Float). add binary64 s x) e)
next x s t (inr e) = subst (λ (s : Float). ButZeroSign (add binary64 s x) (add binary64 t x)) (sym e.0) (subst (λ (t : Float). ButZeroSign (add binary64 minus_zero x) (add binary64 t x)) (sym e.1) (one_more x))

-- ---- a sum
pub loop-sign : (f : ℕ → Float) (n : ℕ) → ButZeroSign (loop 0 n (λ i s. add binary64 s (f i)) minus_zero) (loop 0 n (λ i s. add binary64 s (f i)) plus_zero)
loop-sign f n = loops-together (λ k. ButZeroSign) 0 n (λ i s. add binary64 s (f i)) (λ i s. add binary64 s (f i)) (λ k s t h l. next (f k) s t) zero-le minus_zero plus_zero (inr (refl, refl))

-- ---- the comparison with plus zero
pub at-most-same : {x y : Float} → ButZeroSign x y → le x plus_zero ≡ le y plus_zero
unfolding le lt eq of_bits
at-most-same (inl e) = ap (λ (x : Float). le x plus_zero) e
at-most-same (inr e) = rw (e.0, e.1) refl

pub above_same : {x y : Float} → ButZeroSign x y → le y plus_zero ≡ false → x ≡ y
unfolding le lt eq of_bits
above_same (inl e) h = e
above_same (inr e) h = absurd (true≢false (ap (λ (y : Float). le y plus_zero) (sym e.1) ∙ h))
