-- A whole number that is not negative is at most plus zero, as an f64 that holds it, exactly where it is 0. Assumes nothing.
use mathlib.Core.Path.{◌≡◌, refl, sym, ap, ◌∙◌}
use mathlib.Core.Bool.{Bool, true, false, ◌&&◌, ◌||◌, true≢false}
use Prim.Native.Nat.{ℕ, zero, suc, ◌*◌, ◌^◌, ◌≤◌, ◌<◌, zero-le}
use native.Mathlib.Nat.{mul-pos, zero-mul}
use native.Mathlib.Omega.{arith}
use lib.Dec.{eqb, ltb}
use lib.IntN.{ℤ, pos, negsuc, nat_abs, pos-ne-negsuc}
use lib.Signed.{◌≤ℤ◌}
use lib.Ieee.{Float, nan, inf, fin, binary64, up, down, le, lt, eq, of_int, of_bits}
use lib.Ieee.Exact.{HasValue}
use lib.Ieee.Fits.{down_pos}
use borrow.Author.Tests.{ne_eqb, le-ltb}
use Rattle.laws.specs.Scaled.{plus_zero, signed}
use Rattle.laws.proofs.Scaled.{holds-int}

above : (a b : ℕ) → 0 < a → b ≡ 0 → (ltb a b || (eqb a b && (true || eqb a 0))) ≡ false
above a b h e = rw (e, le-ltb a 0 zero-le, ne_eqb a 0 (λ z. omega arith))

number-above : (x : Float) (m : ℕ) → 0 < m → HasValue x false m 1 → le x plus_zero ≡ false
unfolding le lt eq of_bits
number-above nan m h v = absurd v
number-above (inf t) m h v = absurd v
number-above (fin t k e) m h v =
    let p : 0 < m * down e = mul-pos h (down_pos e) in
    let q : 0 < k * up e * 1 = omega (arith, v.1) in
    rw v.0 (above (k * up e * 1) _ q (zero-mul (down e)))

number-over : (x : Float) (m : ℕ) (s : Bool) (k : ℕ) → signed s k ≡ pos (suc m) → HasValue x s k 1 → le x plus_zero ≡ false
number-over x m false k e v = let d : k ≡ suc m = ap nat_abs e in number-above x k (omega arith) v
number-over x m true zero e v = let d : 0 ≡ suc m = ap nat_abs e in absurd (omega arith)
number-over x m true (suc k) e v = absurd (pos-ne-negsuc (suc m) k (sym e))

pub at-most-zero : (z : ℤ) → pos 0 ≤ℤ z → nat_abs z ≤ 2 ^ 53 → le (of_int binary64 z) plus_zero ≡ true → z ≡ pos 0
at-most-zero (pos zero) n b t = refl
at-most-zero (pos (suc m)) n b t = let H = holds-int (pos (suc m)) b in absurd (true≢false (sym t ∙ number-over _ m H.sign H.size H.whole H.value))
at-most-zero (negsuc m) n b t = absurd n.le

pub zero_at_most : le (of_int binary64 (pos 0)) plus_zero ≡ true
unfolding le lt eq of_int of_bits
zero_at_most = refl
