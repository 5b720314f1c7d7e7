-- What comparing a float with 0 says: it is below zero, above zero or a zero. Assumes nothing.
use Rattle.std.proofs.Common.{◌≡◌, ℕ, zero, suc, ◌+◌, ◌*◌, ◌<◌, Bool, true, false, ◌&&◌, ◌||◌, eqb, ltb, sym, refl, ap, ◌∙◌, zero-lt-suc, mul-pos, zero-mul, arith, le-ltb, lt-ltb, ne_eqb}
use mathlib.Core.Bool.{beq}
use lib.Dec.{eqb-suc-zero}
use lib.Ieee.{Float, nan, inf, fin, up, down, lt, eq, of_bits}
use lib.Ieee.Fits.{up_pos}
use lib.Ieee.Positive.{above}
use Rattle.laws.specs.Scaled.{plus_zero}

abbrev pub under : Float → Bool
under nan = false
under (inf s) = s
under (fin false m e) = false
under (fin true m e) = ltb 0 m

abbrev pub null : Float → Bool
null nan = false
null (inf s) = false
null (fin s m e) = eqb m 0

-- m × u is above a zero exactly if m is
some : (m u z : ℕ) → 0 < u → z ≡ 0 → ltb z (m * u * 1) ≡ ltb 0 m
some zero u z U e = rw (e, zero-mul u)
some (suc m) u z U e =
    let p : 0 < suc m * u = mul-pos (zero-lt-suc m) U in
    lt-ltb z (suc m * u * 1) (omega arith) ∙ sym (lt-ltb 0 (suc m) (zero-lt-suc m))

pub lt-zero : (x : Float) → lt x plus_zero ≡ under x
unfolding lt of_bits
lt-zero nan = refl
lt-zero (inf s) = refl
lt-zero (fin true m e) =
    let h : m * up e * 1 + 0 * down e ≡ m * up e * 1 = omega (arith, zero-mul (down e)) in
    ap (ltb 0) h ∙ some m (up e) 0 (up_pos e) refl
lt-zero (fin false m e) = le-ltb (m * up e * 1) (0 * down e) (omega (arith, zero-mul (down e)))

pub zero-lt : (x : Float) → lt plus_zero x ≡ above x
unfolding lt of_bits
zero-lt nan = refl
zero-lt (inf s) = refl
zero-lt (fin true m e) = refl
zero-lt (fin false m e) = some m (up e) (0 * down e) (up_pos e) (zero-mul (down e))

pub eq-zero : (x : Float) → eq x plus_zero ≡ null x
unfolding eq of_bits
eq-zero nan = refl
eq-zero (inf s) = refl
eq-zero (fin true zero e) = simp zero-mul
eq-zero (fin false zero e) = simp zero-mul
eq-zero (fin s (suc m) e) =
    let p : 0 < suc m * up e = mul-pos (zero-lt-suc m) (up_pos e) in
    ap (λ (b : Bool). b && (beq s false || eqb (suc m * up e * 1) 0))
    (ne_eqb (suc m * up e * 1) (0 * down e) (λ h. omega (arith, zero-mul (down e)))) ∙ sym (eqb-suc-zero m)
