-- An f64 is a whole number of the smallest f64, 2 ^ -1074: m × 2 ^ zeros of them, m below 2 ^ 53, fewer than 2 ^ 2098 in all. Assumes nothing.
use Rattle.std.proofs.Common.{◌≡◌, ℕ, zero, suc, ◌+◌, ◌-◌, ◌*◌, ◌%◌, ◌^◌, ◌<◌, ◌≤◌, Bool, ◌&&◌, T, eqb, ltb, leb, ℤ, pos, negsuc, sym, refl, ap, ◌∙◌, le_of_eq, lt_of_lt_of_le, le_of_suc-le-suc, lt_of_le_of_lt, mul_assoc, lt_of_mul-lt-mul_right, mul-lt-mul_of_pos_right, mul-pos, one-mul, pow-suc, lt_of_not-le, zero-mul, mul-one, sub-add_cancel, mul_right_comm, not-le_of_lt, arith, lit<, lit≤, eqb→eq, ltb→lt, leb→le, pow_pos, pow-add}
use lib.Pow.{pow-lt}
use lib.Ieee.{fin, binary64, up, down, fits}
use lib.Ieee.Fits.{down_pos, and_l, and_r}

-- what `fits` says
pub record Fit (m : ℕ) (e : ℤ) : Type 0 where
  pub few : m < 2 ^ 53
  pub fine : down e ≤ 2 ^ 1074
  pub small : m * up e < 2 ^ 1024 * down e

one-exponent : (e : ℤ) → up e * down e ≡ 1 → e ≡ pos 0
one-exponent (pos zero) h = refl
one-exponent (pos (suc k)) h = absurd (omega (arith, pow-suc 2 k, pow_pos k, mul-one (2 ^ suc k)))
one-exponent (negsuc k) h = absurd (omega (arith, pow-suc 2 k, pow_pos k, one-mul (2 ^ suc k)))

pub zero_exponent : (s : Bool) (e : ℤ) → T (fits binary64 (fin s zero e)) → e ≡ pos 0
unfolding fits
zero_exponent s e t = one-exponent e (eqb→eq (up e * down e) 1 t)

pub fit : (s : Bool) (m : ℕ) (e : ℤ) → T (fits binary64 (fin s m e)) → Fit m e
unfolding fits
fit s zero e t = record {
  few = lit< tt;
  fine = rw (zero_exponent s e t) (lit≤ tt);
  small = rw (zero-mul (up e)) (mul-pos (pow_pos 1024) (down_pos e));
}
fit s (suc m) e t =
    let odd = eqb (suc m % 2) 1 in
    let short = ltb (suc m) (2 ^ 53) in
    let deep = leb (down e) (2 ^ 1074) in
    let below = ltb (suc m * up e) (2 ^ 1024 * down e) in
    let u = and_l (odd && short && deep) below t in
    record {
      few = ltb→lt (suc m) (2 ^ 53) (and_r odd short (and_l (odd && short) deep u));
      fine = leb→le (down e) (2 ^ 1074) (and_r (odd && short) deep u);
      small = ltb→lt (suc m * up e) (2 ^ 1024 * down e) (and_r (odd && short && deep) below t);
    }

-- 2 ^ e is 2 ^ zeros e units
abbrev pub zeros : ℤ → ℕ
zeros (pos k) = k + 1074
zeros (negsuc k) = 1074 - suc k

exponent-le : (k j : ℕ) → 2 ^ k ≤ 2 ^ j → k ≤ j
exponent-le k j h = le_of_suc-le-suc (lt_of_not-le (λ (g : suc j ≤ k). not-le_of_lt (pow-lt g) h))

in-units : (e : ℤ) → down e ≤ 2 ^ 1074 → up e * 2 ^ 1074 ≡ 2 ^ zeros e * down e
in-units (pos k) h = sym (pow-add 2 k 1074) ∙ sym (mul-one (2 ^ (k + 1074)))
in-units (negsuc k) h =
    ap (λ (x : ℕ). 2 ^ x) (sym (sub-add_cancel (exponent-le (suc k) 1074 h))) ∙ pow-add 2 (1074 - suc k) (suc k)

pub units_of : (m : ℕ) (e : ℤ) → Fit m e → m * up e * 2 ^ 1074 ≡ m * 2 ^ zeros e * down e
units_of m e f = mul_assoc m (up e) (2 ^ 1074) ∙ ap (λ (x : ℕ). m * x) (in-units e f.fine) ∙ sym (mul_assoc m (2 ^ zeros e) (down e))

pub units_lt : (m : ℕ) (e : ℤ) → Fit m e → m * 2 ^ zeros e < 2 ^ 2098
units_lt m e f =
    lt_of_mul-lt-mul_right (down e)
    (lt_of_le_of_lt (le_of_eq (sym (units_of m e f)))
    (lt_of_lt_of_le (mul-lt-mul_of_pos_right f.small (pow_pos 1074)) (le_of_eq (mul_right_comm (2 ^ 1024) (down e) (2 ^ 1074)))))
