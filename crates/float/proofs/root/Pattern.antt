-- The bit pattern of a finite f64 above zero is k × 2 ^ 52 + c where it is c × 2 ^ k units of 2 ^ -1074: c has 53 digits at most, and 53 unless k is 0 (`pattern`). Assumes nothing.
use Rattle.std.proofs.Common.{◌≡◌, ℕ, ◌+◌, ◌-◌, ◌*◌, ◌/◌, ◌^◌, ◌<◌, ◌≤◌, true, false, T, ℤ, sym, refl, ap, ◌∙◌, subst, true≢false, le_trans, le_of_eq, mul_assoc, mul-pos, le-div_iff_mul-le, sub-add_cancel, mul-div_cancel, arith, ltb→lt, pow_pos, pow-add, shl_lt}
use lib.Ieee.{Float, nan, inf, fin, binary64, down, size, fits, to_bits}
use lib.Ieee.Digits.{size-le, size_reaches}
use lib.Ieee.Fits.{down_pos, kept-lt}
use lib.Ieee.Exact.{HasValue}
use lib.Ieee.Positive.{positive, first_pos}
use Rattle.float.proofs.Units.{Fit, fit, zeros, units_of, units_lt}

pub bits_of_value : (x : Float) (n : ℕ) → HasValue x false n (2 ^ 1074) → to_bits binary64 x ≡ (size n - 53) * 2 ^ 52 + n / 2 ^ (size n - 53)
unfolding to_bits
bits_of_value nan n h = absurd h
bits_of_value (inf s) n h = absurd h
bits_of_value (fin true m e) n h = absurd (true≢false h.0)
bits_of_value (fin false m e) n h =
    ap (λ (x : ℕ). 0 + (size x - 53) * 2 ^ 52 + x / 2 ^ (size x - 53)) (ap (λ (x : ℕ). x / down e) h.1 ∙ mul-div_cancel n (down_pos e))
    ∙ plain ((size n - 53) * 2 ^ 52) (n / 2 ^ (size n - 53))
  where
    plain : (a b : ℕ) → 0 + a + b ≡ a + b
    plain a b = omega arith

pub record Pattern (x : Float) : Type 0 where
  pub k : ℕ
  pub c : ℕ
  pub value : HasValue x false (c * 2 ^ k) (2 ^ 1074)
  pub bits : to_bits binary64 x ≡ k * 2 ^ 52 + c
  pub few : c < 2 ^ 53
  pub some : 0 < c
  pub lead : 0 < k → 2 ^ 52 ≤ c
  pub top : k ≤ 2045

pattern-of : (m : ℕ) (e : ℤ) → Fit m e → 0 < m → Pattern (fin false m e)
pattern-of m e f M = record {
  k = k;
  c = c;
  value = (refl, units_of m e f ∙ ap (λ (x : ℕ). x * down e) (sym whole));
  bits = bits_of_value (fin false m e) n (refl, units_of m e f);
  few = kept-lt 53 n;
  some = first_pos c (2 ^ k) (subst (λ (x : ℕ). 0 < x) (sym whole) n_pos);
  lead = λ h. (le-div_iff_mul-le (pow_pos k)).1 (le_trans (le_of_eq (sym (pow-add 2 52 k))) (size_reaches n (52 + k) (reached (size n) h)));
  top = less (size n) (size-le n 2098 (units_lt m e f));
}
  where
    z : ℕ
    z = zeros e

    n : ℕ
    n = m * 2 ^ z

    k : ℕ
    k = size n - 53

    c : ℕ
    c = n / 2 ^ k

    n_pos : 0 < n
    n_pos = mul-pos M (pow_pos z)

    k-le : k ≤ z
    k-le = cut (size n) (size-le n (53 + z) (shl_lt 53 z f.few))
      where
        cut : (s : ℕ) → s ≤ 53 + z → s - 53 ≤ z
        cut s h = omega arith

    split : m * 2 ^ (z - k) * 2 ^ k ≡ n
    split = mul_assoc m (2 ^ (z - k)) (2 ^ k) ∙ ap (λ (x : ℕ). m * x) (sym (pow-add 2 (z - k) k) ∙ ap (λ (x : ℕ). 2 ^ x) (sub-add_cancel k-le))

    whole : c * 2 ^ k ≡ n
    whole = ap (λ (x : ℕ). x * 2 ^ k) (ap (λ (x : ℕ). x / 2 ^ k) (sym split) ∙ mul-div_cancel (m * 2 ^ (z - k)) (pow_pos k)) ∙ split

    reached : (s : ℕ) → 0 < s - 53 → 52 + (s - 53) < s
    reached s h = omega arith

    less : (s : ℕ) → s ≤ 2098 → s - 53 ≤ 2045
    less s h = omega arith

pub pattern : (x : Float) → T (fits binary64 x) → T (positive x) → Pattern x
pattern nan t p = absurd p
pattern (inf s) t p = absurd p
pattern (fin true m e) t p = absurd p
pattern (fin false m e) t p = pattern-of m e (fit false m e t) (ltb→lt 0 m p)
