-- The bit pattern k × 2 ^ 52 + c is the f64 of c × 2 ^ k units of 2 ^ -1074, for a c of 53 digits (`from_bits`). Assumes nothing.
use Rattle.std.proofs.Common.{◌≡◌, ℕ, ◌+◌, ◌-◌, ◌*◌, ◌/◌, ◌^◌, ◌<◌, ◌≤◌, false, not, T, sym, ap, ◌∙◌, subst, le_trans, le_of_eq, lt_of_lt_of_le, mul-le-mul_right, mul-div_cancel, arith, pow_pos, pow_mono, pow-add, shl_lt}
use lib.Ieee.{Float, nan, inf, fin, binary64, size, fits, is_nan, nan_bits, to_bits, of_bits}
use lib.Ieee.Bits.{of_bits-to_bits, nan_bits_is}
use lib.Ieee.Fits.{round-fits}
use lib.Ieee.Exact.{HasValue, units_val}
use Rattle.float.specs.Root.{twice_root, root_of}
use Rattle.float.proofs.root.Pattern.{bits_of_value}
use Rattle.float.proofs.root.Rounded.{Rooted, size_is}

number : (x : Float) (n : ℕ) → HasValue x false n (2 ^ 1074) → T (not (is_nan x))
unfolding is_nan
number nan n v = absurd v
number (inf s) n v = tt
number (fin s m e) n v = tt

pub root-fits : (N : ℕ) → T (fits binary64 (root_of N))
unfolding root_of
root-fits N = round-fits binary64 false (twice_root N) (2 * 2 ^ 1074)

module _ (N c k : ℕ) (h : Rooted N c k) (K : k ≤ 2000) where
  pub root-value : HasValue (root_of N) false (c * 2 ^ k) (2 ^ 1074)
  root-value = rw h.is (units_val binary64 false c k (lt_of_lt_of_le (shl_lt 53 k h.hi) (pow_mono (room k K))))
    where
      room : (k : ℕ) → k ≤ 2000 → 53 + k ≤ 2098
      room k l = omega arith

  root-bits : to_bits binary64 (root_of N) ≡ k * 2 ^ 52 + c
  root-bits =
      let n = c * 2 ^ k in
      let s : size n ≡ 52 + k + 1 = size_is n (52 + k) (le_trans (le_of_eq (pow-add 2 52 k)) (mul-le-mul_right (2 ^ k) h.lo)) (subst (λ (x : ℕ). n < 2 ^ x) (one_more k) (shl_lt 53 k h.hi)) in
      bits_of_value (root_of N) n root-value
      ∙ ap (λ (x : ℕ). x * 2 ^ 52 + n / 2 ^ x) (ap (λ (x : ℕ). x - 53) s ∙ back k)
      ∙ ap (λ (x : ℕ). k * 2 ^ 52 + x) (mul-div_cancel c (pow_pos k))
    where
      one_more : (k : ℕ) → 53 + k ≡ 52 + k + 1
      one_more k = omega arith

      back : (k : ℕ) → 52 + k + 1 - 53 ≡ k
      back k = omega arith

  pub from_bits : of_bits binary64 (k * 2 ^ 52 + c) ≡ root_of N
  from_bits = ap (of_bits binary64) (sym root-bits) ∙ of_bits-to_bits binary64 (root_of N) (root-fits N)

  pub no-nan-bits : T (not (nan_bits binary64 (k * 2 ^ 52 + c)))
  no-nan-bits = rw (nan_bits_is binary64 (k * 2 ^ 52 + c), from_bits) (number (root_of N) (c * 2 ^ k) root-value)
