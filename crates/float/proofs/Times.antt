-- An f64 times 2 ^ p is exact as long as it stays below 2 ^ 1024 (`times-exact`), and from there on an infinity (`times-too-large`).
-- In units of 2 ^ -1074 it is m × 2 ^ (zeros + p), so of 53 digits before the zeros, of which rounding drops none. Assumes nothing.
use Rattle.std.proofs.Common.{◌≡◌, ℕ, ◌+◌, ◌-◌, ◌*◌, ◌/◌, ◌%◌, ◌^◌, ◌<◌, ◌≤◌, Bool, true, false, ℤ, pos, sym, refl, ap, ◌∙◌, le_trans, le_of_eq, lt_of_lt_of_le, lt_of_le_of_lt, mul-le-mul_right, mul_assoc, mul_comm, lt_of_mul-lt-mul_right, mul-lt-mul_of_pos_right, one-mul, le-div_iff_mul-le, mul-one, sub-add_cancel, mul_right_comm, le_of_mul-le-mul_right, mul-div_cancel, arith, pow_pos, pow-add, shl_lt, le-ltb}
use Prim.Native.Nat.{compare}
use native.Mathlib.Nat.{mul-div-mul_right}
use lib.Ieee.{inf, fin, binary64, up, down, size, units, round, mul, unlike}
use lib.Ieee.Digits.{size-le}
use lib.Ieee.Fits.{down_pos, round_is}
use lib.Ieee.Nearest.{closest, nearest-ge}
use lib.Ieee.Exact.{HasValue, round_exact}
use Rattle.float.proofs.Units.{Fit, zeros, units_of, units_lt}

module _ (p : ℕ) (s : Bool) (m : ℕ) (e : ℤ) (f : Fit m e) where
  value-in-units : m * up e * 2 ^ p * 2 ^ 1074 ≡ m * 2 ^ (zeros e + p) * down e
  value-in-units =
      mul_right_comm (m * up e) (2 ^ p) (2 ^ 1074)
      ∙ ap (λ (x : ℕ). x * 2 ^ p) (units_of m e f)
      ∙ mul_right_comm (m * 2 ^ zeros e) (down e) (2 ^ p)
      ∙ ap (λ (x : ℕ). x * down e) (mul_assoc m (2 ^ zeros e) (2 ^ p) ∙ ap (λ (x : ℕ). m * x) (sym (pow-add 2 (zeros e) p)))

  pub exact : m * up e * 2 ^ p < 2 ^ 1024 * down e → HasValue (round binary64 s (m * up e * 2 ^ p) (down e)) s (m * up e * 2 ^ p) (down e)
  exact h = round_exact binary64 s (m * up e * 2 ^ p) (down e) m (zeros e + p) (down_pos e) f.few under value-in-units
    where
      under : m * 2 ^ (zeros e + p) < 2 ^ 2098
      under =
          lt_of_mul-lt-mul_right (down e)
          (lt_of_le_of_lt (le_of_eq (sym value-in-units))
          (lt_of_lt_of_le (mul-lt-mul_of_pos_right h (pow_pos 1074)) (le_of_eq (mul_right_comm (2 ^ 1024) (down e) (2 ^ 1074)))))

  -- from 2 ^ 1024 on it is an infinity
  too_large : p ≤ 53 → 2 ^ 1024 * down e ≤ m * up e * 2 ^ p → round binary64 s (m * up e * 2 ^ p) (down e) ≡ inf s
  unfolding units
  too_large P h =
      round_is binary64 s (m * up e * 2 ^ p) (down e)
      ∙ ap (λ (n : ℕ). units binary64 s (closest n (down e * 2 ^ (size (n / down e) - 53))) (size (n / down e) - 53)) value-in-units
      ∙ ap (λ (n : ℕ). units binary64 s (closest (U * down e) (down e * 2 ^ (size n - 53))) (size n - 53)) (mul-div_cancel U (down_pos e))
      ∙ rw (le-ltb (closest (U * down e) (down e * 2 ^ k) * 2 ^ k) (2 ^ 2098) reach)
    where
      U : ℕ
      U = m * 2 ^ (zeros e + p)

      U-ge : 2 ^ 2098 ≤ U
      U-ge =
          le_of_mul-le-mul_right
          (le_trans (le_of_eq (sym (mul_right_comm (2 ^ 1024) (down e) (2 ^ 1074)))) (le_trans (mul-le-mul_right (2 ^ 1074) h) (le_of_eq value-in-units)))
          (down_pos e)

      k : ℕ
      k = size U - 53

      k-le : k ≤ 2098
      k-le = cut (size U) (size-le U (2098 + p) (lt_of_le_of_lt (le_of_eq (ap (λ (x : ℕ). m * x) (pow-add 2 (zeros e) p) ∙ sym (mul_assoc m (2 ^ zeros e) (2 ^ p)))) (shl_lt 2098 p (units_lt m e f))))
        where
          cut : (n : ℕ) → n ≤ 2098 + p → n - 53 ≤ 2098
          cut n l = omega arith

      reach : 2 ^ 2098 ≤ closest (U * down e) (down e * 2 ^ k) * 2 ^ k
      reach =
          let top : 2 ^ (2098 - k) * 2 ^ k ≡ 2 ^ 2098 = sym (pow-add 2 (2098 - k) k) ∙ ap (λ (x : ℕ). 2 ^ x) (sub-add_cancel k-le) in
          let cut : U * down e / (down e * 2 ^ k) ≡ U / 2 ^ k = ap (λ (x : ℕ). U * down e / x) (mul_comm (down e) (2 ^ k)) ∙ mul-div-mul_right U (2 ^ k) (down_pos e) in
          le_trans (le_of_eq (sym top))
          (mul-le-mul_right (2 ^ k)
          (le_trans ((le-div_iff_mul-le (pow_pos k)).1 (le_trans (le_of_eq top) U-ge)) (le_trans (le_of_eq (sym cut)) (nearest-ge (U * down e / (down e * 2 ^ k)) (compare (U * down e % (down e * 2 ^ k) * 2) (down e * 2 ^ k))))))

  product_is : mul binary64 (fin s m e) (fin false 1 (pos p)) ≡ round binary64 s (m * up e * 2 ^ p) (down e)
  unfolding mul
  product_is = rw (one-mul, mul-one (down e)) (ap (λ (t : Bool). round binary64 t (m * up e * 2 ^ p) (down e)) (same s))
    where
      same : (t : Bool) → unlike t false ≡ t
      same true = refl
      same false = refl

  pub times-exact : m * up e * 2 ^ p < 2 ^ 1024 * down e → HasValue (mul binary64 (fin s m e) (fin false 1 (pos p))) s (m * up e * 2 ^ p) (down e)
  times-exact h = rw product_is (exact h)

  pub times-too-large : p ≤ 53 → 2 ^ 1024 * down e ≤ m * up e * 2 ^ p → mul binary64 (fin s m e) (fin false 1 (pos p)) ≡ inf s
  times-too-large P h = product_is ∙ too_large P h
