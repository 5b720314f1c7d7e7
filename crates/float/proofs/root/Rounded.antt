-- The rounded root of a number that is split: the root lies between q and q + 1 last digits, and the middle is (2q + 1) × w.
-- * Half of `twice_root` has 53 digits before the k that are dropped (`half-size`), so `round` takes it to the nearest number of last digits (`rounded`).
-- * The rest is above q exactly if the root is above the middle, which it never meets: then that number is q + 1, else q (`stays`, `rises`).
-- Assumes nothing.
use Rattle.std.proofs.Common.{◌≡◌, ℕ, suc, ◌+◌, ◌-◌, ◌*◌, ◌/◌, ◌^◌, ◌<◌, ◌≤◌, false, sym, ap, ◌∙◌, le_trans, le_of_eq, lt_of_lt_of_le, mul-le-mul_right, mul_assoc, suc-mul, add-mul, mul-pos, one-mul, lt_of_not-le, not-le_of_lt, mul_left_comm, arith, lit<, pow_pos, pow_mono, pow-add}
use native.Mathlib.Nat.{mul-div-mul_right}
use lib.Ieee.{binary64, size, units}
use lib.Ieee.Digits.{size-lt, size-le}
use lib.Ieee.Fits.{round_is}
use lib.Ieee.Nearest.{closest, closest_same}
use Rattle.float.specs.Root.{twice_root, root_of}
use Rattle.float.proofs.WholeRoot.{twice-lt, twice-ge, twice-gt}
use Rattle.float.proofs.root.Closest.{closest-down, closest-up}
use Rattle.float.proofs.root.Split.{Split, from-q, to-next, under-middle, over-middle}

pub size_is : (n p : ℕ) → 2 ^ p ≤ n → n < 2 ^ (p + 1) → size n ≡ p + 1
size_is n p l h =
    let above : p < size n = lt_of_not-le (λ (g : size n ≤ p). not-le_of_lt (lt_of_lt_of_le (size-lt n) (pow_mono g)) l) in
    let under : size n ≤ p + 1 = size-le n (p + 1) h in
    omega arith

-- the root of N is rounded to c × 2 ^ k units, c of 53 digits
pub record Rooted (N c k : ℕ) : Type 0 where
  pub is : root_of N ≡ units binary64 false c k
  pub lo : 2 ^ 52 ≤ c
  pub hi : c < 2 ^ 53

module _ (N k q rest : ℕ) (s : Split N k q rest) where
  w : ℕ
  w = s.w

  p-is : 2 ^ k ≡ 2 * w
  unfolding w
  p-is = s.weight

  -- ---- twice the root, against q, the middle and q + 1, twice each
  r : ℕ
  r = twice_root N

  two-q : 2 * q * w ≡ 2 * (q * w)
  two-q = mul_assoc 2 q w

  middle : (2 * q + 1) * w ≡ 2 * (q * w) + w
  middle = add-mul (2 * q) 1 w ∙ rw (two-q, one-mul w)

  next : 2 * suc q * w ≡ 2 * (q * w) + 2 * w
  next = mul_assoc 2 (suc q) w ∙ omega (arith, suc-mul q w)

  at_least : 4 * (q * w) ≤ r
  unfolding w r
  at_least = omega (arith, twice-ge N (2 * q * w) (from-q N k q rest s), two-q)

  at_most : r < 4 * (q * w) + 4 * w
  unfolding w r
  at_most = omega (arith, twice-lt N (2 * suc q * w) (to-next N k q rest s), next)

  -- ---- the rounded root
  -- half of r has 53 digits before k others
  half-size : size (r / 2) ≡ 52 + k + 1
  half-size =
      size_is (r / 2) (52 + k)
      (le_trans (le_of_eq (pow-add 2 52 k)) (le_trans (mul-le-mul_right (2 ^ k) s.q-lo) (lower r (q * 2 ^ k) (omega (arith, at_least, in-w)))))
      (lt_of_lt_of_le (upper r (suc q * 2 ^ k) (omega (arith, at_most, in-w, p-is, suc-mul q (2 ^ k)))) (le_trans (mul-le-mul_right (2 ^ k) s.q-hi) (le_of_eq (sym (pow-add 2 53 k) ∙ ap (λ (x : ℕ). 2 ^ x) (one_more k)))))
    where
      in-w : q * 2 ^ k ≡ 2 * (q * w)
      in-w = ap (λ (x : ℕ). q * x) p-is ∙ mul_left_comm q 2 w

      lower : (r x : ℕ) → 2 * x ≤ r → x ≤ r / 2
      lower r x h = omega arith

      upper : (r x : ℕ) → r < 2 * x → r / 2 < x
      upper r x h = omega arith

      one_more : (k : ℕ) → 53 + k ≡ 52 + k + 1
      one_more k = omega arith

  rounded : root_of N ≡ units binary64 false (closest r (4 * w)) k
  unfolding root_of r
  rounded =
      let u = 2 ^ 1074 in
      let e : size (r * u / (2 * u)) - 53 ≡ k = ap (λ (x : ℕ). size x - 53) (mul-div-mul_right r 2 (pow_pos 1074)) ∙ ap (λ (x : ℕ). x - 53) half-size ∙ back k in
      round_is binary64 false r (2 * u)
      ∙ ap (λ (x : ℕ). units binary64 false (closest (r * u) (2 * u * 2 ^ x)) x) e
      ∙ ap (λ (x : ℕ). units binary64 false x k) (closest_same (r * u) (2 * u * 2 ^ k) r (4 * w) (mul-pos (mul-pos {m = 2} (lit< tt) (pow_pos 1074)) (pow_pos k)) (omega (arith, p-is, pow_pos k)) (cross r u (2 ^ k) w p-is))
    where
      back : (k : ℕ) → 52 + k + 1 - 53 ≡ k
      back k = omega arith

      cross : (r u p w : ℕ) → p ≡ 2 * w → r * u * (4 * w) ≡ r * (2 * u * p)
      cross r u p w e = ap (λ (x : ℕ). r * u * x) (twice p w e) ∙ simp (mul_assoc, mul_left_comm)
        where
          twice : (p w : ℕ) → p ≡ 2 * w → 4 * w ≡ 2 * p
          twice p w e = omega arith

  four-q : q * (4 * w) ≡ 4 * (q * w)
  four-q = mul_left_comm q 4 w

  pub stays : rest ≤ q → Rooted N q k
  unfolding w r
  stays h =
      let l : r < 2 * ((2 * q + 1) * w) = twice-lt N ((2 * q + 1) * w) (under-middle N k q rest s h) in
      record {
        is = rounded ∙ ap (λ (x : ℕ). units binary64 false x k) (closest-down r (4 * w) q (omega (arith, four-q, at_least)) (omega (arith, four-q, at_most)) (omega (arith, four-q, middle)));
        lo = s.q-lo;
        hi = s.q-hi;
      }

  pub rises : q < rest → Rooted N (suc q) k
  unfolding w r
  rises h =
      let l : 2 * ((2 * q + 1) * w) < r = twice-gt N ((2 * q + 1) * w) (over-middle N k q rest s h) in
      record {
        is = rounded ∙ ap (λ (x : ℕ). units binary64 false x k) (closest-up r (4 * w) q (omega (arith, four-q, at_least)) (omega (arith, four-q, at_most)) (omega (arith, four-q, middle)));
        lo = omega (arith, s.q-lo);
        hi = s.no-carry h;
      }
