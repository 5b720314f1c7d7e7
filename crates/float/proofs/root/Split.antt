-- The number under the root as N = 4 × P × w², with a root q of P of 53 digits and the rest (`split`): 2w is the weight of the last digit. So N lies to the square of b × w as 4 × P to b². Assumes nothing.
use Rattle.std.proofs.Common.{◌≡◌, ℕ, suc, ◌+◌, ◌-◌, ◌*◌, ◌^◌, ◌<◌, ◌≤◌, sym, ap, ◌∙◌, subst, le_trans, le_of_eq, lt_of_lt_of_le, lt_of_le_of_lt, mul-le-mul_right, mul_assoc, add-sub_of_le, mul-lt-mul_of_pos_right, mul-pos, lt_of_not-le, arith, pow_pos, pow-add}
use native.Mathlib.Nat.{mul-mul-mul_comm}
use Rattle.float.specs.Root.{whole_root}
use Rattle.float.proofs.WholeRoot.{root-low, root-high, square_le, square-lt, square-suc, odd-square}

pub record Split (N k q rest : ℕ) : Type 0 where
  pub P : ℕ
  pub w : ℕ
  pub is : N ≡ 4 * P * (w * w)
  pub weight : 2 ^ k ≡ 2 * w
  pub value : q * q + rest ≡ P
  pub rest_le : rest ≤ 2 * q
  pub q-lo : 2 ^ 52 ≤ q
  pub q-hi : q < 2 ^ 53
  pub no-carry : q < rest → suc q < 2 ^ 53

-- a part of a power of four, put before the rest of it
pub in-fours : (n k s : ℕ) → k ≤ s → n * (2 ^ s * 2 ^ s) ≡ n * (2 ^ k * 2 ^ k) * (2 ^ (s - k) * 2 ^ (s - k))
in-fours n k s l =
    let w = 2 ^ (s - k) in
    ap (λ (x : ℕ). n * (x * x)) (ap (λ (x : ℕ). 2 ^ x) (sym (add-sub_of_le l)) ∙ pow-add 2 k (s - k))
    ∙ ap (λ (x : ℕ). n * x) (mul-mul-mul_comm (2 ^ k) w (2 ^ k) w)
    ∙ sym (mul_assoc n (2 ^ k * 2 ^ k) (w * w))

pub split : (n s q rest : ℕ) → 2 ^ 52 ≤ n → n < 2 ^ 54 - 1 → 27 ≤ s → q ≡ whole_root (n * 2 ^ 52) → rest ≡ n * 2 ^ 52 - q * q
    → Split (n * (2 ^ s * 2 ^ s)) (s - 26) q rest
split n s q rest lo hi l e d = record {
  P = P;
  w = w;
  is = in-fours n 27 s l ∙ ap (λ (x : ℕ). x * (w * w)) (four n);
  weight = ap (λ (x : ℕ). 2 ^ x) (one_more s l) ∙ pow-add 2 1 (s - 27);
  value = omega (arith, low);
  rest_le = omega (arith, high);
  q-lo = square_le (2 ^ 52) q (omega (arith, high, square-suc q));
  q-hi = small;
  no-carry = λ h. lt_of_not-le (λ (g : 2 ^ 53 ≤ suc q). clash (last g) h);
}
  where
    P : ℕ
    P = n * 2 ^ 52

    w : ℕ
    w = 2 ^ (s - 27)

    low : q * q ≤ n * 2 ^ 52
    low = rw e (root-low (n * 2 ^ 52))

    high : n * 2 ^ 52 < q * q + 2 * q + 1
    high = lt_of_lt_of_le (subst (λ (x : ℕ). n * 2 ^ 52 < suc x * suc x) (sym e) (root-high (n * 2 ^ 52))) (le_of_eq (square-suc q))

    small : q < 2 ^ 53
    small = square-lt q (2 ^ 53) (omega (arith, low))

    four : (n : ℕ) → n * 2 ^ 54 ≡ 4 * (n * 2 ^ 52)
    four n = omega arith

    one_more : (s : ℕ) → 27 ≤ s → s - 26 ≡ 1 + (s - 27)
    one_more s l = omega arith

    last : 2 ^ 53 ≤ suc q → q ≡ 2 ^ 53 - 1
    last g = omega (arith, small)

    -- n is not the largest number of 54 digits
    clash : q ≡ 2 ^ 53 - 1 → q < rest → ⊥
    clash g h = let a : q * q ≡ (2 ^ 53 - 1) * (2 ^ 53 - 1) = ap (λ (x : ℕ). x * x) g in omega arith

module _ (N k q rest : ℕ) (s : Split N k q rest) where
  w-pos : 0 < s.w * s.w
  w-pos = let p : 0 < s.w = omega (arith, pow_pos k, s.weight) in mul-pos p p

  square : (b : ℕ) → b * s.w * (b * s.w) ≡ b * b * (s.w * s.w)
  square b = mul-mul-mul_comm b s.w b s.w

  above : (b : ℕ) → b * b < 4 * s.P → b * s.w * (b * s.w) < N
  above b h = lt_of_le_of_lt (le_of_eq (square b)) (lt_of_lt_of_le (mul-lt-mul_of_pos_right h w-pos) (le_of_eq (sym s.is)))

  below : (b : ℕ) → 4 * s.P < b * b → N < b * s.w * (b * s.w)
  below b h = lt_of_le_of_lt (le_of_eq s.is) (lt_of_lt_of_le (mul-lt-mul_of_pos_right h w-pos) (le_of_eq (sym (square b))))

  -- q, q + 1 and the middle, where the rest decides
  pub from-q : 2 * q * s.w * (2 * q * s.w) ≤ N
  from-q =
      let h : 2 * q * (2 * q) ≤ 4 * s.P = omega (arith, mul-mul-mul_comm 2 q 2 q, s.value) in
      le_trans (le_of_eq (square (2 * q))) (le_trans (mul-le-mul_right (s.w * s.w) h) (le_of_eq (sym s.is)))

  pub to-next : N < 2 * suc q * s.w * (2 * suc q * s.w)
  to-next = below (2 * suc q) (omega (arith, mul-mul-mul_comm 2 (suc q) 2 (suc q), square-suc q, s.value, s.rest_le))

  pub under-middle : rest ≤ q → N < (2 * q + 1) * s.w * ((2 * q + 1) * s.w)
  under-middle h = below (2 * q + 1) (omega (arith, odd-square q, s.value))

  pub over-middle : q < rest → (2 * q + 1) * s.w * ((2 * q + 1) * s.w) < N
  over-middle h = above (2 * q + 1) (omega (arith, odd-square q, s.value))
