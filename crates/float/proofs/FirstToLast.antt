-- `first_to_last r` is the number of digits of r from its first 1 to its last (`first-to-last`), and no other number is (`first-to-last-unique`): an odd number and the zeros behind it can be told apart in one way (`odd-once`). Zeros put behind r change nothing (`zeros-behind`). Assumes nothing.
use Rattle.std.proofs.Common.{◌≡◌, ℕ, zero, suc, ◌+◌, ◌*◌, ◌/◌, ◌%◌, ◌^◌, ◌<◌, ◌≤◌, sym, ap, ◌∙◌, le_of_eq, le_of_suc-le-suc, mul_assoc, le_antisymm, pow-suc, lt_of_not-le, mul-one, arith, pow_mono, pow-add, eq-eqb, ne_eqb}
use native.Mathlib.Decide.{dec_le}
use lib.Ieee.{size}
use lib.Ieee.Digits.{size-lt, size_reaches}
use Rattle.float.specs.WorkedDigits.{stripped, first_to_last, FirstToLast}

-- ---- an odd number and the zeros behind it
record Odd (r o : ℕ) : Type 0 where
  zeros : ℕ
  is : r ≡ o * 2 ^ zeros
  last : o % 2 ≡ 1

one-zero : (o z : ℕ) → o * 2 ^ suc z ≡ 2 * (o * 2 ^ z)
one-zero o z = rw (pow-suc 2 z) (omega (arith, sym (mul_assoc o (2 ^ z) 2)))

stripped-odd : (d r : ℕ) → 0 < r → r < 2 ^ d → Odd r (stripped d r)
unfolding stripped
stripped-odd zero r p l = absurd (omega arith)
stripped-odd (suc d) r p l =
    elim (dec_le (r % 2) 0) [
      | yes e ↦
          let h = stripped-odd d (r / 2) (omega arith) (omega (arith, pow-suc 2 d)) in
          rw (eq-eqb (r % 2) 0 (omega arith)) (record { zeros = suc h.zeros; is = omega (arith, h.is, one-zero (stripped d (r / 2)) h.zeros); last = h.last })
      | no f ↦ rw (ne_eqb (r % 2) 0 (λ e. f (le_of_eq e))) (record { zeros = 0; is = sym (mul-one r); last = omega arith })
    ]

pub odd-once : (a b y z : ℕ) → a % 2 ≡ 1 → b % 2 ≡ 1 → a * 2 ^ y ≡ b * 2 ^ z → a ≡ b
odd-once a b zero zero p q e = sym (mul-one a) ∙ e ∙ mul-one b
odd-once a b zero (suc z) p q e = absurd (omega (arith, mul-one a, one-zero b z))
odd-once a b (suc y) zero p q e = absurd (omega (arith, mul-one b, one-zero a y))
odd-once a b (suc y) (suc z) p q e = odd-once a b y z p q (omega (arith, one-zero a y, one-zero b z))

-- ---- its digits
digits-once : (o d e : ℕ) → 2 ^ d ≤ 2 * o → o < 2 ^ d → 2 ^ e ≤ 2 * o → o < 2 ^ e → d ≡ e
digits-once o d e a b x y = le_antisymm (at_most d e a y) (at_most e d x b)
  where
    at_most : (d e : ℕ) → 2 ^ d ≤ 2 * o → o < 2 ^ e → d ≤ e
    at_most d e a y = le_of_suc-le-suc (lt_of_not-le (λ (g : suc e ≤ d). absurd (omega (arith, pow-suc 2 e, pow_mono {i = suc e} {j = d} g))))

pub first-to-last-unique : (r d e : ℕ) → FirstToLast r d → FirstToLast r e → d ≡ e
first-to-last-unique r d e f g =
    let same : f.odd ≡ g.odd = odd-once f.odd g.odd f.zeros g.zeros f.last g.last (sym f.is ∙ g.is) in
    digits-once f.odd d e f.first f.few (omega (arith, g.first)) (omega (arith, g.few))

pub first-to-last : (r : ℕ) → 0 < r → FirstToLast r (first_to_last r)
unfolding first_to_last
first-to-last r p =
    let o = stripped (size r) r in
    let h = stripped-odd (size r) r p (size-lt r) in
    record { odd = o; zeros = h.zeros; is = h.is; first = reached o h.last; few = size-lt o; last = h.last }
  where
    reached : (o : ℕ) → o % 2 ≡ 1 → 2 ^ size o ≤ 2 * o
    reached o l = go (size o) (size-lt o) (size_reaches o)
      where
        go : (s : ℕ) → o < 2 ^ s → ((p : ℕ) → p < s → 2 ^ p ≤ o) → 2 ^ s ≤ 2 * o
        go zero u h = absurd (omega arith)
        go (suc s) u h = omega (arith, pow-suc 2 s, h s (omega arith))

pub counted : (r d : ℕ) → FirstToLast r d → first_to_last r ≡ d
counted r d f = first-to-last-unique r (first_to_last r) d (first-to-last r some) f
  where
    some : 0 < r
    some = lt_of_not-le (λ (g : r ≤ 0). none f.odd f.zeros f.last (omega (arith, f.is)))
      where
        none : (o z : ℕ) → o % 2 ≡ 1 → o * 2 ^ z ≡ 0 → ⊥
        none o zero l e = omega (arith, mul-one o)
        none o (suc z) l e = none o z l (omega (arith, one-zero o z))

pub zeros-behind : (r d t : ℕ) → FirstToLast r d → FirstToLast (r * 2 ^ t) d
zeros-behind r d t f = record {
  odd = f.odd;
  zeros = f.zeros + t;
  is = ap (λ (x : ℕ). x * 2 ^ t) f.is ∙ mul_assoc f.odd (2 ^ f.zeros) (2 ^ t) ∙ ap (λ (x : ℕ). f.odd * x) (sym (pow-add 2 f.zeros t));
  first = f.first;
  few = f.few;
  last = f.last;
}
