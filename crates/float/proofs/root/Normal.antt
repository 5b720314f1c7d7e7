-- A finite f64 above zero is m × 2 ^ s / 2 ^ 2148 with an m of 53 digits (`normal`), and so n × 4 ^ h / 2 ^ 2148 with an n of 53 or 54 (`fours`).
-- In units of 2 ^ -1074 it is c × 2 ^ k by its bit pattern, and a c with fewer than 53 digits is moved up. Assumes nothing.
use Rattle.std.proofs.Common.{◌≡◌, ℕ, zero, suc, ◌+◌, ◌-◌, ◌*◌, ◌/◌, ◌%◌, ◌^◌, ◌<◌, ◌≤◌, true, false, T, sym, refl, ap, ◌∙◌, subst, zero-le, le_trans, le_of_eq, lt_of_lt_of_le, le_of_suc-le-suc, mul-le-mul_right, mul_assoc, add-sub_of_le, le_antisymm, lt_of_not-le, mul-one, mul_right_comm, not-le_of_lt, mul-div_cancel, arith, pow_mono, pow-add, shl_lt}
use native.Mathlib.Nat.{eq_of_mul-eq-mul_right}
use native.Mathlib.Decide.{dec_le}
use lib.Ieee.{Float, nan, inf, fin, up, down, size}
use lib.Ieee.Digits.{size-lt, size-le, size_reaches}
use lib.Ieee.Exact.{HasValue}
use lib.Ieee.Positive.{num, den, den_pos, positive, value→cross}
use Rattle.float.specs.Root.{root, root_of}
use Rattle.float.specs.WorkedDigits.{digits_of, worked_digits}
use Rattle.float.proofs.root.Pattern.{Pattern}

-- ---- the number under the root
pub scaled : (x : Float) (a : ℕ) → HasValue x false a (2 ^ 1074) → HasValue x false (a * 2 ^ 1074) (2 ^ 1074 * 2 ^ 1074)
scaled nan a v = absurd v
scaled (inf s) a v = absurd v
scaled (fin s m e) a v = (v.0, sym (mul_assoc (m * up e) (2 ^ 1074) (2 ^ 1074)) ∙ ap (λ (x : ℕ). x * 2 ^ 1074) v.1 ∙ mul_right_comm a (down e) (2 ^ 1074))

pub scaled-up : (x : Float) (p : Pattern x) → HasValue x false (p.c * 2 ^ (p.k + 1074)) (2 ^ 1074 * 2 ^ 1074)
scaled-up x p =
    subst (λ (a : ℕ). HasValue x false a (2 ^ 1074 * 2 ^ 1074)) (mul_assoc p.c (2 ^ p.k) (2 ^ 1074) ∙ ap (λ (y : ℕ). p.c * y) (sym (pow-add 2 p.k 1074)))
    (scaled x (p.c * 2 ^ p.k) p.value)

pub root-of-number : (x : Float) → T (positive x) → root x ≡ root_of (num x * (2 ^ 1074 * 2 ^ 1074) / den x)
unfolding root
root-of-number nan p = absurd p
root-of-number (inf s) p = absurd p
root-of-number (fin true m e) p = absurd p
root-of-number (fin false zero e) p = absurd p
root-of-number (fin false (suc m) e) p = refl

digits-of-number : (x : Float) → T (positive x) → worked_digits x ≡ digits_of (num x * (2 ^ 1074 * 2 ^ 1074) / den x)
unfolding worked_digits
digits-of-number nan p = absurd p
digits-of-number (inf s) p = absurd p
digits-of-number (fin true m e) p = absurd p
digits-of-number (fin false zero e) p = absurd p
digits-of-number (fin false (suc m) e) p = refl

module _ (x : Float) (n : ℕ) (p : T (positive x)) (v : HasValue x false n (2 ^ 1074 * 2 ^ 1074)) where
  number_is : num x * (2 ^ 1074 * 2 ^ 1074) / den x ≡ n
  number_is = ap (λ (y : ℕ). y / den x) (value→cross x n (2 ^ 1074 * 2 ^ 1074) v) ∙ mul-div_cancel n (den_pos x)

  pub root-of-value : root x ≡ root_of n
  root-of-value = root-of-number x p ∙ ap root_of number_is

  pub digits-of-value : worked_digits x ≡ digits_of n
  digits-of-value = digits-of-number x p ∙ ap digits_of number_is

pub value-once : (x : Float) (a b c : ℕ) → HasValue x false a c → HasValue x false b c → a ≡ b
value-once x a b c v w = eq_of_mul-eq-mul_right (den x) (den_pos x) a b (sym (value→cross x a c v) ∙ value→cross x b c w)

pub moved : (m h s : ℕ) → h ≤ s → m * 2 ^ h * 2 ^ (s - h) ≡ m * 2 ^ s
moved m h s l = mul_assoc m (2 ^ h) (2 ^ (s - h)) ∙ ap (λ (x : ℕ). m * x) (sym (pow-add 2 h (s - h)) ∙ ap (λ (x : ℕ). 2 ^ x) (add-sub_of_le l))

pub record Normal (x : Float) : Type 0 where
  pub m : ℕ
  pub s : ℕ
  pub value : HasValue x false (m * 2 ^ s) (2 ^ 1074 * 2 ^ 1074)
  pub m-lo : 2 ^ 52 ≤ m
  pub m-hi : m < 2 ^ 53
  pub s-lo : 1022 ≤ s
  pub s-hi : s < 3120

pub normal : (x : Float) → Pattern x → Normal x
normal x p = go (dec_le (2 ^ 52) p.c)
  where
    c : ℕ
    c = p.c

    z : ℕ
    z = size c

    go : Dec (2 ^ 52 ≤ p.c) → Normal x
    go (yes l) = record {
      m = p.c;
      s = p.k + 1074;
      value = scaled-up x p;
      m-lo = l;
      m-hi = p.few;
      s-lo = omega arith;
      s-hi = omega (arith, p.top);
    }
    go (no n) =
        let small : p.c < 2 ^ 52 = lt_of_not-le n in
        let z-pos : 0 < z = lt_of_not-le (λ (g : z ≤ 0). not-le_of_lt (lt_of_lt_of_le (size-lt c) (pow_mono g)) p.some) in
        let z-le : z ≤ 52 = size-le c 52 small in
        let h = 53 - z in
        let none : p.k ≡ 0 = no-k (lt_of_not-le n) in
        record {
          m = c * 2 ^ h;
          s = 1074 - h;
          value =
              subst (λ (a : ℕ). HasValue x false a (2 ^ 1074 * 2 ^ 1074)) (ap (λ (y : ℕ). c * 2 ^ y * 2 ^ 1074) none ∙ ap (λ (y : ℕ). y * 2 ^ 1074) (mul-one c) ∙ sym (moved c h 1074 (omega arith)))
              (scaled x (c * 2 ^ p.k) p.value);
          m-lo = le_trans (le_of_eq (ap (λ (y : ℕ). 2 ^ y) (lead-of z z-pos z-le) ∙ pow-add 2 (z - 1) h)) (mul-le-mul_right (2 ^ h) (size_reaches c (z - 1) (pred_lt z z-pos)));
          m-hi = lt_of_lt_of_le (shl_lt z h (size-lt c)) (le_of_eq (ap (λ (y : ℕ). 2 ^ y) (all z z-le)));
          s-lo = omega arith;
          s-hi = omega arith;
        }
      where
        no-k : p.c < 2 ^ 52 → p.k ≡ 0
        no-k l = le_antisymm (le_of_suc-le-suc (lt_of_not-le (λ (g : 1 ≤ p.k). not-le_of_lt l (p.lead g)))) zero-le

        lead-of : (z : ℕ) → 0 < z → z ≤ 52 → 52 ≡ z - 1 + (53 - z)
        lead-of z a b = omega arith

        pred_lt : (z : ℕ) → 0 < z → z - 1 < z
        pred_lt z a = omega arith

        all : (z : ℕ) → z ≤ 52 → z + (53 - z) ≡ 53
        all z a = omega arith

-- ---- a power of four
pub even-part : (m s : ℕ) → s % 2 ≡ 0 → m * (2 ^ (s / 2) * 2 ^ (s / 2)) ≡ m * 2 ^ s
even-part m s e =
    let h : s / 2 + s / 2 ≡ s = omega arith in
    ap (λ (x : ℕ). m * x) (sym (pow-add 2 (s / 2) (s / 2)) ∙ ap (λ (x : ℕ). 2 ^ x) h)

pub odd_part : (m s : ℕ) → (s % 2 ≡ 0 → ⊥) → m * 2 * (2 ^ (s / 2) * 2 ^ (s / 2)) ≡ m * 2 ^ s
odd_part m s e =
    let h : 1 + (s / 2 + s / 2) ≡ s = omega arith in
    mul_assoc m 2 (2 ^ (s / 2) * 2 ^ (s / 2))
    ∙ ap (λ (x : ℕ). m * x) (ap (λ (x : ℕ). 2 * x) (sym (pow-add 2 (s / 2) (s / 2))) ∙ sym (pow-add 2 1 (s / 2 + s / 2)) ∙ ap (λ (x : ℕ). 2 ^ x) h)

pub record Fours (x : Float) : Type 0 where
  pub n : ℕ
  pub s : ℕ
  pub value : HasValue x false (n * (2 ^ s * 2 ^ s)) (2 ^ 1074 * 2 ^ 1074)
  pub n-lo : 2 ^ 52 ≤ n
  pub n-hi : n < 2 ^ 54 - 1
  pub s-lo : 27 ≤ s
  pub s-hi : s < 1560

pub fours : (x : Float) → Normal x → Fours x
fours x d =
    elim (dec_le (d.s % 2) 0) [
      | yes e ↦ record {
        n = d.m;
        s = d.s / 2;
        value = subst (λ (a : ℕ). HasValue x false a (2 ^ 1074 * 2 ^ 1074)) (sym (even-part d.m d.s (omega arith))) d.value;
        n-lo = d.m-lo;
        n-hi = omega (arith, d.m-hi);
        s-lo = omega (arith, d.s-lo);
        s-hi = omega (arith, d.s-hi);
      }
      | no f ↦ record {
        n = d.m * 2;
        s = d.s / 2;
        value = subst (λ (a : ℕ). HasValue x false a (2 ^ 1074 * 2 ^ 1074)) (sym (odd_part d.m d.s (λ e. f (le_of_eq e)))) d.value;
        n-lo = omega (arith, d.m-lo);
        n-hi = omega (arith, d.m-hi);
        s-lo = omega (arith, d.s-lo);
        s-hi = omega (arith, d.s-hi);
      }
    ]
