-- The laws of `of_scaled`: it is exact up to 2 ^ 53, and sums, differences, products, squares and quotients by 2 ^ j of such numbers are such numbers.
-- Each operation is the rounding of the exact result, and the signs decide the rest. Assumes nothing.
use mathlib.Core.Path.{◌≡◌, refl, sym, ap, ◌∙◌, subst}
use mathlib.Core.Bool.{Bool, true, false, not, cond, ◌&&◌}
use Prim.Native.Nat.{ℕ, zero, suc, ◌+◌, ◌-◌, ◌*◌, ◌^◌, ◌≤◌, ◌<◌}
use native.Mathlib.Nat.{not-suc-le-zero, zero-lt-suc, add-zero, add-suc, suc-add, zero-mul, mul-zero, mul-one, mul-pos, mul_assoc, mul_comm, mul_right_comm}
use native.Mathlib.Omega.{arith}
use lib.IntN.{ℤ, pos, negsuc, neg_ℤ, nat_abs, ◌+ℤ◌, ◌-ℤ◌, ◌*ℤ◌, +ℤ_idr, neg_ℤ-neg_ℤ}
use lib.Dec.{T, ltb, ltb→lt, nltb→le, le→leb, lt→ltb, lit≤}
use lib.Pow.{pow_pos, pow-add}
use lib.Signed.{non_neg}
use lib.Ieee.{Float, nan, inf, fin, binary64, unlike, up, down, round, sum, add, sub, mul, div, neg, of_int, of_bits, in_float}
use lib.Ieee.Exact.{HasValue}
use lib.Ieee.Scale.{round_same}
use Rattle.laws.specs.Scaled.{plus_zero, of_scaled, signed, Holds}
use Rattle.laws.proofs.Whole.{abs-mul}
use Rattle.laws.proofs.Finite.{scaled-val, add_at, mul_at, div-at}

-- ---- the value
abbrev negative : ℤ → Bool
negative z = not (non_neg z)

signed-abs : (z : ℤ) → signed (negative z) (nat_abs z) ≡ z
signed-abs (pos n) = refl
signed-abs (negsuc n) = refl

scaled_value : (k : ℕ) (z : ℤ) → nat_abs z ≤ 2 ^ 53 → k ≤ 1074 → HasValue (of_scaled k z) (negative z) (nat_abs z) (2 ^ k)
unfolding of_scaled
scaled_value k z h g = scaled-val binary64 (negative z) (nat_abs z) k h g

-- exact up to 2 ^ 53
pub holds-scaled : (k : ℕ) (z : ℤ) → nat_abs z ≤ 2 ^ 53 → k ≤ 1074 → Holds k z (of_scaled k z)
holds-scaled k z h g = record { sign = negative z; size = nat_abs z; whole = signed-abs z; value = scaled_value k z h g }

-- plus zero
pub scaled-zero : (k : ℕ) → of_scaled k (pos 0) ≡ plus_zero
unfolding of_scaled round of_bits
scaled-zero k = round_same binary64 false 0 (2 ^ k) 0 1 (pow_pos k) (zero-lt-suc 0) (mul-one 0 ∙ sym (zero-mul (2 ^ k)))

-- a whole number as f64: what a cast gives and asks for
pub scaled-int : (z : ℤ) → of_scaled 0 z ≡ of_int binary64 z
unfolding of_scaled of_int
scaled-int (pos n) = refl
scaled-int (negsuc n) = refl

pub holds-int : (z : ℤ) → nat_abs z ≤ 2 ^ 53 → Holds 0 z (of_int binary64 z)
holds-int z h = subst (λ (x : Float). Holds 0 z x) (scaled-int z) (holds-scaled 0 z h (lit≤ tt))

pub in-float : (z : ℤ) → nat_abs z ≤ 2 ^ 53 → T (in_float binary64 z)
unfolding in_float
in-float (pos n) h = le→leb n (2 ^ 53) h
in-float (negsuc n) h = lt→ltb n (2 ^ 53) h

-- ---- the sum
-- m - n and n - m, for a sum of m and -n and of -m and n, by the tests that decide the sign
less : (m n : ℕ) → m < n → n - m ≡ suc (n - suc m)
less m n h = omega arith

pos-neg : (k m n : ℕ) (b : Bool) → (T b → m < n)
    → cond b (round binary64 true (n - m) (2 ^ k)) (round binary64 false (m - n) (2 ^ k)) ≡ of_scaled k (cond b (negsuc (n - suc m)) (pos (m - n)))
unfolding of_scaled
pos-neg k m n true h = ap (λ (x : ℕ). round binary64 true x (2 ^ k)) (less m n (h tt))
pos-neg k m n false h = refl

neg-pos : (k m n : ℕ) (b d : Bool) → (T b → m < n) → (T d → n < m) → (T (not b) → n ≤ m) → (T (not d) → m ≤ n)
    → cond b (round binary64 false (n - m) (2 ^ k)) (round binary64 (true && d) (m - n) (2 ^ k)) ≡ of_scaled k (cond d (negsuc (m - suc n)) (pos (n - m)))
unfolding of_scaled
neg-pos k m n true true p q r s = absurd (both m n (p tt) (q tt))
  where
    both : (m n : ℕ) → m < n → n < m → ⊥
    both m n h k = omega arith
neg-pos k m n true false p q r s = refl
neg-pos k m n false true p q r s = ap (λ (x : ℕ). round binary64 true x (2 ^ k)) (less n m (q tt))
neg-pos k m n false false p q r s = ap (λ (x : ℕ). round binary64 false x (2 ^ k)) (same m n (r tt) (s tt))
  where
    same : (m n : ℕ) → n ≤ m → m ≤ n → m - n ≡ n - m
    same m n h k = omega arith

less_zero : (k m : ℕ) (b : Bool) → (T b → m < 0) → cond b (round binary64 true (0 - m) (2 ^ k)) (round binary64 false (m - 0) (2 ^ k)) ≡ round binary64 false (m + 0) (2 ^ k)
less_zero k m true h = absurd (not-suc-le-zero (h tt))
less_zero k m false h = ap (λ (x : ℕ). round binary64 false x (2 ^ k)) (same m)
  where
    same : (x : ℕ) → x - 0 ≡ x + 0
    same x = omega arith

sum-scaled : (k : ℕ) (a : ℤ) (t : Bool) (n : ℕ) → sum binary64 (negative a) (nat_abs a) t n (2 ^ k) ≡ of_scaled k (a +ℤ signed t n)
unfolding sum of_scaled
sum-scaled k (pos m) false n = refl
sum-scaled k (pos m) true zero = less_zero k m (ltb m 0) (ltb→lt m 0)
sum-scaled k (pos m) true (suc n) = pos-neg k m (suc n) (ltb m (suc n)) (ltb→lt m (suc n))
sum-scaled k (negsuc m) false n =
    neg-pos k (suc m) n (ltb (suc m) n) (ltb n (suc m)) (ltb→lt (suc m) n) (ltb→lt n (suc m)) (nltb→le (suc m) n) (nltb→le n (suc m))
sum-scaled k (negsuc m) true zero = ap (λ (x : ℕ). round binary64 true x (2 ^ k)) (add-zero (suc m)) ∙ sym (ap (λ (z : ℤ). of_scaled k z) (+ℤ_idr (negsuc m)))
sum-scaled k (negsuc m) true (suc n) = ap (λ (x : ℕ). round binary64 true x (2 ^ k)) (suc-add m (suc n) ∙ ap suc (add-suc m n))

-- an exact accumulator and an exact summand: the sum, rounded once, and so exact itself up to 2 ^ 53
pub add-scaled : (k : ℕ) (a b : ℤ) (y : Float) → nat_abs a ≤ 2 ^ 53 → k ≤ 1074 → Holds k b y → add binary64 (of_scaled k a) y ≡ of_scaled k (a +ℤ b)
add-scaled k a b y h g v =
    add_at binary64 (of_scaled k a) y (negative a) (nat_abs a) v.sign v.size (2 ^ k) (pow_pos k) (scaled_value k a h g) v.value
    ∙ sum-scaled k a v.sign v.size
    ∙ ap (λ (z : ℤ). of_scaled k (a +ℤ z)) v.whole

-- ---- the difference
neg_value : (y : Float) (s : Bool) (a c : ℕ) → HasValue y s a c → HasValue (neg y) (not s) a c
unfolding neg
neg_value nan s a c v = v
neg_value (inf t) s a c v = v
neg_value (fin t m e) s a c v = (ap not v.0, v.1)

neg-signed : (s : Bool) (n : ℕ) → signed (not s) n ≡ neg_ℤ (signed s n)
neg-signed false n = refl
neg-signed true n = sym (neg_ℤ-neg_ℤ (pos n))

neg-holds : (k : ℕ) (b : ℤ) (y : Float) → Holds k b y → Holds k (neg_ℤ b) (neg y)
neg-holds k b y v = record {
  sign = not v.sign;
  size = v.size;
  whole = neg-signed v.sign v.size ∙ ap neg_ℤ v.whole;
  value = neg_value y v.sign v.size (2 ^ k) v.value;
}

pub sub-scaled : (k : ℕ) (a b : ℤ) (y : Float) → nat_abs a ≤ 2 ^ 53 → k ≤ 1074 → Holds k b y → sub binary64 (of_scaled k a) y ≡ of_scaled k (a -ℤ b)
unfolding sub
sub-scaled k a b y h g v = add-scaled k a (neg_ℤ b) (neg y) h g (neg-holds k b y v)

-- ---- the product
mul-signed : (s t : Bool) (m n : ℕ) → signed (unlike s t) (m * n) ≡ signed s m *ℤ signed t n
mul-signed false false m n = refl
mul-signed false true m zero = ap (λ (x : ℕ). neg_ℤ (pos x)) (mul-zero m) ∙ ap pos (sym (mul-zero m))
mul-signed false true m (suc n) = refl
mul-signed true false zero n = ap (λ (x : ℕ). neg_ℤ (pos x)) (zero-mul n) ∙ ap pos (sym (zero-mul n))
mul-signed true false (suc m) n = refl
mul-signed true true zero zero = refl
mul-signed true true zero (suc n) = ap pos (zero-mul (suc n)) ∙ ap (λ (x : ℕ). neg_ℤ (pos x)) (sym (zero-mul (suc n)))
mul-signed true true (suc m) zero = ap pos (mul-zero (suc m)) ∙ ap (λ (x : ℕ). neg_ℤ (pos x)) (sym (mul-zero (suc m)))
mul-signed true true (suc m) (suc n) = refl

abs-signed : (s : Bool) (n : ℕ) → nat_abs (signed s n) ≡ n
abs-signed false n = refl
abs-signed true zero = refl
abs-signed true (suc n) = refl

module _ (j k : ℕ) (a b : ℤ) (x y : Float) (v : Holds j a x) (w : Holds k b y) where
  mul-round : mul binary64 x y ≡ round binary64 (unlike v.sign w.sign) (v.size * w.size) (2 ^ (j + k))
  mul-round =
      mul_at binary64 x y v.sign v.size (2 ^ j) w.sign w.size (2 ^ k) (pow_pos j) (pow_pos k) v.value w.value
      ∙ ap (λ (c : ℕ). round binary64 (unlike v.sign w.sign) (v.size * w.size) c) (sym (pow-add 2 j k))

  mul-whole : signed (unlike v.sign w.sign) (v.size * w.size) ≡ a *ℤ b
  mul-whole = mul-signed v.sign w.sign v.size w.size ∙ (λ i. v.whole i *ℤ w.whole i)

  -- exact up to 2 ^ 53; where it is 0 it may be minus zero
  pub mul_holds : nat_abs (a *ℤ b) ≤ 2 ^ 53 → j + k ≤ 1074 → Holds (j + k) (a *ℤ b) (mul binary64 x y)
  mul_holds h g = record {
    sign = unlike v.sign w.sign;
    size = v.size * w.size;
    whole = mul-whole;
    value =
        subst (λ (z : Float). HasValue z (unlike v.sign w.sign) (v.size * w.size) (2 ^ (j + k))) (sym mul-round)
        (scaled-val binary64 (unlike v.sign w.sign) (v.size * w.size) (j + k)
        (subst (λ (n : ℕ). n ≤ 2 ^ 53) (sym (ap nat_abs mul-whole) ∙ abs-signed (unlike v.sign w.sign) (v.size * w.size)) h) g);
  }

-- a square, which is never minus zero
pub square-scaled : (k : ℕ) (a : ℤ) (x : Float) → Holds k a x → mul binary64 x x ≡ of_scaled (k + k) (a *ℤ a)
unfolding of_scaled
square-scaled k a x v =
    let e : unlike v.sign v.sign ≡ false = alike v.sign in
    mul-round k k a a x x v v
    ∙ ap (λ (s : Bool). round binary64 s (v.size * v.size) (2 ^ (k + k))) e
    ∙ ap (λ (z : ℤ). of_scaled (k + k) z) (sym (ap (λ (s : Bool). signed s (v.size * v.size)) e) ∙ mul-whole k k a a x x v v)
  where
    alike : (s : Bool) → unlike s s ≡ false
    alike true = refl
    alike false = refl

-- ---- the quotient by 2 ^ j
plain : (s : Bool) → unlike s false ≡ s
plain true = refl
plain false = refl

pub div-scaled : (k j : ℕ) (z : ℤ) (y : Float) → nat_abs z ≤ 2 ^ 53 → k ≤ 1074 → HasValue y false (2 ^ j) 1 → div binary64 (of_scaled k z) y ≡ of_scaled (k + j) z
unfolding of_scaled
div-scaled k j z y h g w =
    div-at binary64 (of_scaled k z) y (negative z) (nat_abs z) (2 ^ k) false (2 ^ j) 1 (pow_pos k) (zero-lt-suc 0) (pow_pos j) (scaled_value k z h g) w
    ∙ (λ i. round binary64 (plain (negative z) i) (mul-one (nat_abs z) i) (sym (pow-add 2 k j) i))

-- ---- the same number in smaller parts
same_sign : (z : ℤ) (c : ℕ) → 0 < c → negative (z *ℤ pos c) ≡ negative z
same_sign (pos n) c h = refl
same_sign (negsuc n) c h = below (suc n * c) (mul-pos (zero-lt-suc n) h)
  where
    below : (m : ℕ) → 0 < m → negative (neg_ℤ (pos m)) ≡ true
    below zero h = absurd (not-suc-le-zero h)
    below (suc m) h = refl

pub scaled-finer : (k j : ℕ) (z : ℤ) → of_scaled (k + j) (z *ℤ pos (2 ^ j)) ≡ of_scaled k z
unfolding of_scaled
scaled-finer k j z =
    (λ i. round binary64 (same_sign z (2 ^ j) (pow_pos j) i) (abs-mul z (pos (2 ^ j)) i) (2 ^ (k + j)))
    ∙ round_same binary64 (negative z) (nat_abs z * 2 ^ j) (2 ^ (k + j)) (nat_abs z) (2 ^ k) (pow_pos (k + j)) (pow_pos k)
    (mul_assoc (nat_abs z) (2 ^ j) (2 ^ k) ∙ ap (λ (x : ℕ). nat_abs z * x) (mul_comm (2 ^ j) (2 ^ k) ∙ sym (pow-add 2 k j)))

finer-value : (k j : ℕ) (x : Float) (s : Bool) (n : ℕ) → HasValue x s n (2 ^ k) → HasValue x s (n * 2 ^ j) (2 ^ (k + j))
finer-value k j nan s n v = v
finer-value k j (inf t) s n v = v
finer-value k j (fin t m e) s n v = (
  v.0,
  ap (λ (c : ℕ). m * up e * c) (pow-add 2 k j)
      ∙ sym (mul_assoc (m * up e) (2 ^ k) (2 ^ j))
      ∙ ap (λ (c : ℕ). c * 2 ^ j) v.1
      ∙ mul_right_comm n (down e) (2 ^ j),
)

pub holds-finer : (k j : ℕ) (z : ℤ) (x : Float) → Holds k z x → Holds (k + j) (z *ℤ pos (2 ^ j)) x
holds-finer k j z x v = record {
  sign = v.sign;
  size = v.size * 2 ^ j;
  whole =
      ap (λ (s : Bool). signed s (v.size * 2 ^ j)) (sym (plain v.sign))
      ∙ mul-signed v.sign false v.size (2 ^ j)
      ∙ ap (λ (y : ℤ). y *ℤ pos (2 ^ j)) v.whole;
  value = finer-value k j x v.sign v.size v.value;
}
