-- Whole numbers: the magnitude of a sum, a difference and a product, the sign of a sum and of a square, and a product over a sum. Assumes nothing.
use mathlib.Core.Path.{◌≡◌, refl, sym, ap, ◌∙◌}
use mathlib.Core.Bool.{Bool, true, false, cond}
use Prim.Native.Nat.{ℕ, zero, suc, ◌+◌, ◌-◌, ◌*◌, ◌≤◌, ◌<◌, zero-le}
use native.Mathlib.Nat.{le_refl, le_trans, le_of_eq, lt_of_le_of_lt, add-zero, mul-le-mul}
use native.Mathlib.Omega.{arith}
use lib.IntN.{ℤ, pos, negsuc, neg_ℤ, nat_abs, ◌+ℤ◌, ◌-ℤ◌, ◌*ℤ◌, +ℤ_assoc, +ℤ_comm, +ℤ_one, -ℤ_one, neg_ℤ-+ℤ, *ℤ_comm, zero-*ℤ, suc_ℤ-*ℤ, pred_ℤ-*ℤ, ℤ_ind}
use lib.Dec.{T, ltb, ltb→lt, le→leb}
use lib.Signed.{◌≤ℤ◌, le_z_yes}

-- ---- magnitudes
-- m - n, by the test that decides its sign
part-le : (t : Bool) (m n : ℕ) → (T t → m < n) → nat_abs (cond t (negsuc (n - suc m)) (pos (m - n))) ≤ m + n
part-le true m n l = let d = l tt in fact m n d
  where
    fact : (m n : ℕ) → m < n → suc (n - suc m) ≤ m + n
    fact m n l = omega arith
part-le false m n l = fact m n
  where
    fact : (m n : ℕ) → m - n ≤ m + n
    fact m n = omega arith

pub abs-add : (a b : ℤ) → nat_abs (a +ℤ b) ≤ nat_abs a + nat_abs b
abs-add (pos a) (pos b) = le_refl (a + b)
abs-add (pos a) (negsuc b) = part-le (ltb a (suc b)) a (suc b) (ltb→lt a (suc b))
abs-add (negsuc a) (pos b) = let h = part-le (ltb b (suc a)) b (suc a) (ltb→lt b (suc a)) in le_trans h (turn b (suc a))
  where
    turn : (m n : ℕ) → m + n ≤ n + m
    turn m n = omega arith
abs-add (negsuc a) (negsuc b) = turn a b
  where
    turn : (m n : ℕ) → suc (suc (m + n)) ≤ suc m + suc n
    turn m n = omega arith

pub abs_neg : (a : ℤ) → nat_abs (neg_ℤ a) ≡ nat_abs a
abs_neg (pos zero) = refl
abs_neg (pos (suc n)) = refl
abs_neg (negsuc n) = refl

pub abs-sub : (a b : ℤ) → nat_abs (a -ℤ b) ≤ nat_abs a + nat_abs b
abs-sub a b = le_trans (abs-add a (neg_ℤ b)) (le_of_eq (ap (λ (n : ℕ). nat_abs a + n) (abs_neg b)))

pub abs-mul : (a b : ℤ) → nat_abs (a *ℤ b) ≡ nat_abs a * nat_abs b
abs-mul (pos a) (pos b) = refl
abs-mul (pos a) (negsuc b) = abs_neg (pos (a * suc b))
abs-mul (negsuc a) (pos b) = abs_neg (pos (suc a * b))
abs-mul (negsuc a) (negsuc b) = refl

pub abs-mul-le : (a b : ℤ) (c d : ℕ) → nat_abs a ≤ c → nat_abs b ≤ d → nat_abs (a *ℤ b) ≤ c * d
abs-mul-le a b c d h k = le_trans (le_of_eq (abs-mul a b)) (mul-le-mul h k)

-- the difference of two numbers from 0 to c - 1
part-lt : (t : Bool) (m n c : ℕ) → m < c → n < c → (T t → m < n) → nat_abs (cond t (negsuc (n - suc m)) (pos (m - n))) < c
part-lt true m n c h k l = let d = l tt in fact m n c h k d
  where
    fact : (m n c : ℕ) → m < c → n < c → m < n → suc (n - suc m) < c
    fact m n c h k l = omega arith
part-lt false m n c h k l = fact m n c h
  where
    fact : (m n c : ℕ) → m < c → m - n < c
    fact m n c h = omega arith

pub abs_diff : (m n c : ℕ) → m < c → n < c → nat_abs (pos m -ℤ pos n) < c
abs_diff m zero c h k = lt_of_le_of_lt (le_of_eq (add-zero m)) h
abs_diff m (suc n) c h k = part-lt (ltb m (suc n)) m (suc n) c h k (ltb→lt m (suc n))

-- ---- numbers that are not negative
pos-nonneg : (n : ℕ) → pos 0 ≤ℤ pos n
pos-nonneg n = le_z_yes (le→leb 0 n zero-le)

pub add-nonneg : (a b : ℤ) → pos 0 ≤ℤ a → pos 0 ≤ℤ b → pos 0 ≤ℤ (a +ℤ b)
add-nonneg (pos a) (pos b) h k = pos-nonneg (a + b)
add-nonneg (pos a) (negsuc b) h k = absurd k.le
add-nonneg (negsuc a) b h k = absurd h.le

pub square-nonneg : (a : ℤ) → pos 0 ≤ℤ (a *ℤ a)
square-nonneg (pos n) = pos-nonneg (n * n)
square-nonneg (negsuc n) = pos-nonneg (suc n * suc n)

-- ---- a product over a sum
pub swap-middle : (a b c d : ℤ) → a +ℤ b +ℤ (c +ℤ d) ≡ a +ℤ c +ℤ (b +ℤ d)
swap-middle a b c d =
    +ℤ_assoc a b (c +ℤ d)
    ∙ ap (λ (z : ℤ). a +ℤ z) (sym (+ℤ_assoc b c d) ∙ ap (λ (z : ℤ). z +ℤ d) (+ℤ_comm b c) ∙ +ℤ_assoc c b d)
    ∙ sym (+ℤ_assoc a c (b +ℤ d))

pub mul-sum : (m a b : ℤ) → m *ℤ (a +ℤ b) ≡ m *ℤ a +ℤ m *ℤ b
mul-sum m a b = ℤ_ind (λ m. m *ℤ (a +ℤ b) ≡ m *ℤ a +ℤ m *ℤ b) none (λ n h. up (pos n) h) (λ n h. down (neg_ℤ (pos n)) h) m
  where
    none : pos 0 *ℤ (a +ℤ b) ≡ pos 0 *ℤ a +ℤ pos 0 *ℤ b
    none = zero-*ℤ (a +ℤ b) ∙ (λ i. sym (zero-*ℤ a) i +ℤ sym (zero-*ℤ b) i)

    up : (m : ℤ) → m *ℤ (a +ℤ b) ≡ m *ℤ a +ℤ m *ℤ b → (m +ℤ pos 1) *ℤ (a +ℤ b) ≡ (m +ℤ pos 1) *ℤ a +ℤ (m +ℤ pos 1) *ℤ b
    up m h =
        let e : (k : ℤ) → (m +ℤ pos 1) *ℤ k ≡ m *ℤ k +ℤ k = λ k. ap (λ (z : ℤ). z *ℤ k) (+ℤ_one m) ∙ suc_ℤ-*ℤ m k in
        e (a +ℤ b) ∙ ap (λ (z : ℤ). z +ℤ (a +ℤ b)) h ∙ swap-middle (m *ℤ a) (m *ℤ b) a b ∙ (λ i. sym (e a) i +ℤ sym (e b) i)

    down : (m : ℤ) → m *ℤ (a +ℤ b) ≡ m *ℤ a +ℤ m *ℤ b → (m -ℤ pos 1) *ℤ (a +ℤ b) ≡ (m -ℤ pos 1) *ℤ a +ℤ (m -ℤ pos 1) *ℤ b
    down m h =
        let e : (k : ℤ) → (m -ℤ pos 1) *ℤ k ≡ m *ℤ k -ℤ k = λ k. ap (λ (z : ℤ). z *ℤ k) (-ℤ_one m) ∙ pred_ℤ-*ℤ m k in
        e (a +ℤ b)
        ∙ (λ i. h i +ℤ neg_ℤ-+ℤ a b i)
        ∙ swap-middle (m *ℤ a) (m *ℤ b) (neg_ℤ a) (neg_ℤ b)
        ∙ (λ i. sym (e a) i +ℤ sym (e b) i)

pub sum-mul : (a b m : ℤ) → (a +ℤ b) *ℤ m ≡ a *ℤ m +ℤ b *ℤ m
sum-mul a b m = *ℤ_comm (a +ℤ b) m ∙ mul-sum m a b ∙ (λ i. *ℤ_comm m a i +ℤ *ℤ_comm m b i)
