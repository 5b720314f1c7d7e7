-- Over whole numbers, the products of noises `lag` columns apart add up to no more than the energy: 2 |x y| ≤ x² + y², summed. Assumes nothing.
use Rattle.std.proofs.Common.{◌≡◌, ℕ, zero, suc, ◌+◌, ◌-◌, ◌*◌, ◌<◌, ◌≤◌, Bool, true, false, not, T, leb, ℤ, pos, negsuc, ◌+ℤ◌, ◌*ℤ◌, nat_abs, ◌≤ℤ◌, sym, refl, ap, ◌∙◌, zero-le, le_trans, le_of_eq, le-add_right, add-le-add, lt-suc_self, mul_comm, add-mul, add_comm, mul-add, sub-add_cancel, le-add_left, arith, leb→le}
use native.Mathlib.Nat.{le_step}
use lib.Dec.{nleb→lt}
use Rattle.laws.specs.Sums.{total, sum_to, span}
use Rattle.laws.proofs.Whole.{abs-add, abs-mul, square-nonneg}
use Rattle.laws.proofs.Sums.{sum-ext, sum-split, sum_nonneg}

-- ---- 2 a b ≤ a² + b²
apart : (a d : ℕ) → 2 * (a * (a + d)) ≤ a * a + (a + d) * (a + d)
apart a d = simp (mul-add, add-mul) (omega (arith, mul_comm a d))

twice-product : (a b : ℕ) → 2 * (a * b) ≤ a * a + b * b
twice-product a b = go (leb a b) (leb→le a b) (nleb→lt a b)
  where
    go : (t : Bool) → (T t → a ≤ b) → (T (not t) → b < a) → 2 * (a * b) ≤ a * a + b * b
    go true l m = let e : a + (b - a) ≡ b = omega (arith, l tt) in rw e at (apart a (b - a))
    go false l m = let e : b + (a - b) ≡ a = omega (arith, m tt) in omega (arith, mul_comm a b, rw e at (apart b (a - b)))

-- ---- sums of numbers that are not negative
abs-both : (a b : ℤ) → pos 0 ≤ℤ a → pos 0 ≤ℤ b → nat_abs (a +ℤ b) ≡ nat_abs a + nat_abs b
abs-both (pos a) (pos b) h k = refl
abs-both (pos a) (negsuc b) h k = absurd k.le
abs-both (negsuc a) b h k = absurd h.le

module _ (g : ℕ → ℤ) (h : (i : ℕ) → pos 0 ≤ℤ g i) where
  more : (n : ℕ) → nat_abs (sum_to g n +ℤ g n) ≡ nat_abs (sum_to g n) + nat_abs (g n)
  more n = abs-both (sum_to g n) (g n) (sum_nonneg g n (λ i l. h i)) (h n)

  parts : (a n : ℕ) → nat_abs (sum_to g (a + n)) ≡ nat_abs (sum_to g a) + nat_abs (span g a n)
  parts a n = ap nat_abs (sum-split g a n) ∙ abs-both (sum_to g a) (span g a n) (sum_nonneg g a (λ i l. h i)) (sum_nonneg (λ i. g (a + i)) n (λ i l. h (a + i)))

  -- smaller terms have a smaller sum
  pub sum-within : (f : ℕ → ℤ) (n : ℕ) → ((i : ℕ) → i < n → nat_abs (f i) ≤ nat_abs (g i)) → nat_abs (sum_to f n) ≤ nat_abs (sum_to g n)
  unfolding total
  sum-within f zero l = zero-le
  sum-within f (suc n) l =
      le_trans (abs-add (sum_to f n) (f n))
      (le_trans (add-le-add (sum-within f n (λ i k. l i (le_step k))) (l n (lt-suc_self n))) (le_of_eq (sym (more n))))

-- ---- a row of noise x
module _ (x : ℕ → ℤ) where
  abbrev square : ℕ → ℤ
  square c = x c *ℤ x c

  nonneg : (c : ℕ) → pos 0 ≤ℤ square c
  nonneg c = square-nonneg (x c)

  turn : (s a b p q t : ℕ) → 2 * s ≤ a + b → 2 * t ≤ p + q → 2 * (s + t) ≤ a + p + (b + q)
  turn s a b p q t h k = omega arith

  twice-row : (lag n : ℕ) → 2 * nat_abs (sum_to (λ c. x c *ℤ x (c + lag)) n) ≤ nat_abs (sum_to square n) + nat_abs (sum_to (λ c. square (c + lag)) n)
  unfolding total
  twice-row lag zero = zero-le
  twice-row lag (suc n) =
      let y = x n in
      let z = x (n + lag) in
      let one : 2 * nat_abs (y *ℤ z) ≤ nat_abs (y *ℤ y) + nat_abs (z *ℤ z) = rw (abs-mul y z, abs-mul y y, abs-mul z z) (twice-product (nat_abs y) (nat_abs z)) in
      let s = nat_abs (sum_to (λ c. x c *ℤ x (c + lag)) n) in
      le_trans (mul-two (abs-add (sum_to (λ c. x c *ℤ x (c + lag)) n) (y *ℤ z)))
      (le_trans (turn s _ _ _ _ _ (twice-row lag n) one)
      (le_of_eq (λ i. sym (more square nonneg n) i + sym (more (λ c. square (c + lag)) (λ c. nonneg (c + lag)) n) i)))
    where
      mul-two : {m n : ℕ} → m ≤ n → 2 * m ≤ 2 * n
      mul-two {m} {n} h = omega arith

  halve : (s a b e : ℕ) → 2 * s ≤ a + b → a ≤ e → b ≤ e → s ≤ e
  halve s a b e h k l = omega arith

  pub row_within : (lag n : ℕ) → nat_abs (sum_to (λ c. x c *ℤ x (c + lag)) n) ≤ nat_abs (sum_to square (n + lag))
  row_within lag n =
      halve _ _ _ _ (twice-row lag n)
      (le_trans (le-add_right _ _) (le_of_eq (sym (parts square nonneg n lag))))
      (le_trans (le_of_eq (ap nat_abs (sum-ext (λ c. square (c + lag)) (λ c. square (lag + c)) n (λ i l. ap square (add_comm i lag)))))
      (le_trans (le-add_left _ _) (le_of_eq (sym (parts square nonneg lag n) ∙ ap (λ (m : ℕ). nat_abs (sum_to square m)) (add_comm lag n)))))

-- ---- h rows, w wide
pub lagged-within : (x : ℕ → ℕ → ℤ) (h w lag : ℕ) → lag ≤ w
    → nat_abs (sum_to (λ r. sum_to (λ c. x r c *ℤ x r (c + lag)) (w - lag)) h) ≤ nat_abs (sum_to (λ r. sum_to (λ c. x r c *ℤ x r c) w) h)
lagged-within x h w lag l =
    sum-within (λ r. sum_to (λ c. x r c *ℤ x r c) w) (λ r. sum_nonneg (λ c. x r c *ℤ x r c) w (λ c k. square-nonneg (x r c))) _ h
    (λ r k. le_trans (row_within (x r) lag (w - lag)) (le_of_eq (ap (λ (m : ℕ). nat_abs (sum_to (λ c. x r c *ℤ x r c) m)) (sub-add_cancel l))))
