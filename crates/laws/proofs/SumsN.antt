-- Sums of natural numbers: those of any total, size, a sum of 0, and the same over ℤ. Each by induction on the number of terms. Assumes nothing.
use mathlib.Core.Path.{◌≡◌, refl, ap}
use Prim.Native.Nat.{ℕ, zero, suc, ◌+◌, ◌*◌, ◌≤◌, ◌<◌, zero-le}
use native.Mathlib.Nat.{le_step, lt-suc_self, add-zero, add_assoc}
use native.Mathlib.Omega.{arith}
use lib.IntN.{ℤ, pos, ◌+ℤ◌}
use Rattle.laws.specs.Sums.{total, sum_to, sum_n}
use Rattle.laws.proofs.Totals.{total-more, total_ext, total-split, total-add, total-swap, total-rows}

pub sum_more : (f : ℕ → ℕ) (n : ℕ) → sum_n f n + f n ≡ sum_n f (n + 1)
sum_more f n = total-more ◌+◌ 0 f n

pub sum-ext : (f g : ℕ → ℕ) (n : ℕ) → ((i : ℕ) → i < n → f i ≡ g i) → sum_n f n ≡ sum_n g n
sum-ext f g n h = total_ext ◌+◌ 0 f g n h

pub sum-split : (f : ℕ → ℕ) (a n : ℕ) → sum_n f (a + n) ≡ sum_n f a + sum_n (λ i. f (a + i)) n
sum-split f a n = total-split ◌+◌ 0 add_assoc add-zero f a n

swapped : (x y z u : ℕ) → x + y + (z + u) ≡ x + z + (y + u)
swapped x y z u = omega arith

-- terms of at most c times others
pub sum-le : (c : ℕ) (f g : ℕ → ℕ) (n : ℕ) → ((i : ℕ) → i < n → f i ≤ c * g i) → sum_n f n ≤ c * sum_n g n
unfolding total
sum-le c f g zero h = zero-le
sum-le c f g (suc n) h = omega (arith, sum-le c f g n (λ i l. h i (le_step l)), h n (lt-suc_self n))

pub sum_ones : (n : ℕ) → sum_n (λ i. 1) n ≡ n
unfolding total
sum_ones zero = refl
sum_ones (suc n) = omega (arith, sum_ones n)

pub sum_bound : (c : ℕ) (f : ℕ → ℕ) (n : ℕ) → ((i : ℕ) → i < n → f i ≤ c) → sum_n f n ≤ c * n
sum_bound c f n h = rw (sum_ones n) at (sum-le c f (λ i. 1) n (λ i l. omega (arith, h i l)))

-- a sum of 0
pub sum-zero : (f : ℕ → ℕ) (n : ℕ) → ((i : ℕ) → i < n → f i ≡ 0) → sum_n f n ≡ 0
unfolding total
sum-zero f zero h = refl
sum-zero f (suc n) h = omega (arith, sum-zero f n (λ i l. h i (le_step l)), h n (lt-suc_self n))

pub sum-add : (f g : ℕ → ℕ) (n : ℕ) → sum_n (λ i. f i + g i) n ≡ sum_n f n + sum_n g n
sum-add f g n = total-add ◌+◌ 0 refl swapped f g n

pub sum-swap : (f : ℕ → ℕ → ℕ) (m n : ℕ) → sum_n (λ j. sum_n (f j) n) m ≡ sum_n (λ i. sum_n (λ j. f j i) m) n
sum-swap f m n = total-swap ◌+◌ 0 refl swapped f m n

-- over ℤ
pub sum-pos : (f : ℕ → ℕ) (n : ℕ) → sum_to (λ i. pos (f i)) n ≡ pos (sum_n f n)
unfolding total
sum-pos f zero = refl
sum-pos f (suc n) = ap (λ (z : ℤ). z +ℤ pos (f n)) (sum-pos f n)

-- h rows of w terms each are h * w terms
pub sum_rows : (g : ℕ → ℕ) (w h : ℕ) → sum_n (λ r. sum_n (λ c. g (r * w + c)) w) h ≡ sum_n g (h * w)
sum_rows g w h = total-rows ◌+◌ 0 add_assoc add-zero g w h
