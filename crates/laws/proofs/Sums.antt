-- Sums of whole numbers: those of any total, a common factor, size and sign, rows, and the same as the sum of a list. Each by induction on the number of terms. Assumes nothing.
use mathlib.Core.Path.{◌≡◌, refl, sym, ap, ◌∙◌}
use mathlib.Core.List.{List, [], ◌∷◌, ◌++◌, map}
use mathlib.Core.Logic.{⊎_elim}
use Prim.Native.Nat.{ℕ, zero, suc, ◌+◌, ◌-◌, ◌*◌, ◌≤◌, ◌<◌, zero-le}
use native.Mathlib.Nat.{not-suc-le-zero, le_of_suc-le-suc, eq-or-lt_of_le, le_step, le_trans, le_of_eq, lt-suc_self, zero-add, add_comm, sub-zero, add-le-add, suc-mul}
use native.Mathlib.Omega.{arith}
use lib.IntN.{ℤ, pos, negsuc, neg_ℤ, nat_abs, ◌+ℤ◌, ◌-ℤ◌, ◌*ℤ◌, +ℤ_idl, +ℤ_idr, +ℤ_assoc, +ℤ_comm, +ℤ-neg_ℤ_cancel, zero-*ℤ}
use lib.Signed.{◌≤ℤ◌, ≤ℤ_refl}
use Rattle.laws.specs.Sums.{total, sum_to, span, sum_z}
use Rattle.laws.specs.Table.{tabulate, range}
use Rattle.laws.proofs.Table.{map-tabulate}
use Rattle.laws.proofs.Totals.{total-more, total_ext, total-split, total-add, total-rows}
use Rattle.laws.proofs.Whole.{abs-add, add-nonneg, swap-middle, sum-mul}

pub sum_more : (g : ℕ → ℤ) (n : ℕ) → sum_to g n +ℤ g n ≡ sum_to g (n + 1)
sum_more g n = total-more ◌+ℤ◌ (pos 0) g n

pub sum-ext : (f g : ℕ → ℤ) (n : ℕ) → ((i : ℕ) → i < n → f i ≡ g i) → sum_to f n ≡ sum_to g n
sum-ext f g n h = total_ext ◌+ℤ◌ (pos 0) f g n h

pub span-zero : (g : ℕ → ℤ) (n : ℕ) → span g 0 n ≡ sum_to g n
span-zero g n = sum-ext (λ i. g (0 + i)) g n (λ i l. ap g (zero-add i))

-- rows and columns from 0 on
pub spans-zero : (g : ℕ → ℕ → ℤ) (h w : ℕ) → span (λ r. span (g r) 0 (w - 0)) 0 (h - 0) ≡ sum_to (λ r. sum_to (g r) w) h
spans-zero g h w =
    (λ i. span (λ r. span (g r) 0 (sub-zero w i)) 0 (sub-zero h i))
    ∙ span-zero (λ r. span (g r) 0 w) h
    ∙ sum-ext (λ r. span (g r) 0 w) (λ r. sum_to (g r) w) h (λ r l. span-zero (g r) w)

pub sum-split : (g : ℕ → ℤ) (a n : ℕ) → sum_to g (a + n) ≡ sum_to g a +ℤ span g a n
sum-split g a n = total-split ◌+ℤ◌ (pos 0) +ℤ_assoc +ℤ_idr g a n

-- n terms from the second on, from the first n: less the first, and one more
pub slide : (g : ℕ → ℤ) (n : ℕ) → sum_to g n -ℤ g 0 +ℤ g n ≡ span g 1 n
unfolding total
slide g n =
    regroup (sum_to g n) (g 0) (g n) (span g 1 n)
    (sum_more g n ∙ ap (λ (m : ℕ). sum_to g m) (add_comm n 1) ∙ sum-split g 1 n ∙ ap (λ (z : ℤ). z +ℤ span g 1 n) (+ℤ_idl (g 0)))
  where
    regroup : (s x y t : ℤ) → s +ℤ y ≡ x +ℤ t → s -ℤ x +ℤ y ≡ t
    regroup s x y t e =
        +ℤ_assoc s (neg_ℤ x) y
        ∙ ap (λ (z : ℤ). s +ℤ z) (+ℤ_comm (neg_ℤ x) y)
        ∙ sym (+ℤ_assoc s y (neg_ℤ x))
        ∙ ap (λ (z : ℤ). z -ℤ x) (e ∙ +ℤ_comm x t)
        ∙ +ℤ-neg_ℤ_cancel t x

pub sum-add : (f g : ℕ → ℤ) (n : ℕ) → sum_to (λ i. f i +ℤ g i) n ≡ sum_to f n +ℤ sum_to g n
sum-add f g n = total-add ◌+ℤ◌ (pos 0) refl swap-middle f g n

-- a factor of every term
pub sum-factor-right : (g : ℕ → ℤ) (c : ℤ) (n : ℕ) → sum_to (λ i. g i *ℤ c) n ≡ sum_to g n *ℤ c
unfolding total
sum-factor-right g c zero = sym (zero-*ℤ c)
sum-factor-right g c (suc n) = ap (λ (z : ℤ). z +ℤ g n *ℤ c) (sum-factor-right g c n) ∙ sym (sum-mul (sum_to g n) (g n) c)

-- terms of at most b in size
pub sum_bound : (g : ℕ → ℤ) (b n : ℕ) → ((i : ℕ) → i < n → nat_abs (g i) ≤ b) → nat_abs (sum_to g n) ≤ n * b
unfolding total
sum_bound g b zero h = zero-le
sum_bound g b (suc n) h =
    le_trans (abs-add (sum_to g n) (g n))
    (le_trans (add-le-add (sum_bound g b n (λ i l. h i (le_step l))) (h n (lt-suc_self n))) (le_of_eq (sym (suc-mul n b))))

-- terms that are not negative
pub sum_nonneg : (g : ℕ → ℤ) (n : ℕ) → ((i : ℕ) → i < n → pos 0 ≤ℤ g i) → pos 0 ≤ℤ sum_to g n
unfolding total
sum_nonneg g zero h = ≤ℤ_refl (pos 0)
sum_nonneg g (suc n) h = add-nonneg (sum_to g n) (g n) (sum_nonneg g n (λ i l. h i (le_step l))) (h n (lt-suc_self n))

both_zero : (a b : ℤ) → pos 0 ≤ℤ a → pos 0 ≤ℤ b → a +ℤ b ≡ pos 0 → (a ≡ pos 0) × (b ≡ pos 0)
both_zero (pos a) (pos b) h k e =
    let d : a + b ≡ 0 = ap nat_abs e in
    let x : a ≡ 0 = omega arith in
    let y : b ≡ 0 = omega arith in
    (ap pos x, ap pos y)
both_zero (pos a) (negsuc b) h k e = absurd k.le
both_zero (negsuc a) b h k e = absurd h.le

-- they add up to 0 where each is 0, and only there
pub sum-zero : (g : ℕ → ℤ) (n : ℕ) → ((i : ℕ) → i < n → g i ≡ pos 0) → sum_to g n ≡ pos 0
unfolding total
sum-zero g zero h = refl
sum-zero g (suc n) h = λ t. sum-zero g n (λ i l. h i (le_step l)) t +ℤ h n (lt-suc_self n) t

pub terms-zero : (g : ℕ → ℤ) (n : ℕ) → ((i : ℕ) → i < n → pos 0 ≤ℤ g i) → sum_to g n ≡ pos 0 → (i : ℕ) → i < n → g i ≡ pos 0
unfolding total
terms-zero g zero h e i l = absurd (not-suc-le-zero l)
terms-zero g (suc n) h e i l =
    let b = both_zero (sum_to g n) (g n) (sum_nonneg g n (λ i l. h i (le_step l))) (h n (lt-suc_self n)) e in
    ⊎_elim (λ d. ap g d ∙ b.1) (λ m. terms-zero g n (λ i l. h i (le_step l)) b.0 i m) (eq-or-lt_of_le (le_of_suc-le-suc l))

-- h rows of w terms each are h * w terms
pub sum_rows : (g : ℕ → ℤ) (w h : ℕ) → sum_to (λ r. span g (r * w) w) h ≡ sum_to g (h * w)
sum_rows g w h = total-rows ◌+ℤ◌ (pos 0) +ℤ_assoc +ℤ_idr g w h

-- ---- the sum of a list
pub sum-append : (xs ys : List ℤ) → sum_z (xs ++ ys) ≡ sum_z xs +ℤ sum_z ys
unfolding sum_z
sum-append [] ys = sym (+ℤ_idl (sum_z ys))
sum-append (x ∷ xs) ys = ap (λ (z : ℤ). x +ℤ z) (sum-append xs ys) ∙ sym (+ℤ_assoc x (sum_z xs) (sum_z ys))

pub sum-list : (g : ℕ → ℤ) (n : ℕ) → sum_to g n ≡ sum_z (tabulate n g)
unfolding total sum_z
sum-list g zero = refl
sum-list g (suc n) = (λ i. sum-list g n i +ℤ sym (+ℤ_idr (g n)) i) ∙ sym (sum-append (tabulate n g) (g n ∷ []))

pub sum-range : (g : ℕ → ℤ) (a b : ℕ) → sum_z (map g (range a b)) ≡ span g a (b - a)
sum-range g a b = ap sum_z (map-tabulate g (b - a) (λ i. a + i)) ∙ sym (sum-list (λ i. g (a + i)) (b - a))
