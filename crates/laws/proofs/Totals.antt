-- Totals under any sum: one term more, equal terms, parts, totals of totals and their order, rows. Each by induction on the number of terms, from the laws of that sum. Assumes nothing.
use mathlib.Core.Path.{◌≡◌, refl, sym, ap, ◌∙◌}
use Prim.Native.Nat.{ℕ, zero, suc, ◌+◌, ◌*◌, ◌<◌}
use native.Mathlib.Nat.{le_step, lt-suc_self, add-zero, add-suc, zero-mul, suc-mul}
use native.Mathlib.Numerals.{add-one}
use Rattle.laws.specs.Sums.{total}

module _ {A : Type 0} (add : A → A → A) (e : A) where
  -- one term more
  pub total-more : (g : ℕ → A) (n : ℕ) → add (total add e g n) (g n) ≡ total add e g (n + 1)
  unfolding total
  total-more g n = ap (λ (m : ℕ). total add e g m) (sym (add-one n))

  -- equal terms, equal totals
  pub total_ext : (f g : ℕ → A) (n : ℕ) → ((i : ℕ) → i < n → f i ≡ g i) → total add e f n ≡ total add e g n
  unfolding total
  total_ext f g zero h = refl
  total_ext f g (suc n) h = λ j. add (total_ext f g n (λ i l. h i (le_step l)) j) (h n (lt-suc_self n) j)

  -- the first a terms, and n terms after them
  pub total-split : ((x y z : A) → add (add x y) z ≡ add x (add y z)) → ((x : A) → add x e ≡ x)
      → (g : ℕ → A) (a n : ℕ) → total add e g (a + n) ≡ add (total add e g a) (total add e (λ i. g (a + i)) n)
  unfolding total
  total-split assoc idr g a zero = ap (λ (m : ℕ). total add e g m) (add-zero a) ∙ sym (idr (total add e g a))
  total-split assoc idr g a (suc n) =
      ap (λ (m : ℕ). total add e g m) (add-suc a n)
      ∙ ap (λ (x : A). add x (g (a + n))) (total-split assoc idr g a n)
      ∙ assoc (total add e g a) (total add e (λ i. g (a + i)) n) (g (a + n))

  -- where two sums of two are the sum of the firsts and that of the seconds
  module _ (idle : add e e ≡ e) (swap : (x y z u : A) → add (add x y) (add z u) ≡ add (add x z) (add y u)) where
    pub total-add : (f g : ℕ → A) (n : ℕ) → total add e (λ i. add (f i) (g i)) n ≡ add (total add e f n) (total add e g n)
    unfolding total
    total-add f g zero = sym idle
    total-add f g (suc n) = ap (λ (x : A). add x (add (f n) (g n))) (total-add f g n) ∙ swap (total add e f n) (total add e g n) (f n) (g n)

    total-none : (n : ℕ) → total add e (λ i. e) n ≡ e
    unfolding total
    total-none zero = refl
    total-none (suc n) = ap (λ (x : A). add x e) (total-none n) ∙ idle

    pub total-swap : (f : ℕ → ℕ → A) (m n : ℕ) → total add e (λ j. total add e (f j) n) m ≡ total add e (λ i. total add e (λ j. f j i) m) n
    unfolding total
    total-swap f zero n = sym (total-none n)
    total-swap f (suc m) n =
        ap (λ (x : A). add x (total add e (f m) n)) (total-swap f m n) ∙ sym (total-add (λ i. total add e (λ j. f j i) m) (f m) n)

  -- h rows of w terms each are h * w terms
  pub total-rows : ((x y z : A) → add (add x y) z ≡ add x (add y z)) → ((x : A) → add x e ≡ x)
      → (g : ℕ → A) (w h : ℕ) → total add e (λ r. total add e (λ c. g (r * w + c)) w) h ≡ total add e g (h * w)
  unfolding total
  total-rows assoc idr g w zero = ap (λ (m : ℕ). total add e g m) (sym (zero-mul w))
  total-rows assoc idr g w (suc h) =
      ap (λ (x : A). add x (total add e (λ c. g (h * w + c)) w)) (total-rows assoc idr g w h)
      ∙ sym (total-split assoc idr g (h * w) w)
      ∙ ap (λ (m : ℕ). total add e g m) (sym (suc-mul h w))
