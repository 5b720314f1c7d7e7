-- Two loops in another shape: one along h × w numbers runs along h rows of w, and one that passes its last turns over ends before them. Assumes nothing.
use mathlib.Core.Path.{◌≡◌, refl, sym, ap, ◌∙◌}
use mathlib.Core.Bool.{cond}
use Prim.Native.Nat.{ℕ, zero, suc, ◌+◌, ◌-◌, ◌*◌, ◌<◌, ◌≤◌}
use native.Mathlib.Nat.{le_refl, le_trans, le-suc, add-zero, add-suc, add_assoc, zero-add, zero-mul, suc-mul, sub-zero}
use native.Mathlib.Omega.{arith}
use lib.Dec.{ltb}
use borrow.Author.Tests.{lt-ltb, le-ltb}
use Rattle.laws.specs.Loop.{turns, loop}

-- m turns, and n after them
turns-split : {S : Type 0} (f : ℕ → S → S) (a m n : ℕ) (s : S) → turns f a (m + n) s ≡ turns f (a + m) n (turns f a m s)
unfolding turns
turns-split f a m zero s = ap (λ (k : ℕ). turns f a k s) (add-zero m)
turns-split f a m (suc n) s = ap (λ (k : ℕ). turns f a k s) (add-suc m n) ∙ (λ i. f (sym (add_assoc a m n) i) (turns-split f a m n s i))

module _ {S : Type 0} (f : ℕ → S → S) where
  -- the turns counted from 0
  turns-from : (a n : ℕ) (s : S) → turns f a n s ≡ turns (λ k. f (a + k)) 0 n s
  unfolding turns
  turns-from a zero s = refl
  turns-from a (suc n) s = λ i. f (a + sym (zero-add n) i) (turns-from a n s i)

  turns-rows : (h w : ℕ) (s : S) → turns f 0 (h * w) s ≡ turns (λ r. turns (λ c. f (r * w + c)) 0 w) 0 h s
  unfolding turns
  turns-rows zero w s = ap (λ (k : ℕ). turns f 0 k s) (zero-mul w)
  turns-rows (suc h) w s =
      ap (λ (k : ℕ). turns f 0 k s) (suc-mul h w)
      ∙ turns-split f 0 (h * w) w s
      ∙ (λ i. turns f (zero-add (h * w) i) w (turns-rows h w s i))
      ∙ turns-from (h * w) w (turns (λ r. turns (λ c. f (r * w + c)) 0 w) 0 h s)
      ∙ ap (λ (r : ℕ). turns (λ c. f (r * w + c)) 0 w (turns (λ r. turns (λ c. f (r * w + c)) 0 w) 0 h s)) (sym (zero-add h))

  pub loop-rows : (h w : ℕ) (s : S) → loop 0 (h * w) f s ≡ loop 0 h (λ r. loop 0 w (λ c. f (r * w + c))) s
  unfolding loop
  loop-rows h w s =
      ap (λ (k : ℕ). turns f 0 k s) (sub-zero (h * w))
      ∙ turns-rows h w s
      ∙ (λ i. turns (λ r. turns (λ c. f (r * w + c)) 0 (sym (sub-zero w) i)) 0 (sym (sub-zero h) i) s)

  -- ---- of the turns below w, those with k + lag < w
  module _ (w lag : ℕ) where
    abbrev tested : ℕ → S → S
    tested k s = cond (ltb (k + lag) w) (f k s) s

    before : (n : ℕ) (s : S) → n ≤ w - lag → turns tested 0 n s ≡ turns f 0 n s
    unfolding turns
    before zero s h = refl
    before (suc n) s h =
        let t : 0 + n + lag < w = omega arith in
        let p = before n s (le_trans (le-suc n) h) in
        λ i. cond (lt-ltb (0 + n + lag) w t i) (f (0 + n) (p i)) (p i)

    after : (a n : ℕ) (s : S) → w ≤ a + lag → turns tested a n s ≡ s
    unfolding turns
    after a zero s h = refl
    after a (suc n) s h =
        let t : w ≤ a + n + lag = omega arith in
        let p = after a n s h in
        λ i. cond (le-ltb (a + n + lag) w t i) (f (a + n) (p i)) (p i)

    pub loop-tested : (s : S) → loop 0 w tested s ≡ loop 0 (w - lag) f s
    unfolding loop
    loop-tested s =
        let e : w - 0 ≡ w - lag + (w - (w - lag)) = omega arith in
        ap (λ (k : ℕ). turns tested 0 k s) e
        ∙ turns-split tested 0 (w - lag) (w - (w - lag)) s
        ∙ after (0 + (w - lag)) (w - (w - lag)) (turns tested 0 (w - lag) s) (omega arith)
        ∙ before (w - lag) s (le_refl (w - lag))
        ∙ ap (λ (k : ℕ). turns f 0 k s) (sym (sub-zero (w - lag)))
