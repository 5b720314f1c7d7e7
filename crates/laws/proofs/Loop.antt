-- The laws of `loop` that a loop's proof uses: where it begins, after a turn, where it ends, and a state that no turn changes; and of two loops side by side. Assumes nothing.
use mathlib.Core.Path.{◌≡◌, refl, sym, ◌∙◌, ap}
use Prim.Native.Nat.{ℕ, zero, suc, ◌+◌, ◌-◌, ◌≤◌, ◌<◌}
use native.Mathlib.Nat.{add-zero, add-suc}
use native.Mathlib.Omega.{arith}
use Rattle.laws.specs.Loop.{turns, loop}

-- no turn
pub loop-none : {S : Type 0} (a b : ℕ) (f : ℕ → S → S) (s : S) → b ≤ a → loop a b f s ≡ s
unfolding loop turns
loop-none a b f s h = let e : b - a ≡ 0 = omega arith in ap (λ (n : ℕ). turns f a n s) e

-- one turn more
pub loop-more : {S : Type 0} (a k : ℕ) (f : ℕ → S → S) (s : S) → a ≤ k → loop a (k + 1) f s ≡ f k (loop a k f s)
unfolding loop turns
loop-more a k f s h =
    let e : k + 1 - a ≡ suc (k - a) = omega arith in
    let d : a + (k - a) ≡ k = omega arith in
    ap (λ (n : ℕ). turns f a n s) e ∙ ap (λ (n : ℕ). f n (turns f a (k - a) s)) d

-- a state that no turn changes stays to the end
turns-fixed : {S : Type 0} (f : ℕ → S → S) (z : S) → ((k : ℕ) → f k z ≡ z) → (a m n : ℕ) (s : S) → turns f a m s ≡ z → turns f a (m + n) s ≡ z
unfolding turns
turns-fixed f z fixed a m zero s h = ap (λ (n : ℕ). turns f a n s) (add-zero m) ∙ h
turns-fixed f z fixed a m (suc n) s h =
    ap (λ (n : ℕ). turns f a n s) (add-suc m n) ∙ ap (f (a + (m + n))) (turns-fixed f z fixed a m n s h) ∙ fixed (a + (m + n))

pub loop-fixed : {S : Type 0} (a k b : ℕ) (f : ℕ → S → S) (s z : S)
    → ((k : ℕ) → f k z ≡ z) → a ≤ k → k ≤ b → loop a k f s ≡ z → loop a b f s ≡ z
unfolding loop
loop-fixed a k b f s z fixed h l e =
    let d : b - a ≡ k - a + (b - k) = omega arith in
    ap (λ (n : ℕ). turns f a n s) d ∙ turns-fixed f z fixed a (k - a) (b - k) s e

-- ---- the same as a loop's proof wants them

pub loop-starts : {S : Type 0} (a : ℕ) (f : ℕ → S → S) (s : S) → s ≡ loop a a f s
loop-starts a f s = sym (loop-none a a f s (omega arith))

pub loop-turn : {S : Type 0} (a k : ℕ) (f : ℕ → S → S) (s t : S) → a ≤ k → t ≡ loop a k f s → f k t ≡ loop a (k + 1) f s
loop-turn a k f s t h e = ap (f k) e ∙ sym (loop-more a k f s h)

pub loop-ends : {S : Type 0} (a k b : ℕ) (f : ℕ → S → S) (s t : S) → k ≤ b → b ≤ k → t ≡ loop a k f s → t ≡ loop a b f s
loop-ends a k b f s t h l e = let d : k ≡ b = omega arith in e ∙ ap (λ (n : ℕ). loop a n f s) d

-- ---- two loops of one range, run side by side: what each turn keeps between the two states holds at the end

-- R k holds before turn k
module _ {S T : Type 0} (R : ℕ → S → T → Type 0) (a b : ℕ) (f : ℕ → S → S) (g : ℕ → T → T) (turn : (k : ℕ) (s : S) (t : T) → a ≤ k → k < b → R k s t → R (k + 1) (f k s) (g k t)) where
  turns-together : (n : ℕ) → n ≤ b - a → (s : S) (t : T) → R a s t → (k : ℕ) → k ≡ a + n → R k (turns f a n s) (turns g a n t)
  unfolding turns
  turns-together zero h s t r k e = let d : k ≡ a = omega arith in rw d r
  turns-together (suc n) h s t r k e =
      let d : k ≡ a + n + 1 = omega arith in
      rw d (turn (a + n) _ _ (omega arith) (omega arith) (turns-together n (omega arith) s t r (a + n) refl))

  pub loops-together : a ≤ b → (s : S) (t : T) → R a s t → R b (loop a b f s) (loop a b g t)
  unfolding loop
  loops-together h s t r = turns-together (b - a) (omega arith) s t r b (omega arith)
