-- A loop over several accumulators, taken apart: a part of the state that each turn makes from that part alone is a loop of its own. And a loop of which one turn does something is that turn. Assumes nothing.
use mathlib.Core.Path.{◌≡◌, refl, sym, ap, ◌∙◌}
use mathlib.Core.Bool.{Bool, true, false, cond}
use mathlib.Core.Logic.{⊎_elim}
use Prim.Native.Nat.{ℕ, zero, suc, ◌+◌, ◌-◌, ◌<◌, ◌≤◌}
use native.Mathlib.Nat.{eq-or-lt_of_le}
use native.Mathlib.Omega.{arith}
use lib.Dec.{eqb, ltb}
use borrow.Author.Tests.{lt-ltb, le-ltb, ltb-true, ltb-false, eqb-true, eqb-false}
use Rattle.laws.specs.Loop.{turns, loop}

-- ---- a part of the state
module _ {S T : Type 0} (part : S → T) where
  turns-part : (f : ℕ → S → S) (g : ℕ → T → T) → ((k : ℕ) (s : S) → part (f k s) ≡ g k (part s)) → (a n : ℕ) (s : S) → part (turns f a n s) ≡ turns g a n (part s)
  unfolding turns
  turns-part f g alone a zero s = refl
  turns-part f g alone a (suc n) s = alone (a + n) (turns f a n s) ∙ ap (g (a + n)) (turns-part f g alone a n s)

  pub loop-part : (f : ℕ → S → S) (g : ℕ → T → T) → ((k : ℕ) (s : S) → part (f k s) ≡ g k (part s)) → (a b : ℕ) (s : S) → part (loop a b f s) ≡ loop a b g (part s)
  unfolding loop
  loop-part f g alone a b s = turns-part f g alone a (b - a) s

  -- of two loops, one in the other
  pub loops-part : (f : ℕ → ℕ → S → S) (g : ℕ → ℕ → T → T) → ((r q : ℕ) (s : S) → part (f r q s) ≡ g r q (part s))
      → (a b c d : ℕ) (s : S) → part (loop a b (λ r. loop c d (f r)) s) ≡ loop a b (λ r. loop c d (g r)) (part s)
  loops-part f g alone a b c d s = loop-part (λ r. loop c d (f r)) (λ r. loop c d (g r)) (λ r t. loop-part (f r) (g r) (alone r) c d t) a b s

-- so two loops over two accumulators, neither of which reads the other, are the loops of each
pub loops-pair : {S T : Type 0} (f : ℕ → ℕ → S → S) (g : ℕ → ℕ → T → T) (a b c d : ℕ) (s : S × T)
    → loop a b (λ r. loop c d (λ q (t : S × T). (f r q t.0, g r q t.1))) s ≡ (loop a b (λ r. loop c d (f r)) s.0, loop a b (λ r. loop c d (g r)) s.1)
loops-pair {S} {T} f g a b c d s =
    let h : ℕ → ℕ → S × T → S × T = λ r q t. (f r q t.0, g r q t.1) in
    λ i. (loops-part (λ (t : S × T). t.0) h f (λ r q t. refl) a b c d s i, loops-part (λ (t : S × T). t.1) h g (λ r q t. refl) a b c d s i)

-- ---- a state that stays
turns-still : {S : Type 0} (a n : ℕ) (s : S) → turns (λ k t. t) a n s ≡ s
unfolding turns
turns-still a zero s = refl
turns-still a (suc n) s = turns-still a n s

pub loop-still : {S : Type 0} (a b : ℕ) (s : S) → loop a b (λ k t. t) s ≡ s
unfolding loop
loop-still a b s = turns-still a (b - a) s

-- ---- one turn
-- n is passed by turn k or before, unless it is that turn
passed : (n k : ℕ) → (k ≡ n → ⊥) → ltb n k ≡ ltb n (k + 1)
passed n k e = go (ltb n k) (ltb-true n k) (ltb-false n k)
  where
    go : (b : Bool) → (b ≡ true → n < k) → (b ≡ false → k ≤ n) → b ≡ ltb n (k + 1)
    go true y z = let l = y refl in sym (lt-ltb n (k + 1) (omega arith))
    go false y z = let l = z refl in sym (le-ltb n (k + 1) (⊎_elim (λ d. absurd (e d)) (λ m. omega arith) (eq-or-lt_of_le l)))

module _ {S : Type 0} (f : ℕ → S → S) (n : ℕ) where
  abbrev only : ℕ → S → S
  only k s = cond (eqb k n) (f k s) s

  -- it is done after turn n, and not before
  turns-only : (a m : ℕ) (s : S) → a ≤ n → turns only a m s ≡ cond (ltb n (a + m)) (f n s) s
  unfolding turns
  turns-only a zero s h = rw (le-ltb n (a + 0) (omega arith))
  turns-only a (suc m) s h =
      let e : a + m + 1 ≡ a + suc m = omega arith in
      ap (only (a + m)) (turns-only a m s h) ∙ turn (a + m) (eqb (a + m) n) (eqb-true (a + m) n) (eqb-false (a + m) n) ∙ ap (λ (k : ℕ). cond (ltb n k) (f n s) s) e
    where
      turn : (k : ℕ) (b : Bool) → (b ≡ true → k ≡ n) → (b ≡ false → k ≡ n → ⊥) → cond b (f k (cond (ltb n k) (f n s) s)) (cond (ltb n k) (f n s) s) ≡ cond (ltb n (k + 1)) (f n s) s
      turn k true y z = let e = y refl in rw (le-ltb n k (omega arith), lt-ltb n (k + 1) (omega arith)) (ap (λ (k : ℕ). f k s) e)
      turn k false y z = ap (λ (b : Bool). cond b (f n s) s) (passed n k (z refl))

  pub loop-only : (a b : ℕ) (s : S) → a ≤ n → n < b → loop a b only s ≡ f n s
  unfolding loop
  loop-only a b s h l = turns-only a (b - a) s h ∙ ap (λ (t : Bool). cond t (f n s) s) (lt-ltb n (a + (b - a)) (omega arith))
