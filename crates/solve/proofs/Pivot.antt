-- "The pivot is the first of largest magnitude by `>`": it stands among the rows from i on, no row's magnitude is above its own, and no earlier row's is as large. Assumes nothing.
use mathlib.Core.Path.{◌≡◌, refl, sym, ◌∙◌}
use mathlib.Core.Logic.{inl, inr, ⊎_elim}
use mathlib.Core.Bool.{Bool, true, false, cond, true≢false}
use Prim.Native.Nat.{ℕ, ◌+◌, ◌≤◌, ◌<◌}
use native.Mathlib.Nat.{eq-or-lt_of_le, le_of_suc-le-suc}
use native.Mathlib.Numerals.{add-one}
use native.Mathlib.Omega.{arith}
use lib.Ieee.{lt, le, is_nan}
use Rattle.laws.proofs.Loop.{loops-together}
use Rattle.solve.specs.Elimination.{Matrix, cell, larger, pivot_of}
use Rattle.solve.specs.Words.{size_at, FirstLargest}
use Rattle.solve.proofs.Order.{lt_trans, lt_irrefl, not-below, not-as-large, above-number, below-number, as-large}

module _ (a : Matrix) (i : ℕ) where
  -- row k, above the first of largest magnitude so far
  taken : (k v : ℕ) → FirstLargest a i k v → lt (size_at a i v) (size_at a i k) ≡ true → FirstLargest a i (k + 1) k
  taken k v h e =
      record {
        from = omega (arith, h.from, h.below);
        below = omega arith;
        above = inr (⊎_elim (λ d. rw d at e) (λ q. lt_trans _ _ _ q e) h.above);
        largest = λ r m n. ⊎_elim (λ d. rw d (lt_irrefl _)) (λ l. not-below _ _ (before r m l)) (eq-or-lt_of_le (le_of_suc-le-suc (rw add-one at n)));
        first = before;
      } where
        before : (r : ℕ) → i ≤ r → r < k → le (size_at a i k) (size_at a i r) ≡ false
        before r m l = not-as-large _ _ _ e (h.largest r m l)

  -- row k, not above it
  left : (k v : ℕ) → FirstLargest a i k v → lt (size_at a i v) (size_at a i k) ≡ false → FirstLargest a i (k + 1) v
  left k v h e =
      record {
        from = h.from;
        below = omega (arith, h.below);
        above = h.above;
        largest = λ r m n. ⊎_elim (λ d. rw d e) (h.largest r m) (eq-or-lt_of_le (le_of_suc-le-suc (rw add-one at n)));
        first = h.first;
      }

  step : (k v : ℕ) → FirstLargest a i k v → FirstLargest a i (k + 1) (larger a i k v)
  unfolding larger
  step k v h = pick (lt (size_at a i v) (size_at a i k)) refl where
    pick : (t : Bool) → lt (size_at a i v) (size_at a i k) ≡ t → FirstLargest a i (k + 1) (cond t k v)
    pick true e = taken k v h e
    pick false e = left k v h e

  alone : FirstLargest a i (i + 1) i
  alone =
      record {
        from = omega arith;
        below = omega arith;
        above = inl refl;
        largest = λ r m n. let d : r ≡ i = omega arith in rw d (lt_irrefl (cell a i i));
        first = λ r m n. absurd (omega arith);
      }

  pub pivot-first-largest : (p : ℕ) → i < p → FirstLargest a i p (pivot_of p a i)
  unfolding pivot_of
  pivot-first-largest p l =
      loops-together (λ k v _. FirstLargest a i k v) (i + 1) p (larger a i) (λ _ u. u) (λ k v _ _ _ h. step k v h) (omega arith) i (tt {0}) alone

  -- ---- and there is only one such row

  earlier : (k u v : ℕ) → FirstLargest a i k u → FirstLargest a i k v → u < v → ⊥
  earlier k u v h l m =
      let q : lt (size_at a i i) (size_at a i v) ≡ true = ⊎_elim (λ e. absurd (omega (arith, h.from))) (λ q. q) l.above in
      let n : is_nan (size_at a i u) ≡ false = ⊎_elim (λ e. rw e (below-number _ _ q)) (above-number _ _) h.above in
      true≢false (sym (as-large (cell a u i) (cell a v i) n (above-number _ _ q) (h.largest v l.from l.below)) ∙ l.first u h.from m)

  one-first-largest : (k u v : ℕ) → FirstLargest a i k u → FirstLargest a i k v → u ≡ v
  one-first-largest k u v h l = omega (arith, earlier k u v h l, earlier k v u l h)

  pub pivot-only : (p v : ℕ) → i < p → FirstLargest a i p v → v ≡ pivot_of p a i
  pivot-only p v l h = one-first-largest p v (pivot_of p a i) h (pivot-first-largest p l)
