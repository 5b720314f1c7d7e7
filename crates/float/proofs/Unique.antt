-- "Nearest, halves up" has one answer. f h stands for h halves, and keeps the order: the k with f (2k − 1) ≤ v < f (2k + 1) is the only one. Assumes nothing.
use Rattle.std.proofs.Common.{◌≡◌, ℕ, suc, ◌+◌, ◌-◌, ◌*◌, ◌<◌, ◌≤◌, lt_of_lt_of_le, le_of_suc-le-suc, le_antisymm, lt_of_not-le, not-le_of_lt, arith}

module _ (f : ℕ → ℕ) (mono : (a b : ℕ) → a ≤ b → f a ≤ f b) (v : ℕ) where
  at_most : (j k : ℕ) → v < f (2 * k + 1) → (0 < j → f (2 * j - 1) ≤ v) → j ≤ k
  at_most j k above below = le_of_suc-le-suc (lt_of_not-le (λ (h : suc k ≤ j). not-le_of_lt (lt_of_lt_of_le above (mono (2 * k + 1) (2 * j - 1) (gap h))) (below (some h))))
    where
      gap : suc k ≤ j → 2 * k + 1 ≤ 2 * j - 1
      gap h = omega arith

      some : suc k ≤ j → 0 < j
      some h = omega arith

  pub only_one : (j k : ℕ) → v < f (2 * j + 1) → (0 < j → f (2 * j - 1) ≤ v) → v < f (2 * k + 1) → (0 < k → f (2 * k - 1) ≤ v) → j ≡ k
  only_one j k ja jb ka kb = le_antisymm (at_most j k ka jb) (at_most k j ja kb)
