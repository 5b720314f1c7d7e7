-- Four times a luma average, from a line of sums of two noises: its two numbers at each column, and the machine's sum of them. Assumes nothing.
use mathlib.Core.Path.{◌≡◌, sym, subst, ◌∙◌}
use mathlib.Core.List.{List}
use Prim.Native.Nat.{ℕ, ◌+◌, ◌-◌, ◌*◌, ◌^◌, ◌≤◌, ◌<◌, min}
use native.Mathlib.Nat.{le_trans, lt_of_le_of_lt, add-le-add, add-zero, min-eq_left, min-eq_right}
use native.Mathlib.Omega.{arith}
use lib.Dec.{lit<}
use lib.IntN.{ℤ, nat_abs, ◌+ℤ◌}
use lib.ListN.{length}
use mir.Syntax.{w16}
use mir.Val.{of_z, to_z}
use Rattle.laws.proofs.Whole.{abs-add}
use Rattle.laws.proofs.Is.{Is, self, again, sfits, plus}
use Rattle.noise.specs.Lines.{at, AtMost, noise_limit}
use Rattle.noise.specs.Quarters.{quartered}

-- ---- the machine's numbers
abbrev local : ℤ → ℤ
local z = to_z w16 (of_z w16 z)

held : (z : ℤ) → nat_abs z ≤ 2 * noise_limit → Is w16 (local z) z
held z h = again (self (sfits w16 z (lt_of_le_of_lt h (lit< tt))))

pub abs-add-le : {a b : ℕ} (x y : ℤ) → nat_abs x ≤ a → nat_abs y ≤ b → nat_abs (x +ℤ y) ≤ a + b
abs-add-le x y h k = le_trans (abs-add x y) (add-le-add h k)

pub two_is : (x y : ℤ) → nat_abs x ≤ 2 * noise_limit → nat_abs y ≤ 2 * noise_limit → Is w16 (local x +ℤ local y) (x +ℤ y)
two_is x y h k = plus (held x h) (held y k) (lt_of_le_of_lt (abs-add-le x y h k) (lit< tt))

-- ---- what a column gets
module _ (sums : List ℤ) (S : AtMost (2 * noise_limit) sums) where
  column-is : (sub c k n : ℕ) → min (c * 2 ^ sub + 0) (length sums - 1) ≡ k → min (c * 2 ^ sub + sub) (length sums - 1) ≡ n → k < length sums → n < length sums
      → Is w16 (local (at sums k) +ℤ local (at sums n)) (quartered sub sums c)
  unfolding quartered
  column-is sub c k n a b l m =
      subst (λ (z : ℤ). Is w16 (local (at sums k) +ℤ local (at sums n)) z) (λ i. at sums (sym a i) +ℤ at sums (sym b i))
      (two_is (at sums k) (at sums n) (S k l) (S n m))

  -- a format that keeps the columns
  pub kept-is : (c : ℕ) → c < length sums → Is w16 (local (at sums c) +ℤ local (at sums c)) (quartered 0 sums c)
  kept-is c l =
      let k : c * 1 + 0 ≤ length sums - 1 = omega arith in
      let d : c * 1 + 0 ≡ c = omega arith in
      column-is 0 c c c (min-eq_left k ∙ d) (min-eq_left k ∙ d) l l

  -- one that halves them
  pub even_is : (c : ℕ) → c * 2 + 1 < length sums → Is w16 (local (at sums (c * 2)) +ℤ local (at sums (c * 2 + 1))) (quartered 1 sums c)
  even_is c l =
      let a : c * 2 + 0 ≤ length sums - 1 = omega arith in
      let b : c * 2 + 1 ≤ length sums - 1 = omega arith in
      column-is 1 c (c * 2) (c * 2 + 1) (min-eq_left a ∙ add-zero (c * 2)) (min-eq_left b) (omega arith) l

  -- the last of an odd number of luma columns
  pub last-is : (c : ℕ) → length sums ≡ c * 2 + 1 → Is w16 (local (at sums (length sums - 1)) +ℤ local (at sums (length sums - 1))) (quartered 1 sums c)
  last-is c l =
      let a : length sums - 1 ≤ c * 2 + 0 = omega arith in
      let b : length sums - 1 ≤ c * 2 + 1 = omega arith in
      let m : length sums - 1 < length sums = omega arith in
      column-is 1 c (length sums - 1) (length sums - 1) (min-eq_right a) (min-eq_right b) m m
