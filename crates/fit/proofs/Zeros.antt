-- Coefficients that are all 0: as the code looks at the first of them. Assumes nothing.
use Rattle.std.proofs.Common.{◌≡◌, ℕ, zero, suc, ◌<◌, ◌≤◌, Bool, eqb, List, map, length, take, ℤ, pos, negsuc, nat_abs, sym, refl, ap, ◌∙◌, le_refl, add-one, arith, length-take-le}
use Rattle.std.specs.List.{list_all}
use Rattle.std.proofs.lemmas.List.{take_all, take-map, get_or-map, get_or-take}
use Rattle.std.proofs.lemmas.List.Folds.{list_all_more}
use Rattle.fit.specs.Answer.{all_zero}

pub no_size : (z : ℤ) → nat_abs z ≡ 0 → z ≡ pos 0
no_size (pos n) e = ap pos e
no_size (negsuc n) e = absurd (omega arith)

-- a test of each, where the values are what h gives
module _ {A : Type 0} (h : A → ℤ) (d : A) (xs : List A) where
  abbrev test : A → Bool
  test x = eqb (nat_abs (h x)) 0

  tested : (n : ℕ) → n ≤ length xs → list_all test (take n xs) ≡ all_zero (map h xs) n
  unfolding all_zero
  tested zero l = refl
  tested (suc n) l =
      let k : n < length xs = omega arith in
      ap (λ (m : ℕ). list_all test (take m xs)) (sym (add-one n)) ∙ list_all_more test xs n d k ∙ rw (tested n (omega arith), get_or-map h xs n d (pos 0) k)

  pub all-tested : list_all test xs ≡ all_zero (map h xs) (length xs)
  all-tested = ap (list_all test) (sym (take_all (length xs) xs (le_refl (length xs)))) ∙ tested (length xs) (le_refl (length xs))

-- the first m alone are looked at
pub first-zero : (x : List ℤ) (m n : ℕ) → n ≤ m → all_zero (take m x) n ≡ all_zero x n
unfolding all_zero
first-zero x m zero l = refl
first-zero x m (suc n) l = let k : n < m = omega arith in rw (first-zero x m n (omega arith), get_or-take m x n (pos 0) k)

pub front-zero : {A : Type 0} (h : A → ℤ) (xs : List A) (n : ℕ) → n ≤ length xs → all_zero (map h (take n xs)) (length (take n xs)) ≡ all_zero (map h xs) n
front-zero h xs n l = rw (length-take-le n xs l, ← take-map h n xs) (first-zero (map h xs) n n (le_refl n))
