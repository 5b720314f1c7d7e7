-- "A form beside it also returns the number of digits worked: for a finite number above 0 those from the root's first 1 to its last if the root is exact, else all 53; for any other argument none."
use Rattle.std.specs.Prelude.{◌≡◌, ℕ, zero, suc, ◌*◌, ◌/◌, ◌%◌, ◌^◌, ◌<◌, ◌≤◌, false, cond, ◌==◌, ◌≢◌, Float}
use Rattle.std.specs.Float.{nan, inf, fin}
use Rattle.std.specs.Float.Ieee.{size}
use Rattle.std.specs.Float.Ieee.Exact.{HasValue}
use Rattle.float.specs.Root.{whole_root, under_root, root}
use Rattle.float.specs.declared.root.Root.{Root}

-- r without the zeros behind its last 1, if there are no more than d
unfoldable pub stripped : ℕ → ℕ → ℕ
stripped zero r = r
stripped (suc d) r = cond (r % 2 == 0) (stripped d (r / 2)) r

-- how many binary digits r has from its first 1 to its last
unfoldable pub first_to_last : ℕ → ℕ
unfolding stripped size
first_to_last r = size (stripped (size r) r)

-- The digits worked for the root of n. The root is exact if its square is n.
unfoldable pub digits_of : ℕ → ℕ
unfolding whole_root first_to_last
digits_of n = let r = whole_root n in cond (r * r == n) (first_to_last r) 53

unfoldable pub worked_digits : Float → ℕ
unfolding digits_of
worked_digits nan = 0
worked_digits (inf s) = 0
worked_digits (fin s zero e) = 0
worked_digits (fin s (suc m) e) = cond s 0 (digits_of (under_root (suc m) e))

-- the answer of `sqrt_digits`
abbrev pub worked_root : Float → Root
worked_root x = record { value = root x; digits = worked_digits x }

-- r has d binary digits from its first 1 to its last: before its zeros stands an odd number of d digits, the first of them a 1
pub record FirstToLast (r d : ℕ) : Type 0 where
  pub odd : ℕ
  pub zeros : ℕ
  pub is : r ≡ odd * 2 ^ zeros
  pub first : 2 ^ d ≤ 2 * odd
  pub few : odd < 2 ^ d
  pub last : odd % 2 ≡ 1

-- The request's words, of a number n above 0 in units of 2 ^ -2148, its rounded root z and the count d: whole roots r are numbers of units of 2 ^ -1074.
pub record Worked (n : ℕ) (z : Float) (d : ℕ) : Type 0 where
  pub exact : (r : ℕ) → r * r ≡ n → HasValue z false r (2 ^ 1074) × FirstToLast r d
  pub otherwise : ((r : ℕ) → r * r ≢ n) → d ≡ 53
