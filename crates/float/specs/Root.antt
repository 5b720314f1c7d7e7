-- "the root is the correctly rounded f64 root, defined over whole numbers"
use Rattle.std.specs.Prelude.{ℕ, zero, suc, ◌+◌, ◌*◌, ◌/◌, ◌^◌, ◌<◌, false, cond, T, ℤ, ◌==◌, nat_le, Float}
use Rattle.std.specs.Float.{nan, inf, fin, binary64}
use Rattle.std.specs.Float.Ieee.{up, down, size, round, fits}
use Rattle.std.specs.Float.Ieee.Exact.{HasValue}

-- The root of n cut to a whole number, for an n below 4 ^ d: its binary digits one at a time. r is the root of n / 4, and one more digit is put behind it.
unfoldable pub digits_root : ℕ → ℕ → ℕ
digits_root zero n = zero
digits_root (suc d) n = let r = digits_root d (n / 4) in cond (nat_le ((2 * r + 1) * (2 * r + 1)) n) (2 * r + 1) (2 * r)

unfoldable pub whole_root : ℕ → ℕ
unfolding digits_root size
whole_root n = digits_root (size n) n

-- Twice the root of n where that is whole; where the root lies between r and r + 1, twice r and a half.
unfoldable pub twice_root : ℕ → ℕ
unfolding whole_root
twice_root n = let r = whole_root n in 2 * r + cond (r * r == n) 0 1

-- The root of n, in units of the smallest f64, 2 ^ -1074, rounded to an f64. The n of an f64 above 0 is 2 ^ 1074 or more. From there on, between r and r + 1 units lies no f64 and no middle of two, so r and a half rounds as a root there does.
unfoldable pub root_of : ℕ → Float
unfolding twice_root round
root_of n = round binary64 false (twice_root n) (2 * 2 ^ 1074)

-- m × 2 ^ e in units of 2 ^ -2148, whose root is a number of units of 2 ^ -1074
abbrev pub under_root : ℕ → ℤ → ℕ
under_root m e = m * up e * (2 ^ 1074 * 2 ^ 1074) / down e

-- the root of a float: NaN of a negative number, and a zero keeps its sign
unfoldable pub root : Float → Float
unfolding root_of
root nan = nan
root (inf s) = cond s nan (inf false)
root (fin s zero e) = fin s zero e
root (fin s (suc m) e) = cond s nan (root_of (under_root (suc m) e))

-- z is the f64 nearest to the root of n, all in units of 2 ^ -1074: seen from any other f64, of b units, the root lies past the middle, (b + units) / 2. So there is no tie.
pub record NearestRoot (n : ℕ) (z : Float) : Type 0 where
  pub held : T (fits binary64 z)
  pub units : ℕ
  pub value : HasValue z false units (2 ^ 1074)
  pub over : (y : Float) (b : ℕ) → T (fits binary64 y) → HasValue y false b (2 ^ 1074) → b < units → (b + units) * (b + units) < 4 * n
  pub under : (y : Float) (b : ℕ) → T (fits binary64 y) → HasValue y false b (2 ^ 1074) → units < b → 4 * n < (b + units) * (b + units)
