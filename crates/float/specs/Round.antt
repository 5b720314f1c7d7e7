-- "`sqrt`, `round`, `abs`, `clamp`, `as` on NaN, `wrapping_mul`, `min`: helpers": `round`, Rust's `f64::round`, halves away from zero.
use Rattle.std.specs.Prelude.{ℕ, ◌+◌, ◌-◌, ◌*◌, ◌/◌, ◌<◌, ◌≤◌, Float}
use Rattle.std.specs.Float.{nan, inf, fin, binary64}
use Rattle.std.specs.Float.Ieee.{up, down, round}

-- the whole number nearest to a / c, halves up
unfoldable pub half_up : ℕ → ℕ → ℕ
half_up a c = (2 * a + c) / (2 * c)

-- the whole number nearest to x, halves away from zero: that of its magnitude, halves up, with the sign of x
unfoldable pub round_half_away : Float → Float
unfolding half_up
round_half_away nan = nan
round_half_away (inf s) = inf s
round_half_away (fin s m e) = round binary64 s (half_up (m * up e) (down e)) 1

-- k is the whole number nearest to a / c, halves up: a / c is below k + 1/2 and, for k above 0, no less than k − 1/2
pub record NearestWhole (a c k : ℕ) : Type 0 where
  pub above : 2 * a < (2 * k + 1) * c
  pub below : 0 < k → (2 * k - 1) * c ≤ 2 * a
