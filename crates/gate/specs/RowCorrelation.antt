-- "Sum of noise products `lag` columns apart, over the sum of squares, one division. Plus zero if lag is 0, width is at most lag, height is 0 or the energy is 0."
-- The steps of `lag_h_rho`.
use Rattle.std.specs.Prelude.{ℕ, cond, ◌||◌, ℤ, ◌*ℤ◌, ◌==◌, nat_le, Float}
use Rattle.std.specs.Float.{binary64}
use Rattle.std.specs.Float.Ieee.{div, le}
use Rattle.laws.specs.Scaled.{plus_zero}
use Rattle.noise.specs.Noise.{Pair, noise_of}
use Rattle.noise.specs.Products.{own}
use Rattle.noise.specs.Seen.{sum_over}
use Rattle.noise.specs.Steps.{window_f, lag_f}

-- `e += n[r * w + c] * n[r * w + c];` over every row and column
unfoldable pub energy_f : Pair → Float
energy_f p = window_f (own p) (own p) 0 p.height 0 p.width

-- exactly: "the energy is 0" is said of this
abbrev pub energy : Pair → ℤ
energy p = sum_over p.height p.width (λ r c. noise_of p r c *ℤ noise_of p r c)

-- of a plane w wide and h high, from its energy and the sum of products
abbrev pub correlation_of : ℕ → ℕ → ℕ → Float → Float → Float
correlation_of w h lag energy lagged =
    cond (lag == 0 || (nat_le w lag || h == 0)) plus_zero
    (cond (le energy plus_zero) plus_zero (div binary64 lagged energy))

unfoldable pub row_correlation : Pair → ℕ → Float
row_correlation p lag = correlation_of p.width p.height lag (energy_f p) (lag_f p lag)
