-- "In a fit: of the sample's noise, its neighbours' noises and, for chroma, the luma average, any two multiplied or any one squared." The exact sums of these products over the places where a fit has all its factors.
use Rattle.std.specs.Prelude.{ℕ, ◌+◌, ◌-◌, ◌*◌, ◌/◌, ◌%◌, ℤ, ◌*ℤ◌}
use Rattle.laws.specs.Sums.{span}
use Rattle.positions.specs.Counts.{side}

-- a number for each row y and column x
abbrev pub Picture : Type 0
Picture = ℕ → ℕ → ℤ

-- neighbour i of each place, counted along the rows from the first, which is lag rows above and lag columns to the left. The sample itself is neighbour 2×lag×(lag+1)
abbrev pub neighbour : Picture → ℕ → ℕ → Picture
neighbour f lag i y x = f (y - lag + i / side lag) (x - lag + i % side lag)

-- the window, where all neighbours exist: rows lag to h - 1 and columns lag to w - lag - 1. Two pictures multiplied place by place and summed over it
unfoldable pub window_sum : ℕ → ℕ → ℕ → Picture → Picture → ℤ
window_sum w h lag f g = span (λ y. span (λ x. f y x *ℤ g y x) lag (w - 2 * lag)) lag (h - lag)

-- neighbours i and j
abbrev pub entry : Picture → ℕ → ℕ → ℕ → ℕ → ℕ → ℤ
entry f w h lag i j = window_sum w h lag (neighbour f lag i) (neighbour f lag j)

-- neighbour i and the luma tap q
abbrev pub tap_entry : Picture → Picture → ℕ → ℕ → ℕ → ℕ → ℤ
tap_entry f q w h lag i = window_sum w h lag (neighbour f lag i) q

abbrev pub tap_square : Picture → ℕ → ℕ → ℕ → ℤ
tap_square q w h lag = window_sum w h lag q q
