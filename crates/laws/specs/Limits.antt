-- "(At most 4,096×4,096 samples below 2^12.)" The limits of a plane and of a fit, each by its one name.
use Rattle.std.specs.Prelude.{ℕ, ◌+◌, ◌*◌, ◌^◌}

-- the largest width, and the largest height
abbrev pub side_limit : ℕ
side_limit = 4096

-- the most samples
abbrev pub plane_limit : ℕ
plane_limit = side_limit * side_limit

-- what every sample is below
abbrev pub sample_limit : ℕ
sample_limit = 2 ^ 12

-- the largest lag of a fit
abbrev pub lag_limit : ℕ
lag_limit = 3

-- the most neighbours, "2×lag×(lag+1) of them": 24
abbrev pub neighbour_limit : ℕ
neighbour_limit = 2 * lag_limit * (lag_limit + 1)

-- the most unknowns of a solver: these, and the luma tap
abbrev pub order_limit : ℕ
order_limit = neighbour_limit + 1
