-- The equations' entries, of the exact sums as the code has them.
use Rattle.std.specs.Prelude.{ℕ, Float}
use Rattle.noise.specs.Lines.{at}
use Rattle.normal.specs.Layout.{sum_at}
use Rattle.fit.specs.Sums.{cell_sum, right_sum}
use Rattle.fit.specs.declared.equations.ExactSums.{ExactSums}

-- factors i and j, and factor i and the sample
abbrev pub cell_in : ExactSums → ℕ → ℕ → Float
cell_in e = cell_sum (sum_at e.sums.now e.lag.reach) (at e.taps.now) e.squares e.lag.reach

abbrev pub right_in : ExactSums → ℕ → Float
right_in e = right_sum (sum_at e.sums.now e.lag.reach) (at e.taps.now) e.lag.reach
