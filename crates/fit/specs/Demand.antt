-- "the sums of noise products that the calls make are cases of it": what that says of a fit.
use Rattle.std.specs.Prelude.{ℕ, ◌-◌, ◌<◌, List}
use Rattle.laws.specs.Window.{Place, window}
use Rattle.noise.specs.Average.{Luma}
use Rattle.noise.specs.Noise.{Pair}
use Rattle.noise.specs.Products.{Factor, own}
use Rattle.noise.specs.Claim.{Case}
use Rattle.positions.specs.Counts.{neighbours, factors}
use Rattle.fit.specs.Steps.{neighbour_of, with_tap, fit_f}

-- rows lag to h - 1, columns lag to w - lag - 1, in the Rust's order
abbrev pub places : Pair → ℕ → List Place
places plane lag = window lag plane.height lag (plane.width - lag)

abbrev pub FitCase : Pair → ℕ → Factor → Factor → Type 0
FitCase plane lag u v = Case u v (places plane lag) (fit_f plane lag u v)

-- the sums of a plane's equations, indexed as its matrix and its right side are: p factors, luma's or chroma's
pub record FitCases (plane : Pair) (lag : ℕ) (row : ℕ → Factor) (p : ℕ) : Type 0 where
  pub cells : (i j : ℕ) → i < p → j < p → FitCase plane lag (row i) (row j)
  pub right : (i : ℕ) → i < p → FitCase plane lag (row i) (own plane)

-- luma's, with the sum of squares over the target samples
pub record LumaCases (plane : Pair) (lag : ℕ) : Type 0 where
  pub energy : FitCase plane lag (own plane) (own plane)
  pub equations : FitCases plane lag (neighbour_of plane lag) (neighbours lag)

abbrev pub ChromaCases : Luma → Pair → ℕ → Type 0
ChromaCases luma plane lag = FitCases plane lag (with_tap luma plane lag) (factors lag)
