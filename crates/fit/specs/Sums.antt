-- "The exact sum adds the same products as whole numbers, or in sixteenths with luma averages": the equations from exact sums, each turned into an f64 once. The neighbours come first, then the sample itself; the luma average is the last factor of chroma.
use Rattle.std.specs.Prelude.{◌≡◌, ℕ, cond, List, length, ℤ, nat_lt, Float}
use Rattle.std.specs.Float.{binary64}
use Rattle.std.specs.Float.Ieee.{div, of_int}
use Rattle.laws.specs.Constants.{four}
use Rattle.float.specs.Reading.{Reading}
use Rattle.positions.specs.Counts.{neighbours, factors}
use Rattle.normal.specs.Layout.{sums_size}
use Rattle.solve.specs.Answer.{solved_of}
use Rattle.fit.specs.Steps.{matrix_of, right_of, coefficients_of}

-- room for the sums of a lag's neighbours and the sample, and for each of them with the luma average
pub record Room (sums taps : List ℤ) (lag : ℕ) : Type 0 where
  pub summed : length sums ≡ sums_size lag
  pub tapped : length taps ≡ factors lag

-- factors i and j, i not after j: whole numbers, quarters with one average, and `squares` with two
unfoldable pub cell_sum : (ℕ → ℕ → ℤ) → (ℕ → ℤ) → Float → ℕ → ℕ → ℕ → Float
cell_sum entries taps squares lag i j =
    cond (nat_lt j (neighbours lag)) (of_int binary64 (entries i j))
    (cond (nat_lt i (neighbours lag)) (div binary64 (of_int binary64 (taps i)) four) squares)

-- factor i and the sample
unfoldable pub right_sum : (ℕ → ℕ → ℤ) → (ℕ → ℤ) → ℕ → ℕ → Float
right_sum entries taps lag i =
    cond (nat_lt i (neighbours lag)) (of_int binary64 (entries i (neighbours lag))) (div binary64 (of_int binary64 (taps (neighbours lag))) four)

-- p factors: the coefficients
unfoldable pub exact_fit : {A : Type 0} → Reading A → (ℕ → ℕ → ℤ) → (ℕ → ℤ) → Float → ℕ → ℕ → List A
exact_fit R entries taps squares lag p =
    coefficients_of R (solved_of (matrix_of (cell_sum entries taps squares lag) p) (right_of (right_sum entries taps lag) p) p)
