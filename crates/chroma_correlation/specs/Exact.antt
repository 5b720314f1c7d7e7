-- "Sum of luma average × chroma noise over sum of squared averages, quantised; 0 if the latter is at most 1e-9", from the exact sums.
use Rattle.std.specs.Prelude.{cond, ℤ}
use Rattle.std.specs.Float.{binary64}
use Rattle.std.specs.Float.Ieee.{div, le}
use Rattle.laws.specs.Constants.{tiny}
use Rattle.laws.specs.Scaled.{of_scaled}
use Rattle.float.specs.Reading.{Reading}

-- the products are in quarters, the squares in sixteenths
unfoldable pub tap_of : {A : Type 0} → Reading A → ℤ → ℤ → A
tap_of R products squares = cond (le (of_scaled 4 squares) tiny) R.unquantised (R.of (div binary64 (of_scaled 2 products) (of_scaled 4 squares)))
