-- The tap of two exact sums, from the test that its code makes. Assumes nothing.
use Rattle.std.proofs.Common.{◌≡◌, true, false, ℤ}
use lib.Ieee.{Float, binary64, div, le}
use Rattle.laws.specs.Constants.{tiny}
use Rattle.laws.specs.Scaled.{of_scaled}
use Rattle.float.specs.Reading.{Reading}
use Rattle.chroma_correlation.specs.Exact.{tap_of}

module _ {A : Type 0} (R : Reading A) (products squares : ℤ) (x : Float) (energy : x ≡ of_scaled 4 squares) where
  pub flat : le x tiny ≡ true → R.unquantised ≡ tap_of R products squares
  unfolding tap_of
  flat t = rw (← energy, t)

  pub quotient : (y : Float) (k : A) → y ≡ of_scaled 2 products → le x tiny ≡ false → k ≡ R.of (div binary64 y x) → k ≡ tap_of R products squares
  unfolding tap_of
  quotient y k cross t e = rw (← energy, t, ← cross) e
