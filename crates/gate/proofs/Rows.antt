-- The row correlation, where there is something to divide, and of a plane from its sums. Assumes nothing.
use Rattle.std.proofs.Common.{◌≡◌, ℕ, ◌<◌, false, sym, ◌∙◌, ne_eqb}
use lib.Ieee.{Float, binary64, div, le}
use borrow.Author.Tests.{lt-leb}
use Rattle.laws.specs.Scaled.{plus_zero}
use Rattle.noise.specs.Noise.{Pair}
use Rattle.noise.specs.Steps.{dot_f, lag_f}
use Rattle.gate.specs.RowCorrelation.{correlation_of, row_correlation}
use Rattle.gate.proofs.EnergyZero.{energy-dot}

module _ (w h lag : ℕ) (e s : Float) where
  pub divided : (lag ≡ 0 → ⊥) → lag < w → (h ≡ 0 → ⊥) → le e plus_zero ≡ false → div binary64 s e ≡ correlation_of w h lag e s
  divided some wide rows t = rw (ne_eqb lag 0 some, lt-leb w lag wide, ne_eqb h 0 rows, t)

module _ (p : Pair) (lag : ℕ) where
  pub row_is : {e s r : Float} → e ≡ dot_f p p → s ≡ lag_f p lag → r ≡ correlation_of p.width p.height lag e s → r ≡ row_correlation p lag
  unfolding row_correlation
  row_is x y z = z ∙ (λ i. correlation_of p.width p.height lag ((x ∙ sym (energy-dot p)) i) (y i))
