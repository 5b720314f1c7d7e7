-- "Then yes exactly if |cross/root(e0×e1)| < 0.4 in rounded f64." Every test of a gate passed, in the scope's words: an energy is the exact one, and the row correlation is that of `lag_h_rho` in both gates.
use Rattle.std.specs.Prelude.{◌≡◌, ℕ, ◌*◌, ◌≤◌, true, false, pos}
use Rattle.std.specs.Float.Ieee.{le}
use Rattle.laws.specs.Constants.{three_quarters}
use Rattle.float.specs.Magnitude.{magnitude_of}
use Rattle.noise.specs.Noise.{Pair}
use Rattle.noise.specs.Steps.{dot_f}
use Rattle.gate.specs.RowCorrelation.{energy, row_correlation}
use Rattle.gate.specs.Tests.{time_test}

pub record LumaPasses (sigma16 : ℕ) (p q : Pair) : Type 0 where
  pub sigma : 16 ≤ sigma16
  pub first : energy p ≡ pos 0 → ⊥
  pub row : le three_quarters (magnitude_of (row_correlation p 1)) ≡ false
  pub second : energy q ≡ pos 0 → ⊥
  pub time : time_test (dot_f p q) (dot_f p p) (dot_f q q) ≡ true

pub record ChromaPasses (sigma16 : ℕ) (p q : Pair) : Type 0 where
  pub sigma : 8 ≤ sigma16
  pub filled : p.width * p.height ≡ 0 → ⊥
  pub row : le three_quarters (magnitude_of (row_correlation p 1)) ≡ false
  pub first : energy p ≡ pos 0 → ⊥
  pub second : energy q ≡ pos 0 → ⊥
  pub time : time_test (dot_f p q) (dot_f p p) (dot_f q q) ≡ true
