-- What each gate finds, from the tests that its code makes: one law for each way through. Assumes nothing.
use Rattle.std.proofs.Common.{◌≡◌, ℕ, ◌*◌, ◌<◌, ◌≤◌, Bool, true, false, cond, Err, ◌∙◌, le-ltb, lt-ltb, eq-eqb, ne_eqb}
use lib.Ieee.{Float, binary64, div, le}
use Rattle.laws.specs.Constants.{three_quarters}
use Rattle.laws.specs.Scaled.{plus_zero}
use Rattle.float.specs.Magnitude.{magnitude_of}
use Rattle.noise.specs.Noise.{Pair}
use Rattle.noise.specs.Steps.{dot_f, lag_f}
use Rattle.noise.proofs.Steps.{lag-window}
use Rattle.gate.specs.RowCorrelation.{row_correlation}
use Rattle.gate.specs.Tests.{Finding, Passed, time_test, temporal_by, second_finding, luma_row, luma_by, luma_finding, chroma_by, chroma_finding}
use Rattle.gate.specs.declared.finding.Failure.TheVariants.{LowSigma, EmptyPlane, NoEnergyFirst, RowCorrelated, TimeCorrelated}

-- the tests on the second frame
module _ (p q : Pair) (e₁ : Float) (second : e₁ ≡ dot_f q q) where
  pub second_is : le e₁ plus_zero ≡ false → {cross e₀ : Float} (b : Bool) → cross ≡ dot_f p q → e₀ ≡ dot_f p p → b ≡ time_test cross e₀ e₁ → cond b Passed (Err TimeCorrelated) ≡ second_finding p q
  unfolding temporal_by
  second_is some b c x t = rw (← second, some, ← c, ← x, t)

-- the luma gate, n the sigma16
module _ (sigma16 : ℕ) (p q : Pair) (n : ℕ) (is : n ≡ sigma16) where
  pub luma-low : n < 16 → (Err LowSigma) ≡ luma_finding sigma16 p q
  unfolding luma_by
  luma-low l = rw (← is, lt-ltb n 16 l)

  module _ (high : 16 ≤ n) (e₀ : Float) (first : e₀ ≡ dot_f p p) where
    pub luma-first : le e₀ plus_zero ≡ true → (Err NoEnergyFirst) ≡ luma_finding sigma16 p q
    unfolding luma_by
    luma-first t = rw (← is, le-ltb n 16 high, ← first, t)

    module _ (some : le e₀ plus_zero ≡ false) (s m : Float) (lagged : s ≡ lag_f p 1) (size : m ≡ magnitude_of (div binary64 s e₀)) where
      row : m ≡ magnitude_of (luma_row p e₀)
      unfolding luma_row
      row = size ∙ (λ i. magnitude_of (div binary64 ((lagged ∙ lag-window p 1) i) e₀))

      pub luma-row : le three_quarters m ≡ true → (Err RowCorrelated) ≡ luma_finding sigma16 p q
      unfolding luma_by
      luma-row t = rw (← is, le-ltb n 16 high, ← first, some, ← row, t)

      pub luma-last : le three_quarters m ≡ false → (f : Finding) → f ≡ second_finding p q → f ≡ luma_finding sigma16 p q
      unfolding luma_by
      luma-last apart f e = rw (← is, le-ltb n 16 high, ← first, some, ← row, apart) e

-- the chroma gate
module _ (sigma16 : ℕ) (p q : Pair) where
  pub chroma-low : sigma16 < 8 → (Err LowSigma) ≡ chroma_finding sigma16 p q
  unfolding chroma_by
  chroma-low l = rw (lt-ltb sigma16 8 l)

  module _ (high : 8 ≤ sigma16) where
    pub chroma-empty : p.width * p.height ≡ 0 → (Err EmptyPlane) ≡ chroma_finding sigma16 p q
    unfolding chroma_by
    chroma-empty z = rw (le-ltb sigma16 8 high, eq-eqb (p.width * p.height) 0 z)

    module _ (filled : p.width * p.height ≡ 0 → ⊥) (m : Float) (row : m ≡ magnitude_of (row_correlation p 1)) where
      pub chroma-row : le three_quarters m ≡ true → (Err RowCorrelated) ≡ chroma_finding sigma16 p q
      unfolding chroma_by
      chroma-row t = rw (le-ltb sigma16 8 high, ne_eqb (p.width * p.height) 0 filled, ← row, t)

      module _ (apart : le three_quarters m ≡ false) (e₀ : Float) (first : e₀ ≡ dot_f p p) where
        pub chroma-first : le e₀ plus_zero ≡ true → (Err NoEnergyFirst) ≡ chroma_finding sigma16 p q
        unfolding chroma_by
        chroma-first t = rw (le-ltb sigma16 8 high, ne_eqb (p.width * p.height) 0 filled, ← row, apart, ← first, t)

        pub chroma-last : (f : Finding) → le e₀ plus_zero ≡ false → f ≡ second_finding p q → f ≡ chroma_finding sigma16 p q
        unfolding chroma_by
        chroma-last f t e = rw (le-ltb sigma16 8 high, ne_eqb (p.width * p.height) 0 filled, ← row, apart, ← first, t) e
