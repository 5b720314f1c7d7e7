-- The luma fit, from the tests that its code makes. Assumes nothing.
use Rattle.std.proofs.Common.{◌≡◌, ℕ, ◌*◌, ◌<◌, true, false, eqb, List, ℤ, sym, ap, ◌∙◌, arith, w64, SFits, to_z, of_z, eq-eqb, ne_eqb}
use lib.Ieee.{Float, binary64, le, of_int}
use mir.ValLaws.{to_z-of_z}
use mathlib.Core.Bool.{or-true}
use borrow.Author.Tests.{lt-leb}
use Rattle.laws.specs.Scaled.{plus_zero}
use Rattle.laws.specs.Limits.{plane_limit, sample_limit}
use Rattle.float.specs.Reading.{Reading}
use Rattle.noise.specs.Noise.{Pair, noise_of}
use Rattle.noise.specs.Products.{own}
use Rattle.noise.specs.Claim.{Limited}
use Rattle.positions.specs.Counts.{neighbours, factors}
use Rattle.normal.specs.Normal.{entry}
use Rattle.normal.specs.Layout.{sum_at}
use Rattle.normal.specs.Calls.{NeighbourSums}
use Rattle.fit.specs.Steps.{zeros, coefficients_of, too_small, energy_f, luma_fit}
use Rattle.fit.specs.Words.{luma_solved}
use Rattle.fit.specs.Sums.{exact_fit}
use Rattle.fit.proofs.ExactFit.{energy-exact, luma-exact}

pub not-small : (plane : Pair) (lag : ℕ) → 2 * lag < plane.width → lag < plane.height → too_small plane lag ≡ false
not-small plane lag wide high = rw (lt-leb plane.width (2 * lag) wide, lt-leb plane.height lag high)

module _ {A : Type 0} (R : Reading A) (plane : Pair) (lag : ℕ) where
  pub lag-zero : lag ≡ 0 → zeros R ≡ luma_fit R plane lag
  unfolding luma_fit
  lag-zero e = rw (eq-eqb lag 0 e)

  pub small : too_small plane lag ≡ true → zeros R ≡ luma_fit R plane lag
  unfolding luma_fit
  small e = rw (e, or-true (eqb lag 0))

  module _ (some : lag ≡ 0 → ⊥) (fits : too_small plane lag ≡ false) (x : Float) (energy : x ≡ energy_f plane lag) where
    pub flat : le x plus_zero ≡ true → zeros R ≡ luma_fit R plane lag
    unfolding luma_fit
    flat t = rw (ne_eqb lag 0 some, fits, ← energy, t)

    -- every test passed
    pub tested : le x plus_zero ≡ false → luma_fit R plane lag ≡ coefficients_of R (luma_solved plane lag)
    unfolding luma_fit
    tested t = rw (ne_eqb lag 0 some, fits, ← energy, t)

    pub solved : le x plus_zero ≡ false → Limited plane_limit sample_limit (own plane)
        → (entries : ℕ → ℕ → ℤ) → ((i j : ℕ) → i < factors lag → j < factors lag → entries i j ≡ entry (noise_of plane) plane.width plane.height lag i j)
        → (taps : ℕ → ℤ) (squares : Float) (p : ℕ) → p ≡ neighbours lag → (r : List A) → r ≡ exact_fit R entries taps squares lag p
        → r ≡ luma_fit R plane lag
    solved t S entries are taps squares p e r d =
        d ∙ ap (exact_fit R entries taps squares lag) e ∙ luma-exact plane lag S entries are R taps squares ∙ sym (tested t)

-- the energy, read from the sums
pub energy-read : (plane : Pair) (lag : ℕ) → Limited plane_limit sample_limit (own plane) → (sums : List ℤ) → NeighbourSums plane lag sums → (n : ℕ) → n ≡ neighbours lag
    → (z : ℤ) → SFits w64 z → z ≡ sum_at sums lag n n → (x : Float) → x ≡ of_int binary64 (to_z w64 (of_z w64 z)) → x ≡ energy_f plane lag
energy-read plane lag S sums N n e z f r x d =
    d ∙ energy-exact plane lag S (to_z-of_z w64 z f ∙ r ∙ (λ t. sum_at sums lag (e t) (e t)) ∙ N.entries (neighbours lag) (neighbours lag) (omega arith) (omega arith))
