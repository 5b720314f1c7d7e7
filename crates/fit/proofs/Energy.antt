-- The energy in f64 is at most plus zero exactly where the exact sum of squares is 0: that is no negative number, and f64 holds it. Assumes nothing.
use Rattle.std.proofs.Common.{◌≡◌, ℕ, ◌+◌, ◌^◌, ◌≤◌, true, pos, nat_abs, ◌≤ℤ◌, sym, ap, ◌∙◌}
use lib.Ieee.{Float, binary64, le, of_int}
use Rattle.laws.specs.Limits.{plane_limit, sample_limit}
use Rattle.laws.specs.Scaled.{plus_zero}
use Rattle.laws.proofs.AtMostZero.{at-most-zero, zero_at_most}
use Rattle.laws.proofs.Sums.{sum_nonneg}
use Rattle.laws.proofs.Whole.{square-nonneg}
use Rattle.noise.specs.Noise.{Pair, noise_of}
use Rattle.noise.specs.Products.{own}
use Rattle.noise.specs.Claim.{Limited}
use Rattle.positions.specs.Counts.{neighbours}
use Rattle.normal.specs.Normal.{neighbour, window_sum, entry}
use Rattle.normal.proofs.Windows.{InWindow, window-ext, sample-last}
use Rattle.fit.specs.Steps.{energy_f}
use Rattle.fit.specs.Words.{energy}
use Rattle.fit.proofs.FloatEntries.{energy-sum}

module _ (plane : Pair) (lag : ℕ) where
  energy-is : entry (noise_of plane) plane.width plane.height lag (neighbours lag) (neighbours lag) ≡ energy plane lag
  energy-is = window-ext plane.width plane.height lag _ _ _ _ last last
    where
      last : (y x : ℕ) → InWindow plane.width plane.height lag y x → neighbour (noise_of plane) lag (neighbours lag) y x ≡ noise_of plane y x
      last y x p = sample-last (noise_of plane) lag y x p.above p.left

  not_negative : pos 0 ≤ℤ energy plane lag
  unfolding window_sum
  not_negative = sum_nonneg _ _ (λ y l. sum_nonneg _ _ (λ x k. square-nonneg (noise_of plane (lag + y) (lag + x))))

  module _ (S : Limited plane_limit sample_limit (own plane)) where
    in-float : energy_f plane lag ≡ of_int binary64 (energy plane lag)
    in-float = energy-sum plane lag S ∙ ap (of_int binary64) energy-is

    pub still-flat : energy plane lag ≡ pos 0 → le (energy_f plane lag) plus_zero ≡ true
    still-flat e = ap (λ (x : Float). le x plus_zero) (in-float ∙ ap (of_int binary64) e) ∙ zero_at_most

    pub flat-still : nat_abs (entry (noise_of plane) plane.width plane.height lag (neighbours lag) (neighbours lag)) ≤ 2 ^ 53 → le (energy_f plane lag) plus_zero ≡ true → energy plane lag ≡ pos 0
    flat-still b t = at-most-zero (energy plane lag) not_negative (rw (← energy-is) b) (sym (ap (λ (x : Float). le x plus_zero) in-float) ∙ t)
