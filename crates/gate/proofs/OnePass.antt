-- The two sums of the Rust's one pass in `lag_h_rho` are those of the definitions, so that the row correlation is worked from what the Rust has: no turn reads the other sum. Assumes nothing.
use Rattle.std.proofs.Common.{◌≡◌, ℕ, ◌+◌, cond, ltb, sym, refl, ◌∙◌}
use lib.Ieee.{binary64, add, mul}
use Rattle.laws.specs.Loop.{loop}
use Rattle.laws.specs.Scaled.{plus_zero}
use Rattle.laws.proofs.Accumulators.{loops-part}
use Rattle.noise.specs.Noise.{place, Pair}
use Rattle.noise.specs.Steps.{window_f, lag_f}
use Rattle.noise.proofs.Steps.{own-place}
use Rattle.gate.specs.RowCorrelation.{energy_f, correlation_of, row_correlation}
use Rattle.gate.specs.OnePass.{Accumulators, number_at, place_turn, one_pass}

module _ (p : Pair) (lag : ℕ) where
  pub pass-energy : (one_pass p lag).e ≡ energy_f p
  unfolding energy_f window_f
  pass-energy =
      loops-part (λ (s : Accumulators). s.e) (place_turn p lag) (λ r c s. add binary64 s (mul binary64 (number_at p (place p.width r c)) (number_at p (place p.width r c)))) (λ r c s. refl) 0 p.height 0 p.width _
      ∙ (λ i. loop 0 p.height (λ r. loop 0 p.width (λ c s. add binary64 s (mul binary64 (number_at p (sym (own-place p r c) i)) (number_at p (sym (own-place p r c) i))))) plus_zero)

  pub pass-lagged : (one_pass p lag).lagsum ≡ lag_f p lag
  unfolding lag_f
  pass-lagged =
      loops-part (λ (s : Accumulators). s.lagsum) (place_turn p lag)
      (λ r c s. cond (ltb (c + lag) p.width) (add binary64 s (mul binary64 (number_at p (place p.width r c)) (number_at p (place p.width r c + lag)))) s) (λ r c s. refl) 0 p.height 0 p.width _

  pub rust-passed : row_correlation p lag ≡ correlation_of p.width p.height lag (one_pass p lag).e (one_pass p lag).lagsum
  unfolding row_correlation
  rust-passed = λ i. correlation_of p.width p.height lag (sym pass-energy i) (sym pass-lagged i)
