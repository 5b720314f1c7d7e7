-- Each f64 sum of a fit is its exact sum, turned into an f64 once: a case of demand 3. Assumes nothing.
use Rattle.std.proofs.Common.{◌≡◌, ℕ, ◌+◌, ◌-◌, ◌/◌, ◌%◌, ◌<◌, pos, ◌-ℤ◌, ◌*ℤ◌, sym, refl, ap, ◌∙◌, arith}
use lib.Ieee.{binary64, of_int}
use Rattle.laws.specs.Scaled.{of_scaled}
use Rattle.laws.proofs.Scaled.{scaled-int}
use Rattle.laws.specs.Limits.{plane_limit, sample_limit}
use Rattle.noise.specs.Noise.{Pair, noise_of}
use Rattle.noise.specs.Average.{Luma, quarters}
use Rattle.noise.specs.Products.{average, own, whole}
use Rattle.noise.specs.Claim.{Limited}
use Rattle.noise.specs.Steps.{InFit}
use Rattle.noise.proofs.Products.{frame-held}
use Rattle.noise.proofs.FitWindow.{fit-sum, in-quarters}
use Rattle.positions.specs.Counts.{side, neighbours, factors}
use Rattle.normal.specs.Normal.{Picture, neighbour, entry, tap_entry, tap_square}
use Rattle.normal.proofs.Windows.{InWindow, window-rows, window-ext, window-swap}
use Rattle.fit.specs.Steps.{neighbour_of, fit_f, energy_f}
use Rattle.fit.proofs.Near.{counted, is-counted, counted-near, last-own, counted-noise}

module _ (plane : Pair) (lag : ℕ) where
  abbrev w : ℕ
  w = plane.width

  abbrev h : ℕ
  h = plane.height

  -- factor i at each place
  abbrev reached : ℕ → Picture
  reached i y x = whole plane (pos (i / side lag) -ℤ pos lag) (pos (i % side lag) -ℤ pos lag) (y, x)

  is-neighbour : (i y x : ℕ) → InWindow w h lag y x → reached i y x ≡ neighbour (noise_of plane) lag i y x
  is-neighbour i y x p = counted-noise plane lag i y x p.above p.left

  module _ (S : Limited plane_limit sample_limit (own plane)) where
    pub noise-sum : (i j : ℕ) → i < factors lag → j < factors lag
        → fit_f plane lag (neighbour_of plane lag i) (neighbour_of plane lag j) ≡ of_int binary64 (entry (noise_of plane) w h lag i j)
    unfolding fit_f
    noise-sum i j a b =
        (λ t. fit_f plane lag (is-counted plane lag i a t) (is-counted plane lag j b t))
        ∙ fit-sum plane_limit sample_limit plane (counted plane lag i) (counted plane lag j) (frame-held (counted plane lag i) (counted plane lag j)) S S lag (counted-near plane lag i a) (counted-near plane lag j b)
        ∙ ap (of_scaled 0) (sym (window-rows w h lag (reached i) (reached j)) ∙ window-ext w h lag _ _ _ _ (is-neighbour i) (is-neighbour j))
        ∙ scaled-int (entry (noise_of plane) w h lag i j)

    pub energy-sum : energy_f plane lag ≡ of_int binary64 (entry (noise_of plane) w h lag (neighbours lag) (neighbours lag))
    unfolding energy_f
    energy-sum =
        (λ t. fit_f plane lag (sym (last-own plane lag) t) (sym (last-own plane lag) t)) ∙ noise-sum (neighbours lag) (neighbours lag) (omega arith) (omega arith)

  -- with the luma average
  module _ (l : Luma) (L : Limited plane_limit sample_limit (average l)) (tapped : InFit plane lag (average l)) where
    pub square-sum : fit_f plane lag (average l) (average l) ≡ of_scaled 4 (tap_square (quarters l) w h lag)
    unfolding fit_f
    square-sum =
        fit-sum plane_limit sample_limit plane (average l) (average l) (frame-held (average l) (average l)) L L lag tapped tapped
        ∙ ap (of_scaled 4) (sym (window-rows w h lag (quarters l) (quarters l)))

    module _ (S : Limited plane_limit sample_limit (own plane)) where
      pub tap-sum : (i : ℕ) → i < factors lag → fit_f plane lag (neighbour_of plane lag i) (average l) ≡ of_scaled 2 (tap_entry (noise_of plane) (quarters l) w h lag i)
      unfolding fit_f
      tap-sum i a =
          (λ t. fit_f plane lag (is-counted plane lag i a t) (average l))
          ∙ fit-sum plane_limit sample_limit plane (counted plane lag i) (average l) (frame-held (counted plane lag i) (average l)) S L lag (counted-near plane lag i a) tapped
          ∙ in-quarters (λ y x. reached i (lag + y) (lag + x) *ℤ quarters l (lag + y) (lag + x)) (h - lag) (w - lag - lag)
          ∙ ap (of_scaled 2) (sym (window-rows w h lag (reached i) (quarters l)) ∙ window-ext w h lag _ _ _ _ (is-neighbour i) (λ y x p. refl))

      tap-first : (i : ℕ) → i < factors lag → fit_f plane lag (average l) (neighbour_of plane lag i) ≡ of_scaled 2 (tap_entry (noise_of plane) (quarters l) w h lag i)
      unfolding fit_f
      tap-first i a =
          (λ t. fit_f plane lag (average l) (is-counted plane lag i a t))
          ∙ fit-sum plane_limit sample_limit plane (average l) (counted plane lag i) (frame-held (average l) (counted plane lag i)) L S lag tapped (counted-near plane lag i a)
          ∙ in-quarters (λ y x. quarters l (lag + y) (lag + x) *ℤ reached i (lag + y) (lag + x)) (h - lag) (w - lag - lag)
          ∙ ap (of_scaled 2) (sym (window-rows w h lag (quarters l) (reached i)) ∙ window-ext w h lag _ _ _ _ (λ y x p. refl) (is-neighbour i) ∙ window-swap w h lag (quarters l) (neighbour (noise_of plane) lag i))

      pub own-sum : fit_f plane lag (average l) (own plane) ≡ of_scaled 2 (tap_entry (noise_of plane) (quarters l) w h lag (neighbours lag))
      own-sum = ap (fit_f plane lag (average l)) (sym (last-own plane lag)) ∙ tap-first (neighbours lag) (omega arith)
