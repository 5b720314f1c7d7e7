-- The coefficients from exact sums are those of the Rust's steps, for luma and for chroma: each sum is, so the equations are. Assumes nothing.
use Rattle.std.proofs.Common.{◌≡◌, ℕ, ◌^◌, ◌<◌, ◌≤◌, Bool, true, false, cond, ltb, ℤ, nat_abs, sym, refl, ap, ◌∙◌, arith, ltb-false, ltb-true, lt-ltb}
use lib.Ieee.{Float, binary64, div, of_int}
use Rattle.laws.specs.Constants.{four}
use Rattle.laws.proofs.Constants.{four-value}
use Rattle.laws.specs.Scaled.{of_scaled}
use Rattle.laws.specs.Limits.{plane_limit, sample_limit}
use Rattle.float.specs.Reading.{Reading}
use Rattle.noise.specs.Noise.{Pair, noise_of}
use Rattle.noise.specs.Average.{Luma, quarters}
use Rattle.noise.specs.Products.{own, average}
use Rattle.noise.specs.Claim.{Limited}
use Rattle.noise.specs.Steps.{InFit}
use Rattle.noise.proofs.Divided.{divided}
use Rattle.positions.specs.Counts.{neighbours, factors}
use Rattle.normal.specs.Normal.{entry, tap_entry, tap_square}
use Rattle.solve.specs.Answer.{solved_of}
use Rattle.fit.specs.Steps.{neighbour_of, with_tap, fit_f, energy_f, solved_fit, coefficients_of}
use Rattle.fit.specs.Sums.{cell_sum, right_sum, exact_fit}
use Rattle.fit.proofs.Near.{last-own}
use Rattle.fit.proofs.FloatEntries.{noise-sum, energy-sum, square-sum, tap-sum, own-sum}
use Rattle.fit.proofs.Solutions.{matrix-same, right-same}

module _ (plane : Pair) (lag : ℕ) (S : Limited plane_limit sample_limit (own plane)) where
  abbrev n : ℕ
  n = neighbours lag

  abbrev exact : ℕ → ℕ → ℤ
  exact i j = entry (noise_of plane) plane.width plane.height lag i j

  -- the energy
  pub energy-exact : {z : ℤ} → z ≡ exact n n → of_int binary64 z ≡ energy_f plane lag
  energy-exact e = ap (of_int binary64) e ∙ sym (energy-sum plane lag S)

  module _ (entries : ℕ → ℕ → ℤ) (are : (i j : ℕ) → i < factors lag → j < factors lag → entries i j ≡ exact i j) where
    -- two noises
    read : (i j : ℕ) → i ≤ n → j ≤ n → of_int binary64 (entries i j) ≡ fit_f plane lag (neighbour_of plane lag i) (neighbour_of plane lag j)
    read i j a b =
        let k : i < factors lag = omega arith in
        let l : j < factors lag = omega arith in
        ap (of_int binary64) (are i j k l) ∙ sym (noise-sum plane lag S i j k l)

    read-own : (i : ℕ) → i ≤ n → of_int binary64 (entries i n) ≡ fit_f plane lag (neighbour_of plane lag i) (own plane)
    read-own i a = read i n a (omega arith) ∙ ap (fit_f plane lag (neighbour_of plane lag i)) (last-own plane lag)

    pub luma-exact : {A : Type 0} (R : Reading A) (taps : ℕ → ℤ) (squares : Float) → exact_fit R entries taps squares lag n ≡ coefficients_of R (solved_fit plane lag (neighbour_of plane lag) n)
    unfolding exact_fit solved_fit cell_sum right_sum
    luma-exact R taps squares =
        λ t. coefficients_of R (solved_of (matrix-same (cell_sum entries taps squares lag) _ n cells t) (right-same (right_sum entries taps lag) _ n values t) n)
      where
        cells : (i j : ℕ) → i ≤ j → j < n → cell_sum entries taps squares lag i j ≡ fit_f plane lag (neighbour_of plane lag i) (neighbour_of plane lag j)
        cells i j a b = rw (lt-ltb j n b) (read i j (omega arith) (omega arith))

        values : (i : ℕ) → i < n → right_sum entries taps lag i ≡ fit_f plane lag (neighbour_of plane lag i) (own plane)
        values i a = rw (lt-ltb i n a) (read-own i (omega arith))

    -- chroma, with its sums with the luma tap
    module _ (l : Luma) (L : Limited plane_limit sample_limit (average l)) (T : InFit plane lag (average l)) where
      abbrev exact_tap : ℕ → ℤ
      exact_tap i = tap_entry (noise_of plane) (quarters l) plane.width plane.height lag i

      pub chroma-exact : {A : Type 0} (R : Reading A) (taps : ℕ → ℤ) (squares : Float) → ((i : ℕ) → i < factors lag → taps i ≡ exact_tap i)
          → ((i : ℕ) → i < factors lag → nat_abs (exact_tap i) ≤ 2 ^ 53)
          → squares ≡ of_scaled 4 (tap_square (quarters l) plane.width plane.height lag)
          → exact_fit R entries taps squares lag (factors lag) ≡ coefficients_of R (solved_fit plane lag (with_tap l plane lag) (factors lag))
      unfolding exact_fit solved_fit cell_sum right_sum
      chroma-exact R taps squares e small d =
          λ t. coefficients_of R (solved_of (matrix-same (cell_sum entries taps squares lag) _ (factors lag) cells t) (right-same (right_sum entries taps lag) _ (factors lag) values t) (factors lag))
        where
          tap-read : (i : ℕ) → i < factors lag → div binary64 (of_int binary64 (taps i)) four ≡ of_scaled 2 (exact_tap i)
          tap-read i k = ap (λ (z : ℤ). div binary64 (of_int binary64 z) four) (e i k) ∙ divided 2 _ four (small i k) four-value

          cells : (i j : ℕ) → i ≤ j → j < factors lag → cell_sum entries taps squares lag i j ≡ fit_f plane lag (with_tap l plane lag i) (with_tap l plane lag j)
          cells i j a b = go (ltb i n) (ltb j n) refl refl
            where
              go : (x y : Bool) → ltb i n ≡ x → ltb j n ≡ y
                  → cond y (of_int binary64 (entries i j)) (cond x (div binary64 (of_int binary64 (taps i)) four) squares)
                  ≡ fit_f plane lag (cond x (neighbour_of plane lag i) (average l)) (cond y (neighbour_of plane lag j) (average l))
              go true true p q = read i j (omega (arith, ltb-true i n p)) (omega (arith, ltb-true j n q))
              go false true p q = absurd (omega (arith, ltb-false i n p, ltb-true j n q))
              go true false p q = let k : i < factors lag = omega arith in tap-read i k ∙ sym (tap-sum plane lag l L T S i k)
              go false false p q = d ∙ sym (square-sum plane lag l L T)

          values : (i : ℕ) → i < factors lag → right_sum entries taps lag i ≡ fit_f plane lag (with_tap l plane lag i) (own plane)
          values i a = go (ltb i n) refl
            where
              go : (x : Bool) → ltb i n ≡ x
                  → cond x (of_int binary64 (entries i n)) (div binary64 (of_int binary64 (taps n)) four)
                  ≡ fit_f plane lag (cond x (neighbour_of plane lag i) (average l)) (own plane)
              go true p = read-own i (omega (arith, ltb-true i n p))
              go false p = tap-read n (omega arith) ∙ sym (own-sum plane lag l L T S)
