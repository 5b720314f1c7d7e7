-- "2×lag×(lag+1) of them", and "Chroma has one coefficient more": past its count every coefficient of an answer is 0, and inside. The solver's unused values are plus zero, which is quantised to 0. Assumes nothing.
use Rattle.std.proofs.Common.{◌≡◌, ℕ, ◌≤◌, Bool, true, false, cond, List, replicate, refl, ap, ◌∙◌, lt_of_lt_of_le, arith, lit≤}
use lib.ListN.{get_or-replicate}
use Rattle.laws.specs.Scaled.{plus_zero}
use Rattle.float.specs.Reading.{Reading, coefficients, marks}
use Rattle.float.proofs.Reading.{zero-coefficient, zero-mark}
use Rattle.frame.specs.Calls.{order_refusal}
use Rattle.frame.specs.declared.Shape.{Shape}
use Rattle.noise.specs.Average.{Luma}
use Rattle.noise.specs.Noise.{Pair}
use Rattle.noise.specs.Products.{Factor}
use Rattle.positions.specs.Counts.{neighbours, factors}
use Rattle.solve.specs.declared.Solved.{Solved}
use Rattle.solve.specs.Words.{Whole}
use Rattle.solve.proofs.Values.{solved-whole}
use Rattle.fit.specs.Steps.{neighbour_of, with_tap, zeros, quantised, solved_fit, coefficients_of, luma_fit, chroma_fit}
use Rattle.fit.specs.Answer.{luma_first, luma_of, plane_of, fit_answer}
use Rattle.fit.specs.Words.{ZeroFrom, UnusedZero}
use Rattle.fit.proofs.Places.{zeros-at, quantised-at, first-at}
use Rattle.fit.proofs.EachFit.{luma-case, chroma-case, answer-case}

-- by a reading to which plus zero is as if it were not quantised
module _ {A : Type 0} (R : Reading A) (zero : R.of plus_zero ≡ R.unquantised) where
  zeros-zero : (p m : ℕ) → m ≤ 25 → ZeroFrom R p m (zeros R)
  zeros-zero p m h i a b = zeros-at R i (lt_of_lt_of_le b h)

  solved-unused : (plane : Pair) (lag : ℕ) (row : ℕ → Factor) (p : ℕ) → ZeroFrom R p 25 (coefficients_of R (solved_fit plane lag row p))
  unfolding solved_fit coefficients_of quantised
  solved-unused plane lag row p = go r.found refl
    where
      r : Solved
      r = solved_fit plane lag row p

      W : Whole (order_refusal p) p r
      W = solved-whole _ _ p

      go : (b : Bool) → r.found ≡ b → ZeroFrom R p 25 (cond b (quantised R r.solution.values) (zeros R))
      go false e i a b = zeros-zero p 25 (lit≤ tt) i a b
      go true e i a b =
          let o : r.solution.order ≤ i = rw (W.counted e) a in
          quantised-at R r.solution.values i b ∙ ap R.of (W.padded.unused i o b) ∙ zero

  -- luma of a fit, and either chroma plane
  luma-unused : (luma : Luma) (lag : ℕ) → ZeroFrom R (neighbours lag) 24 (luma_first R luma lag)
  luma-unused luma lag i a b =
      first-at R (luma_fit R luma.plane lag) i b
      ∙ luma-case R (ZeroFrom R (neighbours lag) 25) (zeros-zero (neighbours lag) 25 (lit≤ tt)) luma.plane lag (solved-unused luma.plane lag (neighbour_of luma.plane lag) (neighbours lag)) i a (omega arith)

  chroma-unused : (luma : Luma) (plane : Pair) (lag : ℕ) → ZeroFrom R (factors lag) 25 (chroma_fit R luma plane lag)
  chroma-unused luma plane lag =
      chroma-case R (ZeroFrom R (factors lag) 25) (zeros-zero (factors lag) 25 (lit≤ tt)) luma plane lag (solved-unused plane lag (with_tap luma plane lag) (factors lag))

  none-24 : (p : ℕ) → ZeroFrom R p 24 (replicate 24 R.unquantised)
  none-24 p i a b = get_or-replicate 24 i R.unquantised R.unquantised b

-- the answer of any call
pub unused-zero : (s : Shape) (y cb cr y-denoised cb-denoised cr-denoised : List ℕ) (lag : ℕ) → UnusedZero lag (fit_answer s y cb cr y-denoised cb-denoised cr-denoised lag)
unused-zero s y cb cr y-denoised cb-denoised cr-denoised lag =
    answer-case (UnusedZero lag)
    (λ n. record {
      luma = none-24 coefficients zero-coefficient (neighbours lag);
      cb = zeros-zero coefficients zero-coefficient (factors lag) 25 (lit≤ tt);
      cr = zeros-zero coefficients zero-coefficient (factors lag) 25 (lit≤ tt);
      luma-marks = none-24 marks zero-mark (neighbours lag);
      cb-marks = zeros-zero marks zero-mark (factors lag) 25 (lit≤ tt);
      cr-marks = zeros-zero marks zero-mark (factors lag) 25 (lit≤ tt);
    })
    s y cb cr y-denoised cb-denoised cr-denoised lag
    (record {
      luma = luma-unused coefficients zero-coefficient (luma_of s y y-denoised) lag;
      cb = chroma-unused coefficients zero-coefficient (luma_of s y y-denoised) (plane_of s cb cb-denoised) lag;
      cr = chroma-unused coefficients zero-coefficient (luma_of s y y-denoised) (plane_of s cr cr-denoised) lag;
      luma-marks = luma-unused marks zero-mark (luma_of s y y-denoised) lag;
      cb-marks = chroma-unused marks zero-mark (luma_of s y y-denoised) (plane_of s cb cb-denoised) lag;
      cr-marks = chroma-unused marks zero-mark (luma_of s y y-denoised) (plane_of s cr cr-denoised) lag;
    })
