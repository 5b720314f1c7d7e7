-- "The luma fit, the chroma fit .. carry this for each coefficient": where there is a fit, and of chroma where there is a solution, coefficient i and mark i are those of value i of the solution. Assumes nothing.
use Rattle.std.proofs.Common.{◌≡◌, ℕ, ◌*◌, ◌<◌, ◌≤◌, Bool, true, false, cond, List, get_or, sym, refl, ap, ◌∙◌, true≢false, lt_of_lt_of_le, arith, leb-false, leb-true}
use lib.Ieee.{le}
use mathlib.Core.Bool.{not-eq-not}
use Rattle.laws.specs.Scaled.{plus_zero}
use Rattle.float.specs.Reading.{Reading, coefficients, marks}
use Rattle.frame.specs.Calls.{fit_refusal}
use Rattle.frame.specs.Planes.{geometry_of}
use Rattle.frame.specs.declared.Shape.{Shape}
use Rattle.frame.proofs.Accepted.{fit-call}
use Rattle.frame.proofs.Viewed.{viewed-length}
use Rattle.noise.specs.Average.{Luma}
use Rattle.noise.specs.Noise.{Pair}
use Rattle.positions.specs.Counts.{neighbours, factors}
use Rattle.positions.proofs.Counts.{neighbours-le}
use Rattle.solve.specs.Elimination.{value}
use Rattle.solve.specs.declared.Solved.{Solved}
use Rattle.fit.specs.Steps.{quantised, coefficients_of, energy_f, luma_fit, chroma_fit}
use Rattle.fit.specs.Answer.{all_zero, luma_first, unfit, found_of, fit_of, luma_of, plane_of, fit_answer}
use Rattle.fit.specs.Words.{luma_solved, chroma_solved, NoFit, lag_zero, narrow, short, still, unsolved, NoChroma, Carried}
use Rattle.fit.specs.declared.Fit.{Fit}
use Rattle.fit.proofs.Answers.{accepted-is}
use Rattle.fit.proofs.Energy.{flat-still}
use Rattle.fit.proofs.NoFit.{limited, bounded, no-fit-if}
use Rattle.fit.proofs.Places.{quantised-at, first-at}
use Rattle.fit.proofs.LumaSteps as luma-steps
use Rattle.fit.proofs.ChromaSteps as chroma-steps

picked : (b : Bool) (f : Fit) → (cond b (unfit 0) f).found ≡ true → cond b (unfit 0) f ≡ f
picked true f e = absurd (true≢false (sym e))
picked false f e = refl

module _ (s : Shape) (y cb cr y-denoised cb-denoised cr-denoised : List ℕ) (lag : ℕ) (passed : fit_refusal s y cb cr y-denoised cb-denoised cr-denoised lag ≡ 0)
    (found : (fit_answer s y cb cr y-denoised cb-denoised cr-denoised lag).found ≡ true) where
  abbrev answer : Fit
  answer = fit_answer s y cb cr y-denoised cb-denoised cr-denoised lag

  abbrev luma : Luma
  luma = luma_of s y y-denoised

  answer-is : answer ≡ found_of luma (plane_of s cb cb-denoised) (plane_of s cr cr-denoised) lag
  unfolding fit_of
  answer-is =
      let e = accepted-is s y cb cr y-denoised cb-denoised cr-denoised lag (sym passed) in
      sym e ∙ picked (all_zero (luma_first coefficients luma lag) (neighbours lag)) _ (ap (λ (f : Fit). f.found) e ∙ found)

  -- luma
  some_fit : NoFit luma.plane lag → ⊥
  some_fit n = true≢false (sym found ∙ ap (λ (f : Fit). f.found) (no-fit-if s y cb cr y-denoised cb-denoised cr-denoised lag passed n))

  luma-solved : {A : Type 0} (R : Reading A) → luma_fit R luma.plane lag ≡ quantised R (luma_solved luma.plane lag).solution.values
  unfolding coefficients_of
  luma-solved R =
      let p = luma.plane in
      let wide = leb-false p.width (2 * lag) (not-eq-not.0 (λ t. some_fit (narrow (leb-true p.width (2 * lag) t)))) in
      let high = leb-false p.height lag (not-eq-not.0 (λ t. some_fit (short (leb-true p.height lag t)))) in
      let S = limited s y cb cr y-denoised cb-denoised cr-denoised lag passed in
      let B = bounded s y cb cr y-denoised cb-denoised cr-denoised lag passed wide high in
      let d : le (energy_f p lag) plus_zero ≡ false = not-eq-not.0 (λ t. some_fit (still (flat-still p lag S B t))) in
      let e : (luma_solved p lag).found ≡ true = not-eq-not.0 (λ t. some_fit (unsolved t)) in
      luma-steps.tested R p lag (λ z. some_fit (lag_zero z)) (luma-steps.not-small p lag wide high) _ refl d ∙ rw e

  luma-at : {A : Type 0} (R : Reading A) (i : ℕ) → i < neighbours lag → get_or (luma_first R luma lag) i R.unquantised ≡ R.of (value (luma_solved luma.plane lag).solution.values i)
  luma-at R i l =
      let k : i < 24 = lt_of_lt_of_le l (neighbours-le (fit-call s y cb cr y-denoised cb-denoised cr-denoised lag passed).lag-known) in
      first-at R (luma_fit R luma.plane lag) i k
      ∙ ap (λ (x : List _). get_or x i R.unquantised) (luma-solved R)
      ∙ quantised-at R (luma_solved luma.plane lag).solution.values i (omega arith)

  pub luma-carried : Carried answer.luma answer.luma_marks (luma_solved luma.plane lag) (neighbours lag)
  luma-carried = rw answer-is (record { quantised = luma-at coefficients; marked = luma-at marks })

  -- a chroma plane
  module _ (source denoised : List ℕ) (some : NoChroma s.format luma (plane_of s source denoised) lag → ⊥) where
    abbrev plane : Pair
    plane = plane_of s source denoised

    abbrev r : Solved
    r = chroma_solved luma plane lag

    chroma-solved : {A : Type 0} (R : Reading A) → chroma_fit R luma plane lag ≡ quantised R r.solution.values
    unfolding coefficients_of
    chroma-solved R =
        let wide = leb-false plane.width (2 * lag) (not-eq-not.0 (λ t. some (narrow (leb-true plane.width (2 * lag) t)))) in
        let high = leb-false plane.height lag (not-eq-not.0 (λ t. some (short (leb-true plane.height lag t)))) in
        let e : r.found ≡ true = not-eq-not.0 (λ t. some (unsolved t)) in
        chroma-steps.tested R luma plane lag (viewed-length (geometry_of s).chroma source) wide high ∙ rw e

    each : {A : Type 0} (R : Reading A) (i : ℕ) → i < factors lag → get_or (chroma_fit R luma plane lag) i R.unquantised ≡ R.of (value r.solution.values i)
    each R i l =
        let few : factors lag ≤ 25 = omega (arith, neighbours-le (fit-call s y cb cr y-denoised cb-denoised cr-denoised lag passed).lag-known) in
        ap (λ (x : List _). get_or x i R.unquantised) (chroma-solved R) ∙ quantised-at R r.solution.values i (lt_of_lt_of_le l few)

    carried : Carried (chroma_fit coefficients luma plane lag) (chroma_fit marks luma plane lag) r (factors lag)
    carried = record { quantised = each coefficients; marked = each marks }

  pub cb-carried : (NoChroma s.format luma (plane_of s cb cb-denoised) lag → ⊥) → Carried answer.cb answer.cb_marks (chroma_solved luma (plane_of s cb cb-denoised) lag) (factors lag)
  cb-carried some = rw answer-is (carried cb cb-denoised some)

  pub cr-carried : (NoChroma s.format luma (plane_of s cr cr-denoised) lag → ⊥) → Carried answer.cr answer.cr_marks (chroma_solved luma (plane_of s cr cr-denoised) lag) (factors lag)
  cr-carried some = rw answer-is (carried cr cr-denoised some)
