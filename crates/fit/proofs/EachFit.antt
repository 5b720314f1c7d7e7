-- What holds of zeros and of a solver's coefficients holds of each fit; what holds of a refusal, of no fit and of a fit holds of every answer. Assumes nothing.
use Rattle.std.proofs.Common.{ℕ, zero, suc, Bool, true, false, cond, ◌||◌, eqb, List, length}
use lib.Ieee.{le}
use Rattle.laws.specs.Scaled.{plus_zero}
use Rattle.float.specs.Reading.{Reading, coefficients}
use Rattle.frame.specs.Questions.{accepted}
use Rattle.frame.specs.Calls.{fit_refusal}
use Rattle.frame.specs.declared.Shape.{Shape}
use Rattle.noise.specs.Average.{Luma}
use Rattle.noise.specs.Noise.{Pair}
use Rattle.positions.specs.Counts.{neighbours}
use Rattle.fit.specs.Steps.{zeros, coefficients_of, too_small, energy_f, luma_fit, chroma_fit}
use Rattle.fit.specs.Answer.{all_zero, luma_first, unfit, found_of, fit_of, luma_of, plane_of, fit_answer}
use Rattle.fit.specs.declared.Fit.{Fit}
use Rattle.fit.specs.Words.{luma_solved, chroma_solved}

module _ {A : Type 0} (R : Reading A) (Q : List A → Type 0) (z : Q (zeros R)) where
  unless : (b : Bool) (x : List A) → Q x → Q (cond b (zeros R) x)
  unless true x h = z
  unless false x h = h

  pub luma-case : (plane : Pair) (lag : ℕ) → Q (coefficients_of R (luma_solved plane lag)) → Q (luma_fit R plane lag)
  unfolding luma_fit
  luma-case plane lag h =
      unless (eqb lag 0 || too_small plane lag) (cond (le (energy_f plane lag) plus_zero) (zeros R) (coefficients_of R (luma_solved plane lag)))
      (unless (le (energy_f plane lag) plus_zero) (coefficients_of R (luma_solved plane lag)) h)

  pub chroma-case : (luma : Luma) (plane : Pair) (lag : ℕ) → Q (coefficients_of R (chroma_solved luma plane lag)) → Q (chroma_fit R luma plane lag)
  unfolding chroma_fit
  chroma-case luma plane lag h = unless (eqb (length plane.source) 0 || too_small plane lag) (coefficients_of R (chroma_solved luma plane lag)) h

module _ (Q : Fit → Type 0) (none : (n : ℕ) → Q (unfit n)) where
  or-fit : (b : Bool) (f : Fit) → Q f → Q (cond b (unfit 0) f)
  or-fit true f h = none 0
  or-fit false f h = h

  or-refused : (n : ℕ) (f : Fit) → Q f → Q (accepted n f (unfit n))
  or-refused zero f h = h
  or-refused (suc n) f h = none (suc n)

  pub answer-case : (s : Shape) (y cb cr y-denoised cb-denoised cr-denoised : List ℕ) (lag : ℕ)
      → Q (found_of (luma_of s y y-denoised) (plane_of s cb cb-denoised) (plane_of s cr cr-denoised) lag) → Q (fit_answer s y cb cr y-denoised cb-denoised cr-denoised lag)
  unfolding fit_answer fit_of
  answer-case s y cb cr y-denoised cb-denoised cr-denoised lag h =
      or-refused (fit_refusal s y cb cr y-denoised cb-denoised cr-denoised lag) _
      (or-fit (all_zero (luma_first coefficients (luma_of s y y-denoised) lag) (neighbours lag)) _ h)
