-- "Between two accepted calls of one shape that differ only in Cr samples, every luma and Cb result is the same." Assumes nothing.
use Rattle.std.proofs.Common.{◌≡◌, ℕ, Bool, true, false, cond, List, sym, refl}
use Rattle.float.specs.Reading.{coefficients}
use Rattle.frame.specs.Calls.{fit_refusal}
use Rattle.frame.specs.declared.Shape.{Shape}
use Rattle.noise.specs.Noise.{Pair}
use Rattle.noise.specs.Average.{Luma}
use Rattle.positions.specs.Counts.{neighbours}
use Rattle.fit.specs.Answer.{all_zero, luma_first, unfit, fit_of, luma_of, plane_of, fit_answer}
use Rattle.fit.specs.Words.{SameButCr}
use Rattle.fit.specs.declared.Fit.{Fit}
use Rattle.fit.proofs.Answers.{accepted-is}

unless : (b : Bool) (f g : Fit) → SameButCr f g → SameButCr (cond b (unfit 0) f) (cond b (unfit 0) g)
unless true f g h = record { found = refl; count = refl; luma = refl; luma-marks = refl; cb = refl; cb-marks = refl }
unless false f g h = h

fits-same : (luma : Luma) (cb cr cr' : Pair) (lag : ℕ) → SameButCr (fit_of luma cb cr lag) (fit_of luma cb cr' lag)
unfolding fit_of
fits-same luma cb cr cr' lag =
    unless (all_zero (luma_first coefficients luma lag) (neighbours lag)) _ _ (record { found = refl; count = refl; luma = refl; luma-marks = refl; cb = refl; cb-marks = refl })

pub only-cr : (s : Shape) (y cb y-denoised cb-denoised : List ℕ) (lag : ℕ) (cr cr-denoised cr' cr-denoised' : List ℕ)
    → fit_refusal s y cb cr y-denoised cb-denoised cr-denoised lag ≡ 0 → fit_refusal s y cb cr' y-denoised cb-denoised cr-denoised' lag ≡ 0
    → SameButCr (fit_answer s y cb cr y-denoised cb-denoised cr-denoised lag) (fit_answer s y cb cr' y-denoised cb-denoised cr-denoised' lag)
only-cr s y cb y-denoised cb-denoised lag cr cr-denoised cr' cr-denoised' e e' =
    rw (← accepted-is s y cb cr y-denoised cb-denoised cr-denoised lag (sym e), ← accepted-is s y cb cr' y-denoised cb-denoised cr-denoised' lag (sym e'))
    (fits-same (luma_of s y y-denoised) (plane_of s cb cb-denoised) (plane_of s cr cr-denoised) (plane_of s cr' cr-denoised') lag)
