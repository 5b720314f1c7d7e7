-- "Between two accepted calls of one shape that differ only in Cr samples, every luma and Cb result is the same." Assumes nothing.
use Rattle.std.proofs.Common.{◌≡◌, ℕ, zero, suc, List, refl, le_of_eq, not-suc-le-zero}
use Rattle.frame.specs.Planes.{geometry_of}
use Rattle.frame.specs.Questions.{accepted}
use Rattle.frame.specs.Calls.{frame_refusal}
use Rattle.frame.specs.declared.Shape.{Shape}
use Rattle.chroma_correlation.specs.Answer.{refused, correlations, corr_answer}
use Rattle.chroma_correlation.specs.Words.{SameButCr}
use Rattle.chroma_correlation.specs.declared.ChromaCorr.{ChromaCorr}

-- an answer without a number is the accepted call's
unrefused : (n : ℕ) (value : ChromaCorr) → (accepted n value (refused n)).refusal ≡ 0 → accepted n value (refused n) ≡ value
unrefused zero value e = refl
unrefused (suc n) value e = absurd (not-suc-le-zero (le_of_eq e))

module _ (s : Shape) (y cb y-denoised cb-denoised : List ℕ) where
  answered : (cr cr-denoised : List ℕ) → (corr_answer s y cb cr y-denoised cb-denoised cr-denoised).refusal ≡ 0
      → corr_answer s y cb cr y-denoised cb-denoised cr-denoised ≡ correlations (geometry_of s) y cb cr y-denoised cb-denoised cr-denoised
  unfolding corr_answer
  answered cr cr-denoised e = unrefused (frame_refusal s y cb cr y-denoised cb-denoised cr-denoised) _ e

  pub only-cr : (cr cr-denoised cr' cr-denoised' : List ℕ) → (corr_answer s y cb cr y-denoised cb-denoised cr-denoised).refusal ≡ 0 → (corr_answer s y cb cr' y-denoised cb-denoised cr-denoised').refusal ≡ 0
      → SameButCr (corr_answer s y cb cr y-denoised cb-denoised cr-denoised) (corr_answer s y cb cr' y-denoised cb-denoised cr-denoised')
  only-cr cr cr-denoised cr' cr-denoised' e e' = rw (answered cr cr-denoised e, answered cr' cr-denoised' e') (record { cb = refl; cb-mark = refl })
