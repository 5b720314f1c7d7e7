-- An accepted call with a rectangle answers as the call on the cropped planes with a whole frame. Assumes nothing.
use Rattle.std.proofs.Common.{◌≡◌, ℕ, List, sym, ◌∙◌}
use Rattle.frame.specs.Planes.{cropped, cropped_frame, geometry_of}
use Rattle.frame.specs.Calls.{frame_refusal}
use Rattle.frame.specs.declared.Shape.{Shape}
use Rattle.frame.specs.declared.view.Component.TheVariants.{Y, CbCr}
use Rattle.frame.proofs.FirstNo.{granted}
use Rattle.frame.proofs.Cropped.{cropped-frame-passes}
use Rattle.float.specs.Reading.{coefficients, marks}
use Rattle.noise.proofs.Cropped.{seen-cropped, luma-cropped}
use Rattle.chroma_correlation.specs.Steps.{corr}
use Rattle.chroma_correlation.specs.Answer.{correlations, corr_answer}

module _ (s : Shape) (y cb cr y-denoised cb-denoised cr-denoised : List ℕ) where
  same : correlations (geometry_of s) y cb cr y-denoised cb-denoised cr-denoised
      ≡ correlations (geometry_of (cropped_frame s)) (cropped s Y y) (cropped s CbCr cb) (cropped s CbCr cr) (cropped s Y y-denoised) (cropped s CbCr cb-denoised) (cropped s CbCr cr-denoised)
  same =
      let luma = luma-cropped s y y-denoised in
      let blue = seen-cropped s CbCr cb cb-denoised in
      let red = seen-cropped s CbCr cr cr-denoised in
      λ i. record {
        refusal = 0;
        cb = corr coefficients (luma i) (blue i);
        cr = corr coefficients (luma i) (red i);
        cb_mark = corr marks (luma i) (blue i);
        cr_mark = corr marks (luma i) (red i);
      }

  pub corr-cropped : frame_refusal s y cb cr y-denoised cb-denoised cr-denoised ≡ 0
      → corr_answer s y cb cr y-denoised cb-denoised cr-denoised
      ≡ corr_answer (cropped_frame s) (cropped s Y y) (cropped s CbCr cb) (cropped s CbCr cr) (cropped s Y y-denoised) (cropped s CbCr cb-denoised) (cropped s CbCr cr-denoised)
  unfolding corr_answer
  corr-cropped e = granted _ _ _ e ∙ same ∙ sym (granted _ _ _ (cropped-frame-passes s y cb cr y-denoised cb-denoised cr-denoised e))
