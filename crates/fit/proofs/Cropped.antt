-- An accepted call with a rectangle answers as the call on the cropped planes with a whole frame. Assumes nothing.
use Rattle.std.proofs.Common.{◌≡◌, ℕ, List, sym, ◌∙◌}
use Rattle.frame.specs.Planes.{cropped, cropped_frame}
use Rattle.frame.specs.Calls.{fit_refusal}
use Rattle.frame.specs.declared.Shape.{Shape}
use Rattle.frame.specs.declared.view.Component.TheVariants.{Y, CbCr}
use Rattle.frame.proofs.FirstNo.{granted}
use Rattle.frame.proofs.Cropped.{cropped-fit-passes}
use Rattle.noise.proofs.Cropped.{seen-cropped, luma-cropped}
use Rattle.fit.specs.Answer.{fit_of, fit_answer}

pub fit-cropped : (s : Shape) (y cb cr y-denoised cb-denoised cr-denoised : List ℕ) (lag : ℕ) → fit_refusal s y cb cr y-denoised cb-denoised cr-denoised lag ≡ 0
    → fit_answer s y cb cr y-denoised cb-denoised cr-denoised lag
    ≡ fit_answer (cropped_frame s) (cropped s Y y) (cropped s CbCr cb) (cropped s CbCr cr) (cropped s Y y-denoised) (cropped s CbCr cb-denoised) (cropped s CbCr cr-denoised) lag
unfolding fit_answer
fit-cropped s y cb cr y-denoised cb-denoised cr-denoised lag e =
    granted _ _ _ e
    ∙ (λ i. fit_of (luma-cropped s y y-denoised i) (seen-cropped s CbCr cb cb-denoised i) (seen-cropped s CbCr cr cr-denoised i) lag)
    ∙ sym (granted _ _ _ (cropped-fit-passes s y cb cr y-denoised cb-denoised cr-denoised lag e))
