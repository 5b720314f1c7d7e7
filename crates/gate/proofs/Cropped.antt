-- An accepted gate with a rectangle answers as the gate on the cropped planes with a whole frame. Assumes nothing.
use Rattle.std.proofs.Common.{◌≡◌, ℕ, ◌-◌, List, sym, ◌∙◌}
use Rattle.frame.specs.Planes.{cropped, cropped_frame}
use Rattle.frame.specs.Calls.{gate_refusal}
use Rattle.frame.specs.declared.Shape.{Shape}
use Rattle.frame.specs.declared.view.Component.TheVariants.{Y, CbCr}
use Rattle.frame.proofs.FirstNo.{granted}
use Rattle.frame.proofs.Cropped.{cropped-gate-passes}
use Rattle.noise.proofs.Cropped.{seen-cropped}
use Rattle.gate.specs.Tests.{luma_of, chroma_finding}
use Rattle.gate.specs.Answers.{found_gate, luma_answer, chroma_answer}

module _ (s : Shape) (a b c d : List ℕ) where
  pub luma-cropped : gate_refusal s Y a b c d ≡ 0 → luma_answer s a b c d ≡ luma_answer (cropped_frame s) (cropped s Y a) (cropped s Y b) (cropped s Y c) (cropped s Y d)
  unfolding luma_answer
  luma-cropped e =
      granted _ _ _ e
      ∙ (λ i. found_gate (luma_of (s.depth - 8) (seen-cropped s Y a b i) (seen-cropped s Y c d i)))
      ∙ sym (granted _ _ _ (cropped-gate-passes s Y a b c d e))

  pub chroma-cropped : (sigma16 : ℕ) → gate_refusal s CbCr a b c d ≡ 0
      → chroma_answer s a b c d sigma16 ≡ chroma_answer (cropped_frame s) (cropped s CbCr a) (cropped s CbCr b) (cropped s CbCr c) (cropped s CbCr d) sigma16
  unfolding chroma_answer
  chroma-cropped sigma16 e =
      granted _ _ _ e
      ∙ (λ i. found_gate (chroma_finding sigma16 (seen-cropped s CbCr a b i) (seen-cropped s CbCr c d i)))
      ∙ sym (granted _ _ _ (cropped-gate-passes s CbCr a b c d e))
