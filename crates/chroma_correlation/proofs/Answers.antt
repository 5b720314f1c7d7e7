-- The answer of the call, from the number of its questions and the correlations; and the planes of an accepted call. Assumes nothing.
use Rattle.std.proofs.Common.{◌≡◌, ℕ, List, Ok, sym, ◌∙◌}
use Rattle.frame.specs.Planes.{geometry_of}
use Rattle.frame.specs.Calls.{frame_refusal}
use Rattle.frame.specs.declared.Shape.{Shape}
use Rattle.frame.specs.declared.view.Geometry.{Geometry}
use Rattle.frame.proofs.FirstNo as refusal
use Rattle.float.specs.Reading.{both}
use Rattle.noise.specs.Noise.{Pair}
use Rattle.noise.specs.Seen.{seen, SeenFrame}
use Rattle.noise.specs.Average.{Luma, luma_seen}
use Rattle.noise.proofs.Accepted.{frame-seen}
use Rattle.chroma_correlation.specs.Answer as answer
use Rattle.chroma_correlation.specs.Answer.{correlations, corr_answer}
use Rattle.chroma_correlation.specs.Record.{record_of}
use Rattle.chroma_correlation.specs.Steps.{corr}
use Rattle.chroma_correlation.specs.declared.ChromaCorr.{ChromaCorr}
use Rattle.chroma_correlation.specs.declared.Correlations.{Correlations}
use Rattle.chroma_correlation.proofs.Parts.{coefficient-is, mark-is}

-- the correlations, as the answer tells them
pub told : (g : Geometry) (y cb cr y-denoised cb-denoised cr-denoised : List ℕ) {l : Luma} {blue red : Pair} (c : Correlations)
    → l ≡ luma_seen g y y-denoised → blue ≡ seen g.chroma cb cb-denoised → red ≡ seen g.chroma cr cr-denoised → c.cb ≡ corr both l blue → c.cr ≡ corr both l red
    → record_of (Ok c) ≡ correlations g y cb cr y-denoised cb-denoised cr-denoised
told g y cb cr y-denoised cb-denoised cr-denoised c e d f p q =
    let p' = p ∙ (λ i. corr both (e i) (d i)) in
    let q' = q ∙ (λ i. corr both (e i) (f i)) in
    λ i. record {
      refusal = 0;
      cb = coefficient-is _ _ p' i;
      cr = coefficient-is _ _ q' i;
      cb_mark = mark-is _ _ p' i;
      cr_mark = mark-is _ _ q' i;
    }

module _ (s : Shape) (y cb cr y-denoised cb-denoised cr-denoised : List ℕ) (n : ℕ) (asked : n ≡ frame_refusal s y cb cr y-denoised cb-denoised cr-denoised) where
  pub refused : (n ≡ 0 → ⊥) → answer.refused n ≡ corr_answer s y cb cr y-denoised cb-denoised cr-denoised
  unfolding corr_answer
  refused z = rw (← asked) (sym (refusal.refused n _ _ z))

  pub shown : n ≡ 0 → SeenFrame (geometry_of s) y y-denoised cb cb-denoised cr cr-denoised
  shown z = frame-seen s y cb cr y-denoised cb-denoised cr-denoised (sym asked ∙ z)

  pub answered : (r : ChromaCorr) → n ≡ 0 → r ≡ correlations (geometry_of s) y cb cr y-denoised cb-denoised cr-denoised → r ≡ corr_answer s y cb cr y-denoised cb-denoised cr-denoised
  unfolding corr_answer
  answered r z e = e ∙ rw (← asked) (sym (refusal.granted n _ _ z))
