-- "A refused call returns its number, with every other field of the answer zero": the answer of `fit_chroma_corr`.
use Rattle.std.specs.Prelude.{ℕ, List, pos}
use Rattle.frame.specs.Planes.{geometry_of}
use Rattle.frame.specs.Questions.{accepted}
use Rattle.frame.specs.Calls.{frame_refusal}
use Rattle.frame.specs.declared.Shape.{Shape}
use Rattle.frame.specs.declared.view.Geometry.{Geometry}
use Rattle.float.specs.Reading.{coefficients, marks}
use Rattle.noise.specs.Seen.{seen}
use Rattle.noise.specs.Average.{luma_seen}
use Rattle.chroma_correlation.specs.Steps.{corr}
use Rattle.chroma_correlation.specs.declared.ChromaCorr.{ChromaCorr}

abbrev pub refused : ℕ → ChromaCorr
refused n = record { refusal = n; cb = pos 0; cr = pos 0; cb_mark = 0; cr_mark = 0 }

-- the correlations of a frame, as a geometry shows it
abbrev pub correlations : Geometry → List ℕ → List ℕ → List ℕ → List ℕ → List ℕ → List ℕ → ChromaCorr
correlations g y cb cr y-denoised cb-denoised cr-denoised =
    let luma = luma_seen g y y-denoised in
    let blue = seen g.chroma cb cb-denoised in
    let red = seen g.chroma cr cr-denoised in
    record {
      refusal = 0;
      cb = corr coefficients luma blue;
      cr = corr coefficients luma red;
      cb_mark = corr marks luma blue;
      cr_mark = corr marks luma red;
    }

unfoldable pub corr_answer : Shape → List ℕ → List ℕ → List ℕ → List ℕ → List ℕ → List ℕ → ChromaCorr
corr_answer s y cb cr y-denoised cb-denoised cr-denoised =
    let n = frame_refusal s y cb cr y-denoised cb-denoised cr-denoised in
    accepted n (correlations (geometry_of s) y cb cr y-denoised cb-denoised cr-denoised) (refused n)
