-- "the sums of noise products that the calls make are cases of it": both sums of a component, of an accepted call. Assumes nothing.
use Rattle.std.proofs.Common.{◌≡◌, ℕ, List, arith}
use Rattle.frame.specs.Calls.{frame_refusal}
use Rattle.frame.specs.Planes.{geometry_of}
use Rattle.frame.specs.declared.Shape.{Shape}
use Rattle.frame.specs.declared.view.Geometry.{Geometry}
use Rattle.noise.specs.Seen.{Seen, Over, SeenFrame, seen}
use Rattle.noise.specs.Average.{luma_seen}
use Rattle.noise.specs.Products.{average, own}
use Rattle.noise.proofs.Accepted.{frame-seen}
use Rattle.noise.proofs.Over.{seen-samples, luma-limited, average-exists}
use Rattle.noise.proofs.Steps.{frame-case, onward-exists}
use Rattle.chroma_correlation.specs.Steps.{squares_f, products_f}
use Rattle.chroma_correlation.specs.Demand.{CorrCases}

sums : {g : Geometry} {y y-denoised c c-denoised : List ℕ} → Over g → Seen g.luma y y-denoised → Seen g.chroma c c-denoised → CorrCases (luma_seen g y y-denoised) (seen g.chroma c c-denoised)
unfolding squares_f products_f
sums {g} {y} {y-denoised} {c} {c-denoised} O L S =
    let luma = luma_seen g y y-denoised in
    let chroma = seen g.chroma c c-denoised in
    let h = g.chroma.height in
    let w = g.chroma.width in
    record {
      squares = frame-case (average luma) (average luma) 0 h 0 w
          (λ r q a k b m. (average-exists O y y-denoised r q k m, average-exists O y y-denoised r q k m)) (luma-limited O L) (luma-limited O L);
      products = frame-case (average luma) (own chroma) 0 h 0 w
          (λ r q a k b m. (average-exists O y y-denoised r q k m, onward-exists chroma 0 r q k (omega arith))) (luma-limited O L) (seen-samples S);
    }

module _ (s : Shape) (y cb cr y-denoised cb-denoised cr-denoised : List ℕ) (passed : frame_refusal s y cb cr y-denoised cb-denoised cr-denoised ≡ 0) where
  facts : SeenFrame (geometry_of s) y y-denoised cb cb-denoised cr cr-denoised
  facts = frame-seen s y cb cr y-denoised cb-denoised cr-denoised passed

  pub cb-sums : CorrCases (luma_seen (geometry_of s) y y-denoised) (seen (geometry_of s).chroma cb cb-denoised)
  cb-sums = sums facts.over facts.luma facts.cb

  pub cr-sums : CorrCases (luma_seen (geometry_of s) y y-denoised) (seen (geometry_of s).chroma cr cr-denoised)
  cr-sums = sums facts.over facts.luma facts.cr
