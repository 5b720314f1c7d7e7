-- What accepted calls answer: the figures that the scope words; luma and Cb figures that no Cr sample changes; zeros for the chroma of a monochrome frame. A refused call answers its number and zeros. Assumes nothing.
use mathlib.Core.Path.{◌≡◌, refl, sym, ap, ◌∙◌}
use mathlib.Core.List.{List, [], ◌∷◌}
use Prim.Native.Nat.{ℕ, ◌-◌, ◌*◌}
use native.Mathlib.Nat.{le_trans, le_of_eq}
use native.Mathlib.Omega.{arith}
use lib.Dec.{lit<}
use lib.ListN.{length}
use Rattle.laws.specs.Loop.{loop, turns}
use Rattle.laws.specs.Limits.{side_limit}
use Rattle.frame.specs.Planes.{samples_of, view_of, cropped, cropped_frame}
use Rattle.frame.specs.declared.Shape.{Shape}
use Rattle.frame.specs.declared.view.Component.TheVariants.{Y, CbCr}
use Rattle.frame.specs.Size.{chroma_width, chroma_height}
use Rattle.frame.specs.Calls.{pair_refusal, frame_refusal}
use Rattle.frame.proofs.Facts.{Sides, Depth, LowPlane, chroma-sides}
use Rattle.frame.proofs.Size.{area-le}
use Rattle.frame.proofs.Viewed.{viewed-length, viewed-whole}
use Rattle.frame.proofs.Cropped.{cropped-whole, cropped-frame-call, cropped-frame-passes}
use Rattle.frame.proofs.Accepted.{pair-call, frame-call}
use Rattle.frame.proofs.FirstNo.{refused, granted}
use Rattle.float.specs.Steps.{sigma16_of}
use Rattle.profile.specs.Steps.{plane_sigma16, totals, sigma_of_bin, profile}
use Rattle.profile.specs.Answers.{sigma_of, sigma_answer, chroma_of, no_profile, luma_profile, chroma_profile, estimate_of, no_estimate, estimate_answer}
use Rattle.profile.specs.Words.{LowSamples, PlaneInWords, EstimateInWords}
use Rattle.profile.specs.declared.NoiseEstimate.{NoiseEstimate}
use Rattle.profile.proofs.AsWorded.{plane-in-words, in_words}

-- the samples of a plane and its copy, as an accepted call has them
pub low : {w h depth : ℕ} {a b : List ℕ} → Sides w h → Depth depth → LowPlane (w * h) depth a → LowPlane (w * h) depth b → LowSamples depth a b
low S d p q =
    record {
      least-depth = d.least;
      few = le_trans (le_of_eq p.samples) (area-le side_limit S.wide S.high);
      source-low = λ i l. p.below i;
      denoised-low = λ i l. q.below i;
    }

-- an accepted call's figure is that of the planes themselves: the whole view shows them
pub sigma-is : (w h depth : ℕ) (a b : List ℕ) → pair_refusal w h depth a b ≡ 0 → sigma_answer w h depth a b ≡ sigma_of (plane_sigma16 (depth - 8) a b)
unfolding sigma_answer
sigma-is w h depth a b e =
    let c = pair-call w h depth a b e in
    granted (pair_refusal w h depth a b) _ _ e
    ∙ (λ i. sigma_of (plane_sigma16 (depth - 8) (viewed-whole w h a c.first.samples i) (viewed-whole w h b c.second.samples i)))

pub sigma-worded : (w h depth : ℕ) (a b : List ℕ) → pair_refusal w h depth a b ≡ 0 → PlaneInWords (depth - 8) a b (sigma_answer w h depth a b).sigma16
sigma-worded w h depth a b e =
    let c = pair-call w h depth a b e in
    rw (sigma-is w h depth a b e) (plane-in-words (low c.size c.depth-known c.first c.second))

module _ (s : Shape) (y cb cr y-denoised cb-denoised cr-denoised : List ℕ) where
  abbrev number : ℕ
  number = frame_refusal s y cb cr y-denoised cb-denoised cr-denoised

  abbrev answer : NoiseEstimate
  answer = estimate_answer s y cb cr y-denoised cb-denoised cr-denoised

  pub estimate-is : number ≡ 0
      → answer ≡ estimate_of (luma_profile s.depth (cropped s Y y) (cropped s Y y-denoised)) (chroma_profile s.depth (cropped s CbCr cb) (cropped s CbCr cb-denoised)) (chroma_profile s.depth (cropped s CbCr cr) (cropped s CbCr cr-denoised))
  unfolding estimate_answer
  estimate-is e = granted number _ _ e

  pub estimate-worded : number ≡ 0 → EstimateInWords s y cb cr y-denoised cb-denoised cr-denoised answer
  estimate-worded e =
      let c = cropped-frame-call s y cb cr y-denoised cb-denoised cr-denoised (frame-call s y cb cr y-denoised cb-denoised cr-denoised e) in
      let d = c.shape.depth in
      let luma = c.shape.size in
      let chroma = chroma-sides (cropped_frame s) luma in
      record {
        y-profile = profile 3 64 (s.depth - 8) (cropped s Y y) (cropped s Y y-denoised);
        cb-profile = profile 2 32 (s.depth - 8) (cropped s CbCr cb) (cropped s CbCr cb-denoised);
        cr-profile = profile 2 32 (s.depth - 8) (cropped s CbCr cr) (cropped s CbCr cr-denoised);
        answer = estimate-is e;
        y-words = in_words (low luma d c.source.y c.copy.y) 3 64 (lit< tt);
        cb-words = in_words (low chroma d c.source.cb c.copy.cb) 2 32 (lit< tt);
        cr-words = in_words (low chroma d c.source.cr c.copy.cr) 2 32 (lit< tt);
      }

  -- "with every other field of the answer zero"
  pub estimate-zeros : (number ≡ 0 → ⊥) → answer ≡ no_estimate number
  unfolding estimate_answer
  estimate-zeros z = refused number _ _ z

-- "Between two accepted calls of one shape that differ only in Cr samples, every luma and Cb result is the same."
pub cr-apart : (s : Shape) (y cb cr other y-denoised cb-denoised cr-denoised other-denoised : List ℕ)
    → frame_refusal s y cb cr y-denoised cb-denoised cr-denoised ≡ 0 → frame_refusal s y cb other y-denoised cb-denoised other-denoised ≡ 0
    → ((estimate_answer s y cb cr y-denoised cb-denoised cr-denoised).luma ≡ (estimate_answer s y cb other y-denoised cb-denoised other-denoised).luma)
    × ((estimate_answer s y cb cr y-denoised cb-denoised cr-denoised).cb ≡ (estimate_answer s y cb other y-denoised cb-denoised other-denoised).cb)
cr-apart s y cb cr other y-denoised cb-denoised cr-denoised other-denoised e f =
    let a = estimate-is s y cb cr y-denoised cb-denoised cr-denoised e in
    let b = estimate-is s y cb other y-denoised cb-denoised other-denoised f in
    ((λ i. (a i).luma) ∙ sym (λ i. (b i).luma), (λ i. (a i).cb) ∙ sym (λ i. (b i).cb))

-- ---- "Monochrome gives chroma zeros."

empty : (xs : List ℕ) → length xs ≡ 0 → xs ≡ []
empty [] e = refl
empty (x ∷ xs) e = absurd (omega arith)

-- a plane with no samples
none : (depth : ℕ) (b : List ℕ) → chroma_profile depth [] b ≡ chroma_of (no_profile 4)
unfolding profile totals sigma_of_bin sigma16_of loop turns
none depth b = refl

pub monochrome : (s : Shape) (y cb cr y-denoised cb-denoised cr-denoised : List ℕ) → s.format ≡ 0 → frame_refusal s y cb cr y-denoised cb-denoised cr-denoised ≡ 0
    → ((estimate_answer s y cb cr y-denoised cb-denoised cr-denoised).cb ≡ chroma_of (no_profile 4)) × ((estimate_answer s y cb cr y-denoised cb-denoised cr-denoised).cr ≡ chroma_of (no_profile 4))
unfolding chroma_width chroma_height
monochrome s y cb cr y-denoised cb-denoised cr-denoised m e =
    let a = estimate-is s y cb cr y-denoised cb-denoised cr-denoised e in
    ((λ i. (a i).cb) ∙ gone cb cb-denoised, (λ i. (a i).cr) ∙ gone cr cr-denoised)
  where
    no-samples : samples_of (cropped_frame s) CbCr ≡ 0
    no-samples = ap (λ (f : ℕ). chroma_width f s.active.width * chroma_height f s.active.height) m

    gone : (c c-denoised : List ℕ) → chroma_profile s.depth (cropped s CbCr c) (cropped s CbCr c-denoised) ≡ chroma_of (no_profile 4)
    gone c c-denoised = rw (empty (cropped s CbCr c) (viewed-length (view_of s CbCr) c ∙ no-samples)) (none s.depth (cropped s CbCr c-denoised))

-- ---- an accepted call with a rectangle answers as the call on the cropped planes with a whole frame
pub estimate-cropped : (s : Shape) (y cb cr y-denoised cb-denoised cr-denoised : List ℕ) → frame_refusal s y cb cr y-denoised cb-denoised cr-denoised ≡ 0
    → estimate_answer s y cb cr y-denoised cb-denoised cr-denoised
    ≡ estimate_answer (cropped_frame s) (cropped s Y y) (cropped s CbCr cb) (cropped s CbCr cr) (cropped s Y y-denoised) (cropped s CbCr cb-denoised) (cropped s CbCr cr-denoised)
estimate-cropped s y cb cr y-denoised cb-denoised cr-denoised e =
    let luma = cropped-whole s Y in
    let chroma = cropped-whole s CbCr in
    estimate-is s y cb cr y-denoised cb-denoised cr-denoised e
    ∙ sym
    (estimate-is (cropped_frame s) _ _ _ _ _ _ (cropped-frame-passes s y cb cr y-denoised cb-denoised cr-denoised e)
    ∙ (λ i.
    estimate_of
    (luma_profile s.depth (luma y i) (luma y-denoised i))
    (chroma_profile s.depth (chroma cb i) (chroma cb-denoised i))
    (chroma_profile s.depth (chroma cr i) (chroma cr-denoised i))))
