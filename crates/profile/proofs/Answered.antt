-- What the two calls answer: a refused one its number and zeros, an accepted one the figures of what it sees of its planes, whose samples are low. Assumes nothing.
use mathlib.Core.Path.{◌≡◌, sym, ap, ◌∙◌}
use mathlib.Core.List.{List}
use Prim.Native.Nat.{ℕ, ◌-◌}
use Rattle.frame.specs.Calls.{pair_refusal, frame_refusal}
use Rattle.frame.specs.Planes.{view_of}
use Rattle.frame.specs.View.{viewed, whole}
use Rattle.frame.specs.declared.Shape.{Shape}
use Rattle.frame.specs.declared.view.View.{View}
use Rattle.frame.specs.declared.view.Component.TheVariants.{Y, CbCr}
use Rattle.frame.proofs.Accepted.{pair-call, frame-call}
use Rattle.frame.proofs.Facts.{Depth, LowPlane}
use Rattle.frame.proofs.Viewed.{viewed-whole}
use Rattle.frame.proofs.FirstNo.{answer-refused, answer-granted}
use Rattle.noise.specs.Seen.{Seen}
use Rattle.noise.proofs.Accepted.{plane-seen}
use Rattle.profile.specs.Steps.{plane_sigma16}
use Rattle.profile.specs.Answers.{sigma_of, no_sigma, sigma_answer, luma_profile, chroma_profile, estimate_of, no_estimate, estimate_answer}
use Rattle.profile.specs.Runs.{SeenAt}
use Rattle.profile.specs.declared.LumaProfile.{LumaProfile}
use Rattle.profile.specs.declared.ChromaProfile.{ChromaProfile}

seen_at : {n depth : ℕ} {v : View} {source denoised : List ℕ} → Depth depth → Seen v source denoised → LowPlane n depth source → LowPlane n depth denoised → SeenAt depth v source denoised
seen_at d S p q = record { least-depth = d.least; most-depth = d.most; seen = S; source-low = p.below; denoised-low = q.below }

-- ---- plane_sigma16
module _ (w h depth : ℕ) (source denoised : List ℕ) {n : ℕ} (e : n ≡ pair_refusal w h depth source denoised) where
  pub sigma-refused : (n ≡ 0 → ⊥) → no_sigma n ≡ sigma_answer w h depth source denoised
  unfolding sigma_answer
  sigma-refused z = answer-refused (sigma_of (plane_sigma16 (depth - 8) (viewed (whole w h) source) (viewed (whole w h) denoised))) no_sigma e z

  pub sigma-accepted : n ≡ 0 → {v : ℕ} → v ≡ plane_sigma16 (depth - 8) source denoised → sigma_of v ≡ sigma_answer w h depth source denoised
  unfolding sigma_answer
  sigma-accepted z is =
      let c = pair-call w h depth source denoised (sym e ∙ z) in
      ap sigma_of (is ∙ (λ i. plane_sigma16 (depth - 8) (sym (viewed-whole w h source c.first.samples) i) (sym (viewed-whole w h denoised c.second.samples) i)))
      ∙ answer-granted (sigma_of (plane_sigma16 (depth - 8) (viewed (whole w h) source) (viewed (whole w h) denoised))) no_sigma e z

-- ---- noise_estimate
module _ (s : Shape) (y cb cr y-denoised cb-denoised cr-denoised : List ℕ) {n : ℕ} (e : n ≡ frame_refusal s y cb cr y-denoised cb-denoised cr-denoised) where
  abbrev of-luma : View → LumaProfile
  of-luma v = luma_profile s.depth (viewed v y) (viewed v y-denoised)

  abbrev of-cb : View → ChromaProfile
  of-cb v = chroma_profile s.depth (viewed v cb) (viewed v cb-denoised)

  abbrev of-cr : View → ChromaProfile
  of-cr v = chroma_profile s.depth (viewed v cr) (viewed v cr-denoised)

  pub estimate-refused : (n ≡ 0 → ⊥) → no_estimate n ≡ estimate_answer s y cb cr y-denoised cb-denoised cr-denoised
  unfolding estimate_answer
  estimate-refused z = answer-refused (estimate_of (of-luma (view_of s Y)) (of-cb (view_of s CbCr)) (of-cr (view_of s CbCr))) no_estimate e z

  module _ (z : n ≡ 0) {luma chroma : View} (l : luma ≡ view_of s Y) (c : chroma ≡ view_of s CbCr) where
    pub estimate-accepted : {p : LumaProfile} {q r : ChromaProfile} → p ≡ of-luma luma → q ≡ of-cb chroma → r ≡ of-cr chroma → estimate_of p q r ≡ estimate_answer s y cb cr y-denoised cb-denoised cr-denoised
    unfolding estimate_answer
    estimate-accepted a b d =
        (λ i. estimate_of ((a ∙ ap of-luma l) i) ((b ∙ ap of-cb c) i) ((d ∙ ap of-cr c) i))
        ∙ answer-granted (estimate_of (of-luma (view_of s Y)) (of-cb (view_of s CbCr)) (of-cr (view_of s CbCr))) no_estimate e z

    pub estimate-seen : SeenAt s.depth luma y y-denoised × SeenAt s.depth chroma cb cb-denoised × SeenAt s.depth chroma cr cr-denoised
    estimate-seen =
        let f = frame-call s y cb cr y-denoised cb-denoised cr-denoised (sym e ∙ z) in
        let k = f.shape in
        rw (l, c) (
          seen_at k.depth (plane-seen s Y k f.source.y f.copy.y) f.source.y f.copy.y,
          seen_at k.depth (plane-seen s CbCr k f.source.cb f.copy.cb) f.source.cb f.copy.cb,
          seen_at k.depth (plane-seen s CbCr k f.source.cr f.copy.cr) f.source.cr f.copy.cr,
        )
