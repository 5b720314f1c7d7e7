-- "Every sigma16 .. is the whole number nearest sixteen times the root of the exact mean square, halves up": the luma gate's own, which is also the one that `noise_estimate` answers. Assumes nothing.
use Rattle.std.proofs.Common.{◌≡◌, ℕ, ◌-◌, List, length, sym, le_of_eq, lt_of_lt_of_le, mul-pos}
use Rattle.frame.specs.Planes.{view_of, cropped}
use Rattle.frame.specs.Calls.{frame_refusal, gate_refusal}
use Rattle.frame.specs.declared.Shape.{Shape}
use Rattle.frame.specs.declared.view.Component.TheVariants.{Y}
use Rattle.frame.proofs.Accepted.{gate-call}
use Rattle.frame.proofs.Cropped.{cropped-gate-call}
use Rattle.float.specs.Sigma.{Nearest16}
use Rattle.laws.specs.Sums.{sum_n}
use Rattle.noise.specs.Seen.{seen}
use Rattle.profile.specs.Shifted.{square}
use Rattle.profile.specs.Answers.{estimate_answer}
use Rattle.profile.proofs.AddUp.{profile-plane}
use Rattle.profile.proofs.AsWorded.{plane-in-words}
use Rattle.profile.proofs.Calls.{low}
use Rattle.gate.specs.Tests.{luma_sigma16}

module _ (s : Shape) (y y-denoised : List ℕ) where
  abbrev sigma16 : ℕ
  sigma16 = luma_sigma16 (s.depth - 8) (seen (view_of s Y) y y-denoised)

  -- of an accepted gate's first frame: it has a sample
  pub luma-nearest : (z z-denoised : List ℕ) → gate_refusal s Y y y-denoised z z-denoised ≡ 0
      → let p = cropped s Y y in Nearest16 (sum_n (square (s.depth - 8) p (cropped s Y y-denoised)) (length p)) (length p) sigma16
  luma-nearest z z-denoised e =
      let c = cropped-gate-call s Y y y-denoised z z-denoised (gate-call s Y y y-denoised z z-denoised e) in
      (plane-in-words (low c.shape.size c.shape.depth c.first c.second)).nearest (lt_of_lt_of_le (mul-pos c.shape.columns c.shape.rows) (le_of_eq (sym c.first.samples)))

  -- `est.sigma16`: what `noise_estimate` answers of a frame with this luma
  pub luma-estimated : (cb cr cb-denoised cr-denoised : List ℕ) → frame_refusal s y cb cr y-denoised cb-denoised cr-denoised ≡ 0
      → (estimate_answer s y cb cr y-denoised cb-denoised cr-denoised).luma.sigma16 ≡ sigma16
  unfolding estimate_answer
  luma-estimated cb cr cb-denoised cr-denoised e = rw e (profile-plane 3 (s.depth - 8) _ _ 64)
