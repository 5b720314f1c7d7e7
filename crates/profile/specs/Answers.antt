-- The answers of `plane_sigma16` and `noise_estimate`: "A refused call returns its number, with every other field of the answer zero".
use Rattle.std.specs.Prelude.{List, ℕ, ◌-◌, replicate}
use Rattle.frame.specs.Questions.{accepted}
use Rattle.frame.specs.Calls.{pair_refusal, frame_refusal}
use Rattle.frame.specs.View.{viewed, whole}
use Rattle.frame.specs.Planes.{cropped}
use Rattle.frame.specs.declared.Shape.{Shape}
use Rattle.frame.specs.declared.view.Component.TheVariants.{Y, CbCr}
use Rattle.profile.specs.Steps.{Profile, plane_sigma16, profile}
use Rattle.profile.specs.declared.Sigma.{Sigma}
use Rattle.profile.specs.declared.LumaProfile.{LumaProfile}
use Rattle.profile.specs.declared.ChromaProfile.{ChromaProfile}
use Rattle.profile.specs.declared.NoiseEstimate.{NoiseEstimate}

-- ---- plane_sigma16

abbrev pub sigma_of : ℕ → Sigma
sigma_of sigma16 = record { refusal = 0; sigma16 = sigma16 }

-- a refused call's
abbrev pub no_sigma : ℕ → Sigma
no_sigma n = record { refusal = n; sigma16 = 0 }

unfoldable pub sigma_answer : ℕ → ℕ → ℕ → List ℕ → List ℕ → Sigma
unfolding pair_refusal plane_sigma16 viewed
sigma_answer width height depth source denoised =
    let n = pair_refusal width height depth source denoised in
    let view = whole width height in
    accepted n (sigma_of (plane_sigma16 (depth - 8) (viewed view source) (viewed view denoised))) (no_sigma n)

-- ---- noise_estimate

abbrev pub luma_of : Profile → LumaProfile
luma_of p =
    record { sigma16 = p.sigma16; bin_sigma16 = p.sigma16_of_bin; bin_count = p.count; bin_squares = p.squares }

abbrev pub chroma_of : Profile → ChromaProfile
chroma_of p =
    record { sigma16 = p.sigma16; bin_sigma16 = p.sigma16_of_bin; bin_count = p.count; bin_squares = p.squares }

-- n bins with nothing in them
abbrev pub no_profile : ℕ → Profile
no_profile n = record { sigma16 = 0; sigma16_of_bin = replicate n 0; count = replicate n 0; squares = replicate n 0 }

-- "Luma .. eight bins. Chroma .. four bins.", 64 and 32 in a bin at least; the shift is depth − 8
abbrev pub luma_profile : ℕ → List ℕ → List ℕ → LumaProfile
luma_profile depth source denoised = luma_of (profile 3 64 (depth - 8) source denoised)

abbrev pub chroma_profile : ℕ → List ℕ → List ℕ → ChromaProfile
chroma_profile depth source denoised = chroma_of (profile 2 32 (depth - 8) source denoised)

abbrev pub estimate_of : LumaProfile → ChromaProfile → ChromaProfile → NoiseEstimate
estimate_of luma cb cr = record { refusal = 0; luma = luma; cb = cb; cr = cr }

-- a refused call's
abbrev pub no_estimate : ℕ → NoiseEstimate
no_estimate n = record { refusal = n; luma = luma_of (no_profile 8); cb = chroma_of (no_profile 4); cr = chroma_of (no_profile 4) }

unfoldable pub estimate_answer : Shape → List ℕ → List ℕ → List ℕ → List ℕ → List ℕ → List ℕ → NoiseEstimate
unfolding frame_refusal profile viewed
estimate_answer s y cb cr y-denoised cb-denoised cr-denoised =
    let n = frame_refusal s y cb cr y-denoised cb-denoised cr-denoised in
    accepted n
    (estimate_of
    (luma_profile s.depth (cropped s Y y) (cropped s Y y-denoised))
    (chroma_profile s.depth (cropped s CbCr cb) (cropped s CbCr cb-denoised))
    (chroma_profile s.depth (cropped s CbCr cr) (cropped s CbCr cr-denoised)))
    (no_estimate n)
