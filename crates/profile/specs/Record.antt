-- "A refused call returns its number, with every other field of the answer zero.": the answers as C has them.
use Rattle.std.specs.Prelude.{ℕ, Result, Ok, Err}
use Rattle.frame.specs.Refusal.{number}
use Rattle.frame.specs.declared.refusal.Refusal.{Refusal}
use Rattle.profile.specs.Answers.{sigma_of, no_sigma, estimate_of, no_estimate}
use Rattle.profile.specs.declared.Sigma.{Sigma}
use Rattle.profile.specs.declared.LumaProfile.{LumaProfile}
use Rattle.profile.specs.declared.ChromaProfile.{ChromaProfile}
use Rattle.profile.specs.declared.NoiseEstimate.{NoiseEstimate}
use Rattle.profile.specs.declared.profiles.Profile.{Profile}
use Rattle.profile.specs.declared.estimate.Estimate.{Estimate}

abbrev pub sigma_record : Result ℕ Refusal → Sigma
sigma_record (Ok sigma16) = sigma_of sigma16
sigma_record (Err refusal) = no_sigma (number refusal)

-- of eight bins, and of four
abbrev pub luma_record : Profile 8 → LumaProfile
luma_record p = record { sigma16 = p.sigma16; bin_sigma16 = p.bin_sigma16; bin_count = p.bin_count; bin_squares = p.bin_squares }

abbrev pub chroma_record : Profile 4 → ChromaProfile
chroma_record p = record { sigma16 = p.sigma16; bin_sigma16 = p.bin_sigma16; bin_count = p.bin_count; bin_squares = p.bin_squares }

abbrev pub estimate_record : Result Estimate Refusal → NoiseEstimate
estimate_record (Ok e) = estimate_of (luma_record e.luma) (chroma_record e.cb) (chroma_record e.cr)
estimate_record (Err refusal) = no_estimate (number refusal)
