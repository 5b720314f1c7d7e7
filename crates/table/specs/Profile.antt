-- "Marked * are proved, and make up a table": the rows on sigma16 of a plane; and the rows on a letterboxed frame, on bins and least counts.
use Rattle.std.specs.Prelude.{List, [], ◌∷◌, ℕ, ◌-◌, get_or, replicate}
use Rattle.table.specs.Cases.{Case, row}
use Rattle.table.specs.Questions.{shape, at, within}
use Rattle.frame.specs.Planes.{samples_of}
use Rattle.frame.specs.declared.Shape.{Shape}
use Rattle.frame.specs.declared.view.Component.TheVariants.{Y}
use Rattle.profile.specs.Bins.{bin_of}
use Rattle.profile.specs.Steps.{least_count}
use Rattle.profile.specs.Answers.{sigma_answer, estimate_answer}
use Rattle.profile.specs.declared.Sigma.{Sigma}

-- ---- plane_sigma16

pub record Call : Type 0 where
  pub width : ℕ
  pub height : ℕ
  pub depth : ℕ
  pub source : List ℕ
  pub denoised : List ℕ

abbrev pub sigma : Call → Sigma
sigma c = sigma_answer c.width c.height c.depth c.source c.denoised

abbrev figure : ℕ → Sigma
figure k = record { refusal = 0; sigma16 = k }

-- 8 bits, 4 samples, noise 1,0,0,0: 8. 1,024 samples, one noise of 1: 1; 1,025 samples: 0. 10 bits, noise −1 everywhere: 16; +1 everywhere: 0. An empty plane: 0.
abbrev pub sigma_cases : List (Case Call Sigma)
sigma_cases =
    row (record { width = 2; height = 2; depth = 8; source = 1 ∷ 0 ∷ 0 ∷ 0 ∷ []; denoised = 0 ∷ 0 ∷ 0 ∷ 0 ∷ [] }) (figure 8) ∷
    row (record { width = 1024; height = 1; depth = 8; source = 1 ∷ replicate 1023 0; denoised = replicate 1024 0 }) (figure 1) ∷
    row (record { width = 1025; height = 1; depth = 8; source = 1 ∷ replicate 1024 0; denoised = replicate 1025 0 }) (figure 0) ∷
    row (record { width = 3; height = 1; depth = 10; source = replicate 3 5; denoised = replicate 3 6 }) (figure 16) ∷
    row (record { width = 3; height = 1; depth = 10; source = replicate 3 4; denoised = replicate 3 3 }) (figure 0) ∷
    row (record { width = 0; height = 7; depth = 12; source = []; denoised = [] }) (figure 0) ∷
    row (record { width = 1; height = 1; depth = 8; source = 256 ∷ []; denoised = 0 ∷ [] }) (record { refusal = 6; sigma16 = 0 }) ∷
    []

-- ---- noise_estimate, of a monochrome frame of 8 bits that is denoised to 0: luma's sigma16, and the samples in its first bin
abbrev pub estimate : Shape × List ℕ → ℕ × ℕ
estimate (s, y) =
    let luma = (estimate_answer s y [] [] (replicate (samples_of s Y) 0) [] []).luma in
    (luma.sigma16, get_or luma.bin_count 0 0)

-- "Black bars have no grain and dilute every figure.": noise 1 along the middle row of three, in the whole frame and in the active rectangle
abbrev letterboxed : List ℕ
letterboxed = 0 ∷ 0 ∷ 0 ∷ 0 ∷ 1 ∷ 1 ∷ 1 ∷ 1 ∷ 0 ∷ 0 ∷ 0 ∷ 0 ∷ []

abbrev pub estimate_cases : List (Case (Shape × List ℕ) (ℕ × ℕ))
estimate_cases =
    row (shape 4 3 8 0, letterboxed) (9, 12) ∷
    row (within 4 3 0 (at 0 1 4 1), letterboxed) (16, 4) ∷
    []

-- ---- bins: of the bits of a bin's number, a depth and a sample. 8-bit 31 in 0, 32 in 1; 10-bit 1023 in 7; chroma 63 in 0, 64 in 1.
abbrev pub bin : ℕ × ℕ × ℕ → ℕ
bin c = bin_of c.0 (c.1 - 8) c.2

abbrev pub bin_cases : List (Case (ℕ × ℕ × ℕ) ℕ)
bin_cases =
    row (3, 8, 31) 0 ∷
    row (3, 8, 32) 1 ∷
    row (3, 10, 1023) 7 ∷
    row (2, 8, 63) 0 ∷
    row (2, 8, 64) 1 ∷
    []

-- ---- n = 6,400 wants 64 in a bin, 6,500 wants 65
abbrev pub least : ℕ × ℕ → ℕ
least c = least_count c.0 c.1

abbrev pub least_cases : List (Case (ℕ × ℕ) ℕ)
least_cases =
    row (64, 6400) 64 ∷
    row (64, 6500) 65 ∷
    row (64, 6499) 64 ∷
    row (32, 3200) 32 ∷
    row (32, 3300) 33 ∷
    []
