-- "The answer is a refusal number or an f64." "A refused call returns its number, with every other field of the answer zero." The answers of the calls, about what their views show.
use Rattle.std.specs.Prelude.{ℕ, zero, suc, ◌-◌, false, List, Float, Result, Ok, Err}
use Rattle.frame.specs.View.{whole}
use Rattle.frame.specs.Planes.{view_of}
use Rattle.frame.specs.Calls.{pair_refusal, gate_refusal}
use Rattle.frame.specs.Questions.{accepted}
use Rattle.frame.specs.declared.Shape.{Shape}
use Rattle.frame.specs.declared.view.Component.TheVariants.{Y, CbCr}
use Rattle.noise.specs.Seen.{seen}
use Rattle.gate.specs.RowCorrelation.{row_correlation}
use Rattle.gate.specs.Tests.{Finding, luma_of, chroma_finding, is_passed}
use Rattle.gate.specs.declared.Gate.{Gate}

-- 0 brings the value, any other number is a refusal
abbrev pub rho : ℕ → Float → Result Float ℕ
rho zero x = Ok x
rho (suc n) x = Err (suc n)

-- `lag_h_rho`
unfoldable pub rho_answer : List ℕ → List ℕ → ℕ → ℕ → ℕ → ℕ → Result Float ℕ
rho_answer source denoised w h lag depth = rho (pair_refusal w h depth source denoised) (row_correlation (seen (whole w h) source denoised) lag)

-- a gate's answer where it is refused, and from what it finds where it is accepted
abbrev pub refused_gate : ℕ → Gate
refused_gate n = record { refusal = n; yes = false }

abbrev pub found_gate : Finding → Gate
found_gate f = record { refusal = 0; yes = is_passed f }

-- `film_grain_probe`: the noise of sigma16 is shifted by depth − 8
unfoldable pub luma_answer : Shape → List ℕ → List ℕ → List ℕ → List ℕ → Gate
luma_answer s source₀ denoised₀ source₁ denoised₁ =
    let n = gate_refusal s Y source₀ denoised₀ source₁ denoised₁ in
    let v = view_of s Y in
    accepted n (found_gate (luma_of (s.depth - 8) (seen v source₀ denoised₀) (seen v source₁ denoised₁))) (refused_gate n)

-- `chroma_noise_gate`
unfoldable pub chroma_answer : Shape → List ℕ → List ℕ → List ℕ → List ℕ → ℕ → Gate
chroma_answer s source₀ denoised₀ source₁ denoised₁ sigma16 =
    let n = gate_refusal s CbCr source₀ denoised₀ source₁ denoised₁ in
    let v = view_of s CbCr in
    accepted n (found_gate (chroma_finding sigma16 (seen v source₀ denoised₀) (seen v source₁ denoised₁))) (refused_gate n)
