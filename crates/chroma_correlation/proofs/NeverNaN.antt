-- No correlation is NaN: its sums are finite, and the divisor is above 1e-9. A refused call has no mark but inside. Assumes nothing.
use Rattle.std.proofs.Common.{◌≡◌, ℕ, zero, suc, ◌^◌, ◌<◌, ◌≤◌, Bool, true, false, cond, List, ℤ, pos, negsuc, nat_abs, refl, ap, ◌∙◌, true≢false, zero-lt-suc, arith, lit≤, pow_pos}
use lib.Ieee.{Float, binary64, round, div, le, is_nan}
use Rattle.laws.specs.Constants.{tiny}
use Rattle.laws.specs.Scaled.{of_scaled}
use Rattle.laws.proofs.Finite.{scaled-val, div-at}
use Rattle.frame.specs.Calls.{frame_refusal}
use Rattle.frame.specs.Planes.{geometry_of}
use Rattle.frame.specs.Questions.{accepted}
use Rattle.frame.specs.declared.Shape.{Shape}
use Rattle.frame.specs.declared.view.Geometry.{Geometry}
use Rattle.float.specs.Mark.{mark, number}
use Rattle.float.specs.declared.quant.Mark.TheVariants.{Inside, NotANumber}
use Rattle.float.specs.Reading.{marks}
use Rattle.float.proofs.Number.{round_number}
use Rattle.float.proofs.Marks.{number-marked}
use Rattle.noise.specs.Seen.{Seen, Over, seen}
use Rattle.noise.specs.Average.{luma_seen}
use Rattle.noise.proofs.Accepted.{frame-seen}
use Rattle.chroma_correlation.specs.Steps.{corr}
use Rattle.chroma_correlation.specs.Exact.{tap_of}
use Rattle.chroma_correlation.specs.Answer.{refused, correlations, corr_answer}
use Rattle.chroma_correlation.specs.Words.{NeverNaN}
use Rattle.chroma_correlation.proofs.Averages.{products-small, squares-small, tap-is}

-- ---- the quotient of the exact sums
some : (z : ℤ) → le (of_scaled 4 z) tiny ≡ false → 0 < nat_abs z
unfolding of_scaled le round
some (pos zero) e = absurd (true≢false e)
some (pos (suc n)) e = zero-lt-suc n
some (negsuc n) e = zero-lt-suc n

module _ (products squares : ℤ) (p : nat_abs products ≤ 2 ^ 53) (s : nat_abs squares ≤ 2 ^ 53) where
  quotient-number : le (of_scaled 4 squares) tiny ≡ false → is_nan (div binary64 (of_scaled 2 products) (of_scaled 4 squares)) ≡ false
  unfolding of_scaled
  quotient-number e =
      ap is_nan (div-at binary64 _ _ _ (nat_abs products) (2 ^ 2) _ (nat_abs squares) (2 ^ 4) (pow_pos 2) (pow_pos 4) (some squares e) (scaled-val binary64 _ _ 2 p (lit≤ tt)) (scaled-val binary64 _ _ 4 s (lit≤ tt)))
      ∙ round_number _ _ _ _

  tap-number : tap_of marks products squares ≡ number NotANumber → ⊥
  unfolding tap_of
  tap-number = go (le (of_scaled 4 squares) tiny) _ quotient-number
    where
      go : (b : Bool) (x : Float) → (b ≡ false → is_nan x ≡ false) → cond b (number Inside) (number (mark x)) ≡ number NotANumber → ⊥
      go true x n e = omega arith
      go false x n e = number-marked x (n refl) e

-- ---- the answer
marked : {g : Geometry} {y y-denoised c c-denoised : List ℕ} → Over g → Seen g.luma y y-denoised → Seen g.chroma c c-denoised
    → corr marks (luma_seen g y y-denoised) (seen g.chroma c c-denoised) ≡ number NotANumber → ⊥
marked O L S e = tap-number _ _ (products-small O L S) (squares-small O L S) (tap-is O L S marks ∙ e)

pub never-nan : (s : Shape) (y cb cr y-denoised cb-denoised cr-denoised : List ℕ) → NeverNaN (corr_answer s y cb cr y-denoised cb-denoised cr-denoised)
unfolding corr_answer
never-nan s y cb cr y-denoised cb-denoised cr-denoised = go (frame_refusal s y cb cr y-denoised cb-denoised cr-denoised) refl
  where
    go : (n : ℕ) → frame_refusal s y cb cr y-denoised cb-denoised cr-denoised ≡ n → NeverNaN (accepted n (correlations (geometry_of s) y cb cr y-denoised cb-denoised cr-denoised) (refused n))
    go zero e =
        let F = frame-seen s y cb cr y-denoised cb-denoised cr-denoised e in
        record { cb = marked F.over F.luma F.cb; cr = marked F.over F.luma F.cr }
    go (suc n) e = record { cb = λ e. omega arith; cr = λ e. omega arith }
