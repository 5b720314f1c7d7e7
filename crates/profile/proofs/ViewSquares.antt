-- The squares of a plane's shifted noise, row by row of a view as the passes over noise add them, are those of what the view shows; and sigma16 from them. Assumes nothing.
use mathlib.Core.Path.{◌≡◌, sym, ◌∙◌, ap, subst}
use mathlib.Core.List.{List}
use Prim.Native.Nat.{ℕ, ◌*◌, ◌^◌, ◌<◌}
use native.Mathlib.Nat.{mul_comm, lt_of_lt_of_le}
use lib.Dec.{lit≤}
use lib.IntN.{ℤ, pos}
use lib.ListN.{length}
use lib.Signed.{mag}
use mir.Syntax.{w64}
use mir.Val.{Fits}
use Rattle.laws.specs.Sums.{sum_to}
use Rattle.laws.proofs.Sums.{sum-ext, sum_rows}
use Rattle.laws.proofs.SumsN.{sum-pos}
use Rattle.float.specs.Steps.{sigma16_of}
use Rattle.frame.specs.View.{viewed}
use Rattle.frame.specs.declared.view.View.{View}
use Rattle.frame.proofs.Viewed.{viewed-length}
use Rattle.noise.specs.Noise.{noise, noise_of}
use Rattle.noise.specs.Seen.{seen, sum_over, squared}
use Rattle.profile.specs.Shifted.{shifted_noise, square}
use Rattle.profile.specs.Steps.{plane_squares, plane_sigma16}
use Rattle.profile.proofs.Squares.{square-pos}
use Rattle.profile.proofs.StepSums.{plane-sum}

pub squares-are : (v : View) (s d : List ℕ) (shift : ℕ) {z : ℤ} → z ≡ sum_over v.height v.width (λ r c. squared shift (noise_of (seen v s d) r c)) → z ≡ pos (plane_squares shift (viewed v s) (viewed v d))
squares-are v s d shift e =
    let x = viewed v s in
    let y = viewed v d in
    e
    ∙ sum_rows (λ i. squared shift (noise x y i)) v.width v.height
    ∙ ap (sum_to (λ i. squared shift (noise x y i))) (mul_comm v.height v.width ∙ sym (viewed-length v s))
    ∙ sum-ext (λ i. squared shift (noise x y i)) (λ i. pos (square shift x y i)) (length x) (λ i l. square-pos (shifted_noise shift x y i))
    ∙ sum-pos (square shift x y) (length x)
    ∙ ap pos (sym (plane-sum shift x y))

-- as the code reads a number that an i64 holds: a sum of squares fits a u64
pub held_fits : {z : ℤ} {n : ℕ} → mag z < 2 ^ 63 → z ≡ pos n → Fits w64 n
held_fits h e = record { fits = lt_of_lt_of_le (subst (λ (z : ℤ). mag z < 2 ^ 63) e h) (lit≤ tt) }

-- sigma16, from the sum of squares and the number of samples
pub sigma-is : (v : View) (shift : ℕ) (s d : List ℕ) {squares count sigma16 : ℕ} → squares ≡ plane_squares shift (viewed v s) (viewed v d) → count ≡ v.width * v.height → sigma16 ≡ sigma16_of squares count → sigma16 ≡ plane_sigma16 shift (viewed v s) (viewed v d)
unfolding plane_sigma16
sigma-is v shift s d e n t = t ∙ (λ i. sigma16_of (e i) ((n ∙ sym (viewed-length v s)) i))
