-- The f64 sums of a gate are the exact sums, turned into an f64 once: cases of demand 3. Assumes nothing.
use Rattle.std.proofs.Common.{◌≡◌, ℕ, List, ℤ, ◌*ℤ◌, sym, ap, ◌∙◌, add-zero}
use native.Mathlib.Nat.{sub-zero}
use lib.Ieee.{binary64, of_int}
use Rattle.laws.specs.Scaled.{of_scaled}
use Rattle.laws.specs.Limits.{plane_limit, sample_limit}
use Rattle.laws.proofs.Scaled.{scaled-int}
use Rattle.frame.specs.declared.view.View.{View}
use Rattle.frame.specs.View.{viewed}
use Rattle.noise.specs.Noise.{noise, noise_of, place}
use Rattle.noise.specs.PlanePair.{SameSize}
use Rattle.noise.specs.Seen.{seen, Seen, sum_over, lagged_sum}
use Rattle.noise.specs.Products.{own, onward}
use Rattle.noise.specs.Claim.{Limited}
use Rattle.noise.specs.Steps.{dot_f, lag_f}
use Rattle.noise.proofs.Products.{plane-samples}
use Rattle.noise.proofs.Seen.{seen-plane}
use Rattle.noise.proofs.Products.{frame-held}
use Rattle.noise.proofs.Steps.{dot-sum, lag-sum}

-- ---- of a plane and its copy, as a view shows them
module _ {v : View} {s d : List ℕ} (S : Seen v s d) where
  pub limited : Limited plane_limit sample_limit (own (seen v s d))
  limited = plane-samples _ _ _ _ S.narrow S.low (seen-plane S)

  -- products at one place, as those at lag 0, of planes of one size
  at_place : {w : View} → SameSize v w → (t e : List ℕ) → sum_over v.height v.width (λ r c. noise_of (seen v s d) r c *ℤ noise_of (seen w t e) r c) ≡ lagged_sum (seen v s d) (seen w t e) 0
  at_place {w} size t e = λ i. sum_over v.height (sym (sub-zero v.width) i) (λ r c. noise_of (seen v s d) r c *ℤ noise (viewed w t) (viewed w e) (place (size.width i) r (sym (add-zero c) i)))

  pub dot-is : {w : View} {t e : List ℕ} → Seen w t e → SameSize v w → {z : ℤ} → z ≡ sum_over v.height v.width (λ r c. noise_of (seen v s d) r c *ℤ noise_of (seen w t e) r c)
      → of_int binary64 z ≡ dot_f (seen v s d) (seen w t e)
  dot-is {w} {t} {e} T size {z} eq =
      let p = seen v s d in
      let q = seen w t e in
      sym (scaled-int z) ∙ ap (of_scaled 0) (eq ∙ at_place size t e) ∙ sym (dot-sum p q size.width size.height plane_limit sample_limit (frame-held (own p) (own q)) limited (plane-samples _ _ _ _ T.narrow T.low (seen-plane T)))

  pub lagged-is : (lag : ℕ) {z : ℤ} → z ≡ lagged_sum (seen v s d) (seen v s d) lag → of_int binary64 z ≡ lag_f (seen v s d) lag
  lagged-is lag {z} eq =
      let p = seen v s d in
      sym (scaled-int z) ∙ ap (of_scaled 0) eq ∙ sym (lag-sum p lag plane_limit sample_limit (frame-held (own p) (onward p lag)) limited)
