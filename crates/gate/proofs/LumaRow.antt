-- The luma gate's row correlation, `lag / e0`, is `lag_h_rho` at lag 1 wherever the gate comes to it, that is where the energy is not 0. Assumes nothing.
use Rattle.std.proofs.Common.{◌≡◌, ℕ, zero, suc, ◌-◌, ◌*◌, ◌^◌, ◌<◌, ◌≤◌, Bool, true, false, ltb, List, ℤ, pos, negsuc, nat_abs, ◌≤ℤ◌, sym, refl, ap, ◌∙◌, le_trans, le_of_eq, zero-lt-suc, one-mul, arith, lit<, lit≤, ltb-false, ltb-true}
use mathlib.Core.Path.{fun_ext}
use lib.Ieee.{Float, binary64, add, div}
use Rattle.laws.specs.Loop.{loop}
use Rattle.laws.specs.Scaled.{plus_zero, of_scaled}
use Rattle.laws.proofs.Scaled.{scaled-zero, scaled-int}
use Rattle.laws.proofs.Finite.{scaled-val, div-at}
use Rattle.laws.proofs.Loop.{loop-none}
use Rattle.laws.proofs.ZeroSign.{round-plus}
use Rattle.laws.proofs.Accumulators.{loop-still}
use Rattle.frame.specs.declared.view.View.{View}
use Rattle.noise.specs.Noise.{Pair}
use Rattle.noise.specs.Products.{Factor, own, onward, product_f}
use Rattle.noise.specs.Seen.{seen, Seen}
use Rattle.noise.specs.Steps.{window_f, dot_f, lag_f}
use Rattle.noise.proofs.Steps.{lag-window}
use Rattle.gate.specs.RowCorrelation.{energy, row_correlation}
use Rattle.gate.specs.Tests.{luma_row}
use Rattle.gate.proofs.Rows.{divided, row_is}
use Rattle.gate.proofs.PlusZero.{narrow-zero}
use Rattle.gate.proofs.EnergyZero.{not_negative, no-energy, energy-small, energy-float, some-found}

-- ---- a window with no columns, and nothing over a number
no-columns : (u v : Factor) (h : ℕ) → window_f u v 0 h 0 0 ≡ plus_zero
unfolding window_f
no-columns u v h = (λ i. loop 0 h (λ y. fun_ext (λ (s : Float). loop-none 0 0 (λ x s. add binary64 s (product_f u v (y, x))) s (lit≤ tt)) i) plus_zero) ∙ loop-still 0 h plus_zero

zero-over : (n : ℕ) → 0 < n → n ≤ 2 ^ 53 → div binary64 plus_zero (of_scaled 0 (pos n)) ≡ plus_zero
unfolding of_scaled
zero-over n h l =
    ap (λ (x : Float). div binary64 x (of_scaled 0 (pos n))) (sym (scaled-zero 0))
    ∙ div-at binary64 _ _ false 0 1 false n 1 (lit< tt) (lit< tt) h (scaled-val binary64 false 0 0 (lit≤ tt) (lit≤ tt)) (scaled-val binary64 false n 0 l (lit≤ tt))
    ∙ round-plus (1 * n) (le_trans h (le_of_eq (sym (one-mul n))))

-- ---- the two correlations
module _ {v : View} {s d : List ℕ} (S : Seen v s d) (some : energy (seen v s d) ≡ pos 0 → ⊥) where
  abbrev p : Pair
  p = seen v s d

  -- the energy is a number above 0
  positive : (z : ℤ) → pos 0 ≤ℤ z → (z ≡ pos 0 → ⊥) → nat_abs z ≤ 2 ^ 53 → div binary64 plus_zero (of_scaled 0 z) ≡ plus_zero
  positive (pos zero) h n l = absurd (n refl)
  positive (pos (suc m)) h n l = zero-over (suc m) (zero-lt-suc m) l
  positive (negsuc m) h n l = absurd h.le

  one-column : v.width ≤ 1 → luma_row p (dot_f p p) ≡ plus_zero
  unfolding luma_row
  one-column h =
      let z : v.width - 1 ≡ 0 = omega arith in
      ap (λ (x : Float). div binary64 x (dot_f p p)) (ap (window_f (own p) (onward p 1) 0 v.height 0) z ∙ no-columns (own p) (onward p 1) v.height)
      ∙ ap (div binary64 plus_zero) (sym (scaled-int (energy p) ∙ energy-float S))
      ∙ positive (energy p) (not_negative p) some (energy-small S)

  rows : v.height ≡ 0 → ⊥
  rows z = some (no-energy p (λ r c k l. let n : ⊥ = omega arith in absurd n))

  more-columns : 1 < v.width → luma_row p (dot_f p p) ≡ row_correlation p 1
  unfolding luma_row
  more-columns h =
      ap (λ (x : Float). div binary64 x (dot_f p p)) (sym (lag-window p 1))
      ∙ row_is p 1 refl refl (divided v.width v.height 1 (dot_f p p) (lag_f p 1) (λ z. omega arith) h rows (some-found S some))

  pub luma-row : luma_row p (dot_f p p) ≡ row_correlation p 1
  luma-row = go (ltb 1 v.width) (ltb-true 1 v.width) (ltb-false 1 v.width)
    where
      go : (b : Bool) → (b ≡ true → 1 < v.width) → (b ≡ false → v.width ≤ 1) → luma_row p (dot_f p p) ≡ row_correlation p 1
      go true f g = more-columns (f refl)
      go false f g = let h = g refl in one-column h ∙ sym (narrow-zero p 1 h)
