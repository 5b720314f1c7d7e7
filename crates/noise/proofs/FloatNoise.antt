-- A noise in f64 is exactly the whole number, which is below every bound of the samples. Assumes nothing.
use mathlib.Core.Path.{◌≡◌, sym, ap, ◌∙◌, subst}
use mathlib.Core.List.{List}
use Prim.Native.Nat.{ℕ, ◌^◌, ◌<◌, ◌≤◌}
use native.Mathlib.Nat.{le_trans, le_of_lt}
use lib.Dec.{lit≤}
use lib.IntN.{pos, nat_abs}
use lib.ListN.{get_or}
use lib.Ieee.{Float, binary64, sub, of_int}
use Rattle.laws.specs.Scaled.{of_scaled, Holds}
use Rattle.laws.proofs.Scaled.{scaled-int, holds-int, holds-scaled, sub-scaled}
use Rattle.laws.proofs.Whole.{abs_diff}
use Rattle.noise.specs.Noise.{noise, noise_f}

module _ (a b : List ℕ) (i top : ℕ) (l : get_or a i 0 < top) (m : get_or b i 0 < top) (room : top ≤ 2 ^ 53) where
  noise-le : nat_abs (noise a b i) ≤ top
  noise-le = le_of_lt (abs_diff (get_or a i 0) (get_or b i 0) top l m)

  noise-float : noise_f a b i ≡ of_scaled 0 (noise a b i)
  noise-float =
      ap (λ (x : Float). sub binary64 x (of_int binary64 (pos (get_or b i 0)))) (sym (scaled-int (pos (get_or a i 0))))
      ∙ sub-scaled 0 (pos (get_or a i 0)) (pos (get_or b i 0)) (of_int binary64 (pos (get_or b i 0))) (le_trans (le_of_lt l) room) (lit≤ tt)
      (holds-int (pos (get_or b i 0)) (le_trans (le_of_lt m) room))

  pub noise-exact : (nat_abs (noise a b i) ≤ top) × Holds 0 (noise a b i) (noise_f a b i)
  noise-exact = (noise-le, subst (λ (x : Float). Holds 0 (noise a b i) x) (sym noise-float) (holds-scaled 0 (noise a b i) (le_trans noise-le room) (lit≤ tt)))
