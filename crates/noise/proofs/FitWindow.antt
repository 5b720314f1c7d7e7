-- Every place of a fit's window is a position of each of the fit's products, so that its sums are exact; with one luma average they are whole numbers of quarters. Assumes nothing.
use mathlib.Core.Path.{◌≡◌, sym, ap, ◌∙◌, subst}
use mathlib.Core.Bool.{Bool, cond}
use Prim.Native.Nat.{ℕ, zero, suc, ◌+◌, ◌-◌, ◌<◌, ◌≤◌, zero-le}
use native.Mathlib.Omega.{arith}
use lib.Dec.{leb→le, le→leb, lt→ltb}
use lib.IntN.{ℤ, pos, negsuc, neg_ℤ, ◌+ℤ◌, ◌*ℤ◌}
use lib.Signed.{◌≤ℤ◌, le_z_yes, lt_z_yes}
use borrow.Author.Tests.{le-ltb}
use Rattle.laws.specs.Sums.{sum_to, span}
use Rattle.laws.specs.Scaled.{of_scaled}
use Rattle.laws.specs.Window.{window}
use Rattle.laws.specs.Law.{Held, Positions}
use Rattle.laws.proofs.Sums.{sum-factor-right}
use Rattle.laws.proofs.Scaled.{scaled-finer}
use Rattle.noise.specs.Noise.{noise, Pair, noise_of}
use Rattle.noise.specs.Average.{Luma, quarters}
use Rattle.noise.specs.Seen.{sum_over}
use Rattle.noise.specs.Products.{Factor, average, own, Inside, Exists, whole, exactly, scale}
use Rattle.noise.specs.Claim.{Limited, limit_of, Position}
use Rattle.noise.specs.Steps.{InFit, near, tap, window_f}
use Rattle.noise.proofs.Steps.{window-positions, window-sum, rows-sum, own-place, inside_on}

-- k rows or columns back
inside_back : (n r k : ℕ) → k < r → r < n → Inside n (pos r +ℤ negsuc k)
inside_back n r k h l =
    subst (λ (b : Bool). Inside n (cond b (negsuc (suc k - suc r)) (pos (r - suc k)))) (sym (le-ltb r (suc k) h))
    (le_z_yes (le→leb 0 (r - suc k) zero-le), lt_z_yes (lt→ltb (r - suc k) n (omega arith)))

-- from `lag` back to `ahead` on
inside-near : (n lag ahead r : ℕ) (z : ℤ) → neg_ℤ (pos lag) ≤ℤ z → z ≤ℤ pos ahead → lag ≤ r → r + ahead < n → Inside n (pos r +ℤ z)
inside-near n lag ahead r (pos k) h l m b = let q = leb→le k ahead l.le in inside_on n r k (omega arith)
inside-near n zero ahead r (negsuc k) h l m b = absurd h.le
inside-near n (suc lag) ahead r (negsuc k) h l m b = let q = leb→le k lag h.le in inside_back n r k (omega arith) (omega arith)

fit-exists : (plane : Pair) (lag : ℕ) (u : Factor) → InFit plane lag u → (y x : ℕ) → lag ≤ y → y < plane.height → lag ≤ x → x < plane.width - lag → Exists u (y, x)
fit-exists plane lag u (near dr dc a b c d) y x h k l m =
    (inside-near plane.height lag 0 y dr a b h (omega arith), inside-near plane.width lag lag x dc c d l (omega arith))
fit-exists plane lag u (tap luma over) y x h k l m = over y x k (omega arith)

-- the window is a set of positions of any two of the factors
pub fit-positions : (plane : Pair) (lag : ℕ) (u v : Factor) → InFit plane lag u → InFit plane lag v → Positions (Position u v) (window lag plane.height lag (plane.width - lag))
fit-positions plane lag u v a b =
    window-positions u v lag plane.height lag (plane.width - lag) (λ y x h k l m. (fit-exists plane lag u a y x h k l m, fit-exists plane lag v b y x h k l m))

-- the sample's own noise
pub own-near : (plane : Pair) (lag : ℕ) → InFit plane lag (own plane)
own-near plane zero = near (pos 0) (pos 0) (le_z_yes tt) (le_z_yes tt) (le_z_yes tt) (le_z_yes tt)
own-near plane (suc lag) = near (pos 0) (pos 0) (le_z_yes tt) (le_z_yes tt) (le_z_yes tt) (le_z_yes (le→leb 0 (suc lag) zero-le))

module _ (limit top : ℕ) (plane : Pair) (u v : Factor) (H : Held (limit_of limit top u v)) (S : Limited limit top u) (T : Limited limit top v) where
  pub fit-sum : (lag : ℕ) → InFit plane lag u → InFit plane lag v
      → window_f u v lag plane.height lag (plane.width - lag) ≡ of_scaled (scale u v) (span (λ y. span (λ x. exactly u v (y, x)) lag (plane.width - lag - lag)) lag (plane.height - lag))
  fit-sum lag a b =
      window-sum limit top u v H S T lag plane.height lag (plane.width - lag)
      (λ y x h k l m. (fit-exists plane lag u a y x h k l m, fit-exists plane lag v b y x h k l m))

  -- the chroma correlation: lag 0, every place of the plane
  pub whole_sum : InFit plane 0 u → InFit plane 0 v
      → window_f u v 0 plane.height 0 plane.width ≡ of_scaled (scale u v) (sum_to (λ y. sum_to (λ x. exactly u v (y, x)) plane.width) plane.height)
  whole_sum a b =
      rows-sum limit top u v H S T plane.height plane.width
      (λ y x h k l m. (fit-exists plane 0 u a y x h k l (omega arith), fit-exists plane 0 v b y x h k l (omega arith)))

-- with one luma average the sum in sixteenths is four for each quarter
pub in-quarters : (g : ℕ → ℕ → ℤ) (h w : ℕ) → of_scaled 4 (sum_to (λ y. sum_to (λ x. g y x *ℤ pos 4) w) h) ≡ of_scaled 2 (sum_to (λ y. sum_to (g y) w) h)
in-quarters g h w =
    ap (of_scaled 4) ((λ i. sum_to (λ y. sum-factor-right (g y) (pos 4) w i) h) ∙ sum-factor-right (λ y. sum_to (g y) w) (pos 4) h)
    ∙ scaled-finer 2 2 (sum_to (λ y. sum_to (g y) w) h)

-- ---- the two sums of the chroma correlation
module _ (limit top : ℕ) (luma : Luma) (chroma : Pair) (over : InFit chroma 0 (average luma)) (H : Held (limit_of limit top (average luma) (average luma))) (S : Limited limit top (average luma)) where
  pub squares-sum : window_f (average luma) (average luma) 0 chroma.height 0 chroma.width ≡ of_scaled 4 (sum_over chroma.height chroma.width (λ r c. quarters luma r c *ℤ quarters luma r c))
  squares-sum = whole_sum limit top chroma (average luma) (average luma) H S S over over

  pub products-sum : Limited limit top (own chroma)
      → window_f (average luma) (own chroma) 0 chroma.height 0 chroma.width ≡ of_scaled 2 (sum_over chroma.height chroma.width (λ r c. quarters luma r c *ℤ noise_of chroma r c))
  products-sum T =
      whole_sum limit top chroma (average luma) (own chroma) H S T over (own-near chroma 0)
      ∙ in-quarters (λ r c. quarters luma r c *ℤ whole chroma (pos 0) (pos 0) (r, c)) chroma.height chroma.width
      ∙ ap (of_scaled 2) (λ i. sum_over chroma.height chroma.width (λ r c. quarters luma r c *ℤ noise chroma.source chroma.denoised (own-place chroma r c i)))
