-- "In a fit: of the sample's noise, its neighbours' noises and, for chroma, the luma average, any two multiplied or any one squared.
-- In a gate: the two frames' noises at one place, or one squared, or, for row correlation, a noise and the one `lag` columns on."
use Rattle.std.specs.Prelude.{ℕ, ◌<◌, ℤ, pos, nat_abs, ◌+ℤ◌, ◌*ℤ◌, ◌≤ℤ◌, ◌<ℤ◌, Float}
use Rattle.std.specs.Float.{binary64}
use Rattle.std.specs.Float.Ieee.{mul}
use Rattle.laws.specs.Window.{Place}
use Rattle.frame.specs.Size.{sampled}
use Rattle.noise.specs.Noise.{noise, noise_f, place, Pair}
use Rattle.noise.specs.Average.{Luma, average_f, quarters}

-- what is multiplied, seen from a place: the noise of a plane some rows down and columns on from there, or the luma average of a chroma place
pub data Factor : Type 0 where
  noise_from : Pair → ℤ → ℤ → Factor
  average : Luma → Factor

-- the sample's own noise, and the one `lag` columns on; a neighbour's is `noise_from plane dr dc`
abbrev pub own : Pair → Factor
own plane = noise_from plane (pos 0) (pos 0)

abbrev pub onward : Pair → ℕ → Factor
onward plane lag = noise_from plane (pos 0) (pos lag)

-- ---- "A product's positions are the places where all its factors exist."
-- z is the number of one of n rows or columns
abbrev pub Inside : ℕ → ℤ → Type 0
Inside n z = (pos 0 ≤ℤ z) × (z <ℤ pos n)

abbrev pub Exists : Factor → Place → Type 0
Exists (noise_from plane dr dc) (r, c) = Inside plane.height (pos r +ℤ dr) × Inside plane.width (pos c +ℤ dc)
Exists (average luma) (r, c) = (r < sampled luma.sampling.down luma.plane.height) × (c < sampled luma.sampling.across luma.plane.width)

-- ---- the product in f64, each factor worked as the Rust does
-- the sample that a factor reaches from a place; `nat_abs` reads the row and the column as numbers, which neither is negative where the factor exists
abbrev pub reached : Pair → ℤ → ℤ → Place → ℕ
reached plane dr dc (r, c) = place plane.width (nat_abs (pos r +ℤ dr)) (nat_abs (pos c +ℤ dc))

abbrev pub float_at : Factor → Place → Float
float_at (noise_from plane dr dc) p = noise_f plane.source plane.denoised (reached plane dr dc p)
float_at (average luma) (r, c) = average_f luma r c

abbrev pub product_f : Factor → Factor → Place → Float
product_f u v p = mul binary64 (float_at u p) (float_at v p)

-- ---- "The exact sum adds the same products as whole numbers, or in sixteenths with luma averages."
abbrev pub whole : Pair → ℤ → ℤ → Place → ℤ
whole plane dr dc p = noise plane.source plane.denoised (reached plane dr dc p)

-- a noise times quarters is in quarters: four sixteenths each
abbrev pub exactly : Factor → Factor → Place → ℤ
exactly (noise_from a dr dc) (noise_from b er ec) p = whole a dr dc p *ℤ whole b er ec p
exactly (noise_from a dr dc) (average m) (r, c) = whole a dr dc (r, c) *ℤ quarters m r c *ℤ pos 4
exactly (average l) (noise_from b er ec) (r, c) = quarters l r c *ℤ whole b er ec (r, c) *ℤ pos 4
exactly (average l) (average m) (r, c) = quarters l r c *ℤ quarters m r c

-- the parts it is counted in: 2 ^ scale of them make one
abbrev pub scale : Factor → Factor → ℕ
scale (noise_from a dr dc) (noise_from b er ec) = 0
scale (noise_from a dr dc) (average m) = 4
scale (average l) (noise_from b er ec) = 4
scale (average l) (average m) = 4
