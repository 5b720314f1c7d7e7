-- Where a factor exists its samples lie in their plane, so that in f64 it is exactly its whole number of ones or quarters. Assumes nothing.
use mathlib.Core.Path.{◌≡◌, subst}
use Prim.Native.Nat.{ℕ, ◌*◌, ◌^◌, ◌<◌, ◌≤◌}
use native.Mathlib.Nat.{one-mul, mul_comm}
use lib.Arith.{digits_lt}
use lib.Dec.{ltb→lt}
use lib.IntN.{ℤ, pos, negsuc, nat_abs, ◌+ℤ◌}
use Rattle.laws.specs.Window.{Place}
use Rattle.laws.specs.Scaled.{Holds}
use Rattle.noise.specs.Noise.{place, Pair}
use Rattle.noise.specs.Average.{Luma, luma_place, quarters}
use Rattle.noise.specs.Products.{Factor, noise_from, average, Inside, Exists, reached, float_at, whole}
use Rattle.noise.specs.Claim.{Limited}
use Rattle.noise.proofs.FloatNoise.{noise-exact}
use Rattle.noise.proofs.FloatAverage.{average-exact}
use Rattle.noise.proofs.Halving.{Bit, bit, held_in, some}

-- ---- in the plane
place-lt : (w h r c : ℕ) → r < h → c < w → place w r c < w * h
place-lt w h r c k l = subst (λ (n : ℕ). place w r c < n) (mul_comm h w) (digits_lt k l)

pub inside-lt : (n : ℕ) (z : ℤ) → Inside n z → nat_abs z < n
inside-lt n (pos m) h = ltb→lt m n h.1.lt
inside-lt n (negsuc m) h = absurd h.0.le

reached-lt : (plane : Pair) (dr dc : ℤ) (p : Place) → Exists (noise_from plane dr dc) p → reached plane dr dc p < plane.width * plane.height
reached-lt plane dr dc p h =
    place-lt plane.width plane.height (nat_abs (pos p.0 +ℤ dr)) (nat_abs (pos p.1 +ℤ dc))
    (inside-lt plane.height (pos p.0 +ℤ dr) h.0) (inside-lt plane.width (pos p.1 +ℤ dc) h.1)

-- an empty plane has no chroma, and in any other the last row and column hold every place
luma-lt : (luma : Luma) → Bit luma.sampling.across → Bit luma.sampling.down → (p : Place) → Exists (average luma) p
    → (i j : ℕ) → luma_place luma p.0 p.1 i j < luma.plane.width * luma.plane.height
luma-lt luma x y p h i j =
    place-lt luma.plane.width luma.plane.height _ _
    (held_in luma.plane.height _ (some luma.sampling.down luma.plane.height p.0 y h.0))
    (held_in luma.plane.width _ (some luma.sampling.across luma.plane.width p.1 x h.1))

-- ---- in f64: a noise is a whole number of ones, an average one of quarters
abbrev pub fine : Factor → ℕ
fine (noise_from plane dr dc) = 0
fine (average luma) = 2

abbrev pub parts : Factor → Place → ℤ
parts (noise_from plane dr dc) p = whole plane dr dc p
parts (average luma) p = quarters luma p.0 p.1

pub factor-exact : (limit top : ℕ) (u : Factor) (p : Place) → Limited limit top u → Exists u p → 2 ^ fine u * top ≤ 2 ^ 53
    → (nat_abs (parts u p) ≤ 2 ^ fine u * top) × Holds (fine u) (parts u p) (float_at u p)
factor-exact limit top (noise_from plane dr dc) p S e room =
    let q : 1 * top ≡ top = one-mul top in
    rw q (noise-exact plane.source plane.denoised (reached plane dr dc p) top
    (S.low_source (reached plane dr dc p) (reached-lt plane dr dc p e)) (S.low_denoised (reached plane dr dc p) (reached-lt plane dr dc p e)) (rw q at room))
factor-exact limit top (average luma) p S e room =
    let x = bit luma.sampling.across S.1 in
    let y = bit luma.sampling.down S.2 in
    average-exact luma x y p.0 p.1 top room
    (λ i j. S.0.low_source (luma_place luma p.0 p.1 i j) (luma-lt luma x y p e i j))
    (λ i j. S.0.low_denoised (luma_place luma p.0 p.1 i j) (luma-lt luma x y p e i j))
