-- "the average of the 1, 2 or 4 luma noises at the chroma place, the last row and column repeated, unrounded": `luma_at` of the Rust.
use Rattle.std.specs.Prelude.{List, ℕ, ◌+◌, ◌-◌, ◌*◌, ◌^◌, min, ℤ, pos, ◌*ℤ◌, Float}
use Rattle.std.specs.Float.{binary64}
use Rattle.std.specs.Float.Ieee.{add, div}
use Rattle.laws.specs.Constants.{one}
use Rattle.laws.specs.Loop.{loop}
use Rattle.laws.specs.Sums.{total, sum_to}
use Rattle.laws.specs.Scaled.{plus_zero}
use Rattle.frame.specs.declared.view.Sampling.{Sampling}
use Rattle.frame.specs.declared.view.Geometry.{Geometry}
use Rattle.noise.specs.Noise.{noise, noise_f, place, Pair}
use Rattle.noise.specs.Seen.{seen}

-- the luma of a frame and of its denoised copy, and what the format halves
pub record Luma : Type 0 where
  pub plane : Pair
  pub sampling : Sampling

-- as a geometry shows it
abbrev pub luma_seen : Geometry → List ℕ → List ℕ → Luma
luma_seen g source denoised = record { plane = seen g.luma source denoised; sampling = g.sampling }

-- the place of luma row i, column j of the chroma place (r, c)
abbrev pub luma_place : Luma → ℕ → ℕ → ℕ → ℕ → ℕ
luma_place l r c i j =
    place l.plane.width (min (r * 2 ^ l.sampling.down + i) (l.plane.height - 1)) (min (c * 2 ^ l.sampling.across + j) (l.plane.width - 1))

-- the luma rows and columns of a chroma place, each visited in order: `acc += ny[yy * w + xx]; cnt += 1.0;`
unfoldable pub visited : Luma → ℕ → ℕ → Float × Float
unfolding loop
visited l r c =
    loop 0 (l.sampling.down + 1)
    (λ i. loop 0 (l.sampling.across + 1)
    (λ j (s : Float × Float). (add binary64 s.0 (noise_f l.plane.source l.plane.denoised (luma_place l r c i j)), add binary64 s.1 one)))
    (plus_zero, plus_zero)

-- `acc / cnt`
unfoldable pub average_f : Luma → ℕ → ℕ → Float
unfolding visited
average_f l r c = let s = visited l r c in div binary64 s.0 s.1

-- exactly: four times the average
unfoldable pub quarters : Luma → ℕ → ℕ → ℤ
unfolding total
quarters l r c =
    sum_to (λ i. sum_to (λ j. noise l.plane.source l.plane.denoised (luma_place l r c i j)) (l.sampling.across + 1)) (l.sampling.down + 1)
    *ℤ pos (2 ^ (2 - (l.sampling.across + l.sampling.down)))
