-- "the sums of noise products that the calls make are cases of it": these sums as the Rust adds them, in its order, each by a loop of its own. It starts them at 0.0, but for `dot`.
use Rattle.std.specs.Prelude.{cond, ℕ, ◌+◌, ◌*◌, ◌<◌, ltb, ℤ, pos, neg_ℤ, ◌≤ℤ◌, Float}
use Rattle.std.specs.Float.{binary64}
use Rattle.std.specs.Float.Ieee.{add, mul}
use Rattle.laws.specs.Loop.{loop}
use Rattle.laws.specs.Scaled.{plus_zero}
use Rattle.noise.specs.Noise.{noise_f, place, Pair}
use Rattle.noise.specs.Average.{Luma}
use Rattle.noise.specs.Products.{Factor, noise_from, average, Exists, product_f}

-- the fits, the chroma correlation, the energy in `lag_h_rho`, the row correlation in `film_grain_probe`: `for y in a..b { for x in c..d { sum += u * v; } }`
unfoldable pub window_f : Factor → Factor → ℕ → ℕ → ℕ → ℕ → Float
unfolding loop
window_f u v a b c d = loop a b (λ y. loop c d (λ x s. add binary64 s (product_f u v (y, x)))) plus_zero

-- the factors of a fit, over rows lag..h and columns lag..w - lag: the noises up to `lag` rows above and `lag` columns to either side, the sample's own among them, and for chroma the luma average, which is there at every place of the plane
pub data InFit (plane : Pair) (lag : ℕ) : Factor → Type 0 where
  near : (dr dc : ℤ) → neg_ℤ (pos lag) ≤ℤ dr → dr ≤ℤ pos 0 → neg_ℤ (pos lag) ≤ℤ dc → dc ≤ℤ pos lag → InFit plane lag (noise_from plane dr dc)
  tap : (luma : Luma) → ((r c : ℕ) → r < plane.height → c < plane.width → Exists (average luma) (r, c)) → InFit plane lag (average luma)

-- the gates: `dot` of two noise vectors, `a.iter().zip(b).map(|(x, y)| x * y).sum()`, from where the sum starts
abbrev pub dot_from : Float → Pair → Pair → Float
dot_from start a b =
    loop 0 (a.width * a.height)
    (λ i s. add binary64 s (mul binary64 (noise_f a.source a.denoised i) (noise_f b.source b.denoised i)))
    start

-- "from plus zero"; the Rust's `sum()` starts at -0.0, from which both gates find the same
unfoldable pub dot_f : Pair → Pair → Float
unfolding loop
dot_f a b = dot_from plus_zero a b

-- the row correlation in `lag_h_rho`: `for r in 0..h { for c in 0..w { if c + lag < w { lagsum += n[r * w + c] * n[r * w + c + lag]; } } }`
unfoldable pub lag_f : Pair → ℕ → Float
unfolding loop
lag_f p lag =
    loop 0 p.height
    (λ r. loop 0 p.width (λ c s. cond (ltb (c + lag) p.width)
    (add binary64 s (mul binary64 (noise_f p.source p.denoised (place p.width r c)) (noise_f p.source p.denoised (place p.width r c + lag))))
    s))
    plus_zero
