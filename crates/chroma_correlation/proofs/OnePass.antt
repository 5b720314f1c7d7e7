-- The two sums of the Rust's one pass are those of the definitions: neither reads the other. Assumes nothing.
use Rattle.std.proofs.Common.{◌≡◌}
use lib.Ieee.{binary64, add}
use Rattle.laws.specs.Scaled.{plus_zero}
use Rattle.laws.proofs.Accumulators.{loops-pair}
use Rattle.noise.specs.Average.{Luma}
use Rattle.noise.specs.Noise.{Pair}
use Rattle.noise.specs.Products.{own, average, product_f}
use Rattle.noise.specs.Steps.{window_f}
use Rattle.chroma_correlation.specs.Steps.{squares_f, products_f, one_pass}

pub pass-sums : (luma : Luma) (chroma : Pair) → one_pass luma chroma ≡ (squares_f luma chroma, products_f luma chroma)
unfolding squares_f products_f window_f
pass-sums luma chroma =
    loops-pair
    (λ y x s. add binary64 s (product_f (average luma) (average luma) (y, x)))
    (λ y x s. add binary64 s (product_f (average luma) (own chroma) (y, x)))
    0 chroma.height 0 chroma.width (plus_zero, plus_zero)
