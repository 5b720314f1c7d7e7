-- "For every noise product behind a fit or gate, every set of its positions and every order of taking them, each once: its sum in f64 from plus zero is the exact sum;
-- for every two disjoint parts, whatever the order in each, the sum over both together, in any order, equals the two parts' sums added in f64. (At most 4,096×4,096 samples below 2^12.)"
use Rattle.std.specs.Prelude.{◌≡◌, List, map, ℕ, ◌*◌, ◌^◌, ◌≤◌, ◌<◌, get_or, Float}
use Rattle.laws.specs.Window.{Place}
use Rattle.laws.specs.FloatSums.{sum_f}
use Rattle.laws.specs.Law.{Limit, Positions, ExactSums}
use Rattle.noise.specs.Products.{Factor, noise_from, average, Exists, product_f, exactly, scale}

-- ---- the premise, for any limit
-- at most `limit` samples, each below `top`, in a plane and in its copy; past a list's end the sample is 0
pub record Samples (limit top : ℕ) (source denoised : List ℕ) (count : ℕ) : Type 0 where
  pub few : count ≤ limit
  pub low_source : (i : ℕ) → i < count → get_or source i 0 < top
  pub low_denoised : (i : ℕ) → i < count → get_or denoised i 0 < top

-- a factor is worked from such planes; a luma average, of a format that halves a direction once or not at all
abbrev pub Limited : ℕ → ℕ → Factor → Type 0
Limited limit top (noise_from plane dr dc) = Samples limit top plane.source plane.denoised (plane.width * plane.height)
Limited limit top (average luma) =
    Samples limit top luma.plane.source luma.plane.denoised (luma.plane.width * luma.plane.height)
    × (luma.sampling.across ≤ 1) × (luma.sampling.down ≤ 1)

-- no product is above top × top, and there are no more of them than samples
abbrev pub limit_of : ℕ → ℕ → Factor → Factor → Limit
limit_of limit top u v = record { scale = scale u v; count = limit; size = 2 ^ scale u v * (top * top) }

-- ---- the claim
-- "A product's positions are the places where all its factors exist."
abbrev pub Position : Factor → Factor → Place → Type 0
Position u v p = Exists u p × Exists v p

abbrev pub Exact : Factor → Factor → Type 0
Exact u v = ExactSums (scale u v) (Position u v) (product_f u v) (exactly u v)

-- "the sums of noise products that the calls make are cases of it": a sum adds a product over a set of its positions, and the claim holds of that product
pub record Case (u v : Factor) (places : List Place) (sum : Float) : Type 0 where
  pub positions : Positions (Position u v) places
  pub added : sum ≡ sum_f (map (product_f u v) places)
  pub exact : Exact u v
