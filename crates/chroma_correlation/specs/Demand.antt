-- "the sums of noise products that the calls make are cases of it": what that says of the chroma correlation.
use Rattle.std.specs.Prelude.{List}
use Rattle.laws.specs.Window.{Place, window}
use Rattle.noise.specs.Noise.{Pair}
use Rattle.noise.specs.Average.{Luma}
use Rattle.noise.specs.Products.{average, own}
use Rattle.noise.specs.Claim.{Case}
use Rattle.chroma_correlation.specs.Steps.{squares_f, products_f}

-- every place of a chroma plane
abbrev pub everywhere : Pair → List Place
everywhere chroma = window 0 chroma.height 0 chroma.width

-- of one component
pub record CorrCases (luma : Luma) (chroma : Pair) : Type 0 where
  pub squares : Case (average luma) (average luma) (everywhere chroma) (squares_f luma chroma)
  pub products : Case (average luma) (own chroma) (everywhere chroma) (products_f luma chroma)
