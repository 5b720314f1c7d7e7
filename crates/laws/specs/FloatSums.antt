-- "The f64 sum": from plus zero, one term after another, rounded at each.
use Rattle.std.specs.Prelude.{List, Float}
use Rattle.std.specs.Float.{binary64}
use Rattle.std.specs.Float.Ieee.{add}
use Rattle.laws.specs.Loop.{visit}
use Rattle.laws.specs.Scaled.{plus_zero}

-- `s = 0.0; for x in xs { s = s + x; }`
unfoldable pub sum_f : List Float → Float
unfolding visit
sum_f xs = visit (λ x s. add binary64 s x) xs plus_zero
