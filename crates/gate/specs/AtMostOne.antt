-- "The answer .. lies from −1 to 1."
use Rattle.std.specs.Prelude.{◌≡◌, true, Float}
use Rattle.std.specs.Float.Ieee.{le}
use Rattle.laws.specs.Constants.{one, minus_one}

pub record AtMostOne (x : Float) : Type 0 where
  pub least : le minus_one x ≡ true
  pub most : le x one ≡ true
