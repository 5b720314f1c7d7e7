-- "`sqrt`, `round`, `abs`, `clamp`, `as` on NaN, `wrapping_mul`, `min`: helpers": `abs`, Rust's `f64::abs`.
use Rattle.std.specs.Prelude.{false, Float}
use Rattle.std.specs.Float.{nan, inf, fin}

-- the sign is cleared; a NaN stays one
unfoldable pub magnitude_of : Float → Float
magnitude_of nan = nan
magnitude_of (inf s) = inf false
magnitude_of (fin s m e) = fin false m e
