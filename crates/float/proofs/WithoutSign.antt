-- Rust's `abs` clears the sign too.
use Rattle.std.proofs.Common.{◌≡◌, false, refl}
use Rattle.std.specs.Float.{Float, nan, inf, fin, float_with_sign}
use Rattle.float.specs.Magnitude.{magnitude_of}

pub without_sign : (x : Float) → float_with_sign false x ≡ magnitude_of x
unfolding float_with_sign magnitude_of
without_sign nan = refl
without_sign (inf s) = refl
without_sign (fin s m e) = refl
