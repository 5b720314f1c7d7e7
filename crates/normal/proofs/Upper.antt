-- The upper line that is given, or the lower one in its place. Assumes nothing.
use Rattle.std.proofs.Common.{◌≡◌, refl, true, List, ℤ, Option, Some, None, is_none, unwrap_or, Bor}
use mathlib.Core.Bool.{false≢true}
use Rattle.normal.specs.Starts.{upper}

pub upper-is : (up : Option (Bor (List ℤ))) (lo : Bor (List ℤ)) → (unwrap_or up lo).now ≡ upper up lo.now
upper-is None lo = refl
upper-is (Some l) lo = refl

pub upper-alone : (up : Option (Bor (List ℤ))) (lo : List ℤ) → is_none up ≡ true → upper up lo ≡ lo
upper-alone None lo e = refl
upper-alone (Some l) lo e = absurd (false≢true e)
