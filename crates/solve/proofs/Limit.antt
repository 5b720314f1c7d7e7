-- A NaN pivot passes the limit. By computation. Assumes nothing.
use mathlib.Core.Path.{◌≡◌}
use Prim.Native.Nat.{ℕ}
use lib.Ieee.{nan, lt}
use Rattle.float.specs.Magnitude.{magnitude_of}
use Rattle.solve.specs.Elimination.{System, going, cell, cleared, tested}

pub nan-passes : (p i : ℕ) (s : System) → cell s.matrix i i ≡ nan → tested p i s ≡ going (cleared p i s)
unfolding tested lt magnitude_of
nan-passes p i s e = rw e
