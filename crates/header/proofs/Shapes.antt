-- Rows as the code has them: the limits of update_grain, and a list of rows taken together. Assumes nothing.
use mathlib.Core.Path.{◌≡◌, refl}
use mathlib.Core.Bool.{Bool, true, false, not, ◌&&◌, and_assoc}
use Prim.Native.Nat.{◌+◌, ◌-◌, ◌^◌}
use mir.Val.{bool_byte}
use Rattle.header.specs.Row.{bit}

-- a flag as the library turns it into a number
pub flag-bit : (b : Bool) → bool_byte b ≡ bit b
flag-bit true = refl
flag-bit false = refl

-- with a bit or without, update_grain is at most 1
pub update-most : (inter : Bool) → bit (not inter) + (2 ^ bit inter - 1) ≡ 1
update-most true = refl
update-most false = refl

-- three answers and the rest
pub three-then : (a b c r : Bool) → ((a && (b && c)) && r) ≡ (a && (b && (c && r)))
three-then a b c r = rw (and_assoc a (b && c) r, and_assoc b c r)
