-- "d is the noise shifted right arithmetically by depth−8".
use Rattle.std.specs.Prelude.{ℕ, ◌^◌, ℤ}
use Rattle.std.specs.Int.Signed.{shr_z}

abbrev pub shifted : ℕ → ℤ → ℤ
shifted shift z = shr_z z (2 ^ shift)
