-- "d is the noise shifted right arithmetically by depth−8": the noise first, then the shift, rounded down. The shift is depth − 8.
use Rattle.std.specs.Prelude.{List, ℕ, ℤ, nat_abs, ◌*ℤ◌}
use Rattle.noise.specs.Noise.{noise}
use Rattle.noise.specs.Shift.{shifted}

-- `let d = (i64::from(a) - i64::from(b)) >> shift;` at place i
abbrev pub shifted_noise : ℕ → List ℕ → List ℕ → ℕ → ℤ
shifted_noise shift source denoised i = shifted shift (noise source denoised i)

-- `(d * d) as u64`
abbrev pub square_of : ℤ → ℕ
square_of d = nat_abs (d *ℤ d)

abbrev pub square : ℕ → List ℕ → List ℕ → ℕ → ℕ
square shift source denoised i = square_of (shifted_noise shift source denoised i)
