-- The Rust's steps of `quant_ar`, `((c * 64.0).round() as i32).clamp(-128, 127)`, and of the closure `sigma16` in `noise_estimate`.
use Rattle.std.specs.Prelude.{ℕ, cond, ℤ, pos, neg_ℤ, ◌==◌, Float}
use Rattle.std.specs.Float.{binary64}
use Rattle.std.specs.Float.Ieee.{mul, div, of_int, to_signed, to_unsigned}
use Rattle.laws.specs.Constants.{sixteen, sixty_four}
use Rattle.float.specs.Clamp.{clamp_of}
use Rattle.float.specs.Round.{round_half_away}
use Rattle.float.specs.Root.{root}

-- `(c * 64.0).round() as i32`
abbrev pub rounded64 : Float → ℤ
rounded64 c = to_signed 31 (round_half_away (mul binary64 c sixty_four))

unfoldable pub quant_ar : Float → ℤ
unfolding clamp_of round_half_away
quant_ar c = clamp_of (rounded64 c) (neg_ℤ (pos 128)) (pos 127)

-- `(sq as f64 / count as f64).sqrt() * 16.0`
unfoldable pub deviation16 : ℕ → ℕ → Float
unfolding root
deviation16 sq count = mul binary64 (root (div binary64 (of_int binary64 (pos sq)) (of_int binary64 (pos count)))) sixteen

-- `if count == 0 { return 0; } ((sq as f64 / count as f64).sqrt() * 16.0).round() as u64`
unfoldable pub sigma16_of : ℕ → ℕ → ℕ
unfolding deviation16 round_half_away
sigma16_of sq count = cond (count == 0) 0 (to_unsigned 64 (round_half_away (deviation16 sq count)))
