-- "Exact values are put over whole numbers: a finite f64 is a whole number times a power of two." Whole numbers of 2 ^ k-ths, as f64 values.
use Rattle.std.specs.Prelude.{◌≡◌, Bool, true, false, not, ℕ, ◌^◌, ℤ, pos, neg_ℤ, nat_abs, Float}
use Rattle.std.specs.Int.Signed.{non_neg}
use Rattle.std.specs.Float.{binary64}
use Rattle.std.specs.Float.Ieee.{round, of_bits}
use Rattle.std.specs.Float.Ieee.Exact.{HasValue}

-- 0.0 and -0.0
abbrev pub plus_zero : Float
plus_zero = of_bits binary64 0x0

abbrev pub minus_zero : Float
minus_zero = of_bits binary64 0x8000_0000_0000_0000

-- the f64 value nearest to z / 2 ^ k: plus zero for 0, and at k = 0 what `z as f64` is
unfoldable pub of_scaled : ℕ → ℤ → Float
of_scaled k z = round binary64 (not (non_neg z)) (nat_abs z) (2 ^ k)

-- n with a sign
abbrev pub signed : Bool → ℕ → ℤ
signed false n = pos n
signed true n = neg_ℤ (pos n)

-- x is finite and is exactly z / 2 ^ k: where z is 0, x is plus zero or minus zero
pub record Holds (k : ℕ) (z : ℤ) (x : Float) : Type 0 where
  pub sign : Bool
  pub size : ℕ
  pub whole : signed sign size ≡ z
  pub value : HasValue x sign size (2 ^ k)
