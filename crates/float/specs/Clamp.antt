-- "`sqrt`, `round`, `abs`, `clamp`, `as` on NaN, `wrapping_mul`, `min`: helpers": `clamp`, Rust's `i32::clamp`.
use Rattle.std.specs.Prelude.{cond, ℤ, int_lt}

-- x held to low..high. Where low is above high, at which Rust panics, it is low for an x below low, and else high.
unfoldable pub clamp_of : ℤ → ℤ → ℤ → ℤ
clamp_of x low high = cond (int_lt x low) low (cond (int_lt high x) high x)
