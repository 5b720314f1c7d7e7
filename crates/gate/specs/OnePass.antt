-- The loop of `lag_h_rho` as the Rust has it: one pass over the plane adds to `e` and to `lagsum`. `energy_f` and `lag_f` give each a loop of its own; a theorem takes the pass apart.
use Rattle.std.specs.Prelude.{ℕ, ◌+◌, cond, nat_lt, Float}
use Rattle.std.specs.Float.{binary64}
use Rattle.std.specs.Float.Ieee.{add, mul}
use Rattle.laws.specs.Loop.{loop}
use Rattle.laws.specs.Scaled.{plus_zero}
use Rattle.noise.specs.Noise.{noise_f, place, Pair}

pub record Accumulators : Type 0 where
  pub e : Float
  pub lagsum : Float

-- `n[i]`
abbrev pub number_at : Pair → ℕ → Float
number_at p i = noise_f p.source p.denoised i

-- `e += n[r * w + c] * n[r * w + c]; if c + lag < w { lagsum += n[r * w + c] * n[r * w + c + lag]; }`
abbrev pub place_turn : Pair → ℕ → ℕ → ℕ → Accumulators → Accumulators
place_turn p lag r c s =
    let i = place p.width r c in
    record {
      e = add binary64 s.e (mul binary64 (number_at p i) (number_at p i));
      lagsum = cond (nat_lt (c + lag) p.width) (add binary64 s.lagsum (mul binary64 (number_at p i) (number_at p (i + lag)))) s.lagsum;
    }

-- `for r in 0..h { for c in 0..w { .. } }`, both from 0.0
abbrev pub one_pass : Pair → ℕ → Accumulators
one_pass p lag = loop 0 p.height (λ r. loop 0 p.width (place_turn p lag r)) (record { e = plus_zero; lagsum = plus_zero })
