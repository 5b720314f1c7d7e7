-- "the sums of noise products that the calls make are cases of it": what that says of a gate and of the row correlation.
use Rattle.std.specs.Prelude.{ℕ, ◌-◌, List}
use Rattle.laws.specs.Window.{Place, window}
use Rattle.noise.specs.Noise.{Pair}
use Rattle.noise.specs.Products.{own, onward}
use Rattle.noise.specs.Claim.{Case}
use Rattle.noise.specs.Steps.{window_f, dot_f, lag_f}
use Rattle.gate.specs.RowCorrelation.{energy_f}

-- every place of a plane; without its last columns
abbrev pub everywhere : Pair → List Place
everywhere p = window 0 p.height 0 p.width

abbrev pub before : Pair → ℕ → List Place
before p lag = window 0 p.height 0 (p.width - lag)

-- of the row correlation: Σ n² and Σ n(r, c) × n(r, c + lag)
pub record RowCases (p : Pair) (lag : ℕ) : Type 0 where
  pub energy : Case (own p) (own p) (everywhere p) (energy_f p)
  pub lagged : Case (own p) (onward p lag) (before p lag) (lag_f p lag)

-- of two frames' planes: Σ n₀², Σ n₁² and Σ n₀ × n₁
pub record PairCases (p q : Pair) : Type 0 where
  pub first : Case (own p) (own p) (everywhere p) (dot_f p p)
  pub second : Case (own q) (own q) (everywhere q) (dot_f q q)
  pub cross : Case (own p) (own q) (everywhere p) (dot_f p q)

-- of the luma gate: `lag / e0` has a loop of its own
pub record LumaCases (p q : Pair) : Type 0 where
  pub planes : PairCases p q
  pub row : Case (own p) (onward p 1) (before p 1) (window_f (own p) (onward p 1) 0 p.height 0 (p.width - 1))

pub record ChromaCases (p q : Pair) : Type 0 where
  pub planes : PairCases p q
  pub row : RowCases p 1
