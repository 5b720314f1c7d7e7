-- How many neighbours a sample has: rows of them, and at most 24 at lags up to 3. Assumes nothing.
use mathlib.Core.Path.{◌≡◌}
use Prim.Native.Nat.{ℕ, ◌+◌, ◌*◌, ◌≤◌}
use native.Mathlib.Nat.{mul-add, mul_comm, mul-le-mul}
use native.Mathlib.Omega.{arith}
use Rattle.positions.specs.Counts.{side, neighbours, factors}

-- all neighbours, with the sample, lie in lag + 1 rows of the square: whole rows, and those up to the sample in its own
pub factors-le : (lag : ℕ) → factors lag ≤ (lag + 1) * side lag
factors-le lag = omega (arith, mul-add (lag + 1) (2 * lag) 1, mul_comm (2 * lag) (lag + 1))

pub factors-rows : (lag : ℕ) → factors lag ≡ lag * side lag + (lag + 1)
factors-rows lag = omega (arith, mul-add lag (2 * lag) 1, mul-add (2 * lag) lag 1, mul_comm lag (2 * lag))

pub neighbours-le : {lag : ℕ} → lag ≤ 3 → neighbours lag ≤ 24
neighbours-le {lag} h = mul-le-mul double rows
  where
    double : 2 * lag ≤ 6
    double = omega arith

    rows : lag + 1 ≤ 4
    rows = omega arith
