-- How much room the sums take at lags up to 3, and zeros to begin with. Assumes nothing.
use mathlib.Core.Path.{◌≡◌}
use mathlib.Core.List.{List}
use Prim.Native.Nat.{ℕ, ◌+◌, ◌*◌, ◌≤◌, ◌<◌}
use native.Mathlib.Nat.{mul-le-mul}
use native.Mathlib.Omega.{arith}
use lib.IntN.{ℤ, pos}
use lib.ListN.{length}
use Rattle.noise.specs.Lines.{at}
use Rattle.positions.specs.Counts.{side}
use Rattle.normal.specs.Layout.{sums_size}

-- ---- at lags up to 3
module _ {lag : ℕ} (h : lag ≤ 3) where
  starts-le : lag + 1 ≤ 4
  starts-le = omega arith

  side-le : side lag ≤ 7
  side-le = omega arith

  pub starts-few : (lag + 1) * (lag + 1) ≤ 16
  starts-few = mul-le-mul starts-le starts-le

  pub sides-few : side lag * side lag ≤ 49
  sides-few = mul-le-mul side-le side-le

  pub sums-few : sums_size lag ≤ 784
  sums-few = mul-le-mul starts-few sides-few

-- a list of zeros
pub record Zeros (n : ℕ) (l : List ℤ) : Type 0 where
  pub size : length l ≡ n
  pub zero : (i : ℕ) → i < n → at l i ≡ pos 0
