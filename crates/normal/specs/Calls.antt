-- "Is a fit's lag at most 3?" and "w ≤ 2×lag, h ≤ lag": the planes that sums over a window are worked out from, and what the sums are.
use Rattle.std.specs.Prelude.{◌≡◌, List, ℕ, ◌*◌, ◌≤◌, ◌<◌, ℤ, length}
use Rattle.laws.specs.Table.{tabulate}
use Rattle.noise.specs.Noise.{Pair, noise_of}
use Rattle.noise.specs.Average.{Luma, quarters}
use Rattle.positions.specs.Counts.{factors}
use Rattle.normal.specs.Normal.{entry, tap_entry, tap_square}
use Rattle.normal.specs.Layout.{sums_size, sum_at}

-- a plane of h rows and w columns that holds a window
pub record Window (w h lag : ℕ) : Type 0 where
  pub few : lag ≤ 3
  pub columns : 2 * lag ≤ w
  pub rows : lag ≤ h

-- the sum for every two neighbours, the sample among them, at its place
pub record NeighbourSums (p : Pair) (lag : ℕ) (sums : List ℤ) : Type 0 where
  pub size : length sums ≡ sums_size lag
  pub entries : (i j : ℕ) → i < factors lag → j < factors lag → sum_at sums lag i j ≡ entry (noise_of p) p.width p.height lag i j

-- the sums with the luma tap: its squares, in sixteenths, and each neighbour × tap for both components, in quarters
pub record TapSums (l : Luma) (cb cr : Pair) (lag : ℕ) (squares : ℤ) (cb-taps cr-taps : List ℤ) : Type 0 where
  pub squares-are : squares ≡ tap_square (quarters l) cb.width cb.height lag
  pub cb-are : cb-taps ≡ tabulate (factors lag) (tap_entry (noise_of cb) (quarters l) cb.width cb.height lag)
  pub cr-are : cr-taps ≡ tabulate (factors lag) (tap_entry (noise_of cr) (quarters l) cr.width cr.height lag)
