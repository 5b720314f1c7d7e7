-- "Chroma has one coefficient more, for the luma tap": the sums of a row's noise and its luma averages, row after row.
use Rattle.std.specs.Prelude.{◌≡◌, List, ℕ, ◌+◌, ◌-◌, ◌*◌, ◌^◌, ◌<◌, ℤ, nat_abs, ◌+ℤ◌, length}
use Rattle.laws.specs.Table.{tabulate}
use Rattle.frame.specs.declared.view.View.{View}
use Rattle.frame.specs.declared.view.Geometry.{Geometry}
use Rattle.noise.specs.Lines.{at, AtMost}
use Rattle.noise.specs.PlanePair.{noise_in}
use Rattle.noise.specs.declared.plane_pair.PlanePair.{PlanePair}
use Rattle.noise.specs.Average.{Luma, quarters}
use Rattle.positions.specs.Counts.{side, factors}
use Rattle.normal.specs.Normal.{Picture}
use Rattle.normal.specs.Starts.{start_sum, average_limit, by_blocks}

-- ---- one row, y + lag: its luma averages q, from column lag on, with the rows y to y + lag of a picture w wide
-- with neighbour c of row y + u
abbrev pub tap_of : Picture → (ℕ → ℤ) → ℕ → ℕ → ℕ → ℕ → ℕ → ℤ
tap_of f q w lag y u c = start_sum (f (y + u)) q (w - 2 * lag) c lag

-- with neighbour i
abbrev pub row_tap : Picture → (ℕ → ℤ) → ℕ → ℕ → ℕ → ℕ → ℤ
row_tap f q w lag y = by_blocks (side lag) (tap_of f q w lag y)

-- added to the sums of the rows before
abbrev pub plus_taps : Picture → (ℕ → ℤ) → ℕ → ℕ → ℕ → List ℤ → List ℤ
plus_taps f q w lag y taps = tabulate (factors lag) (λ i. at taps i +ℤ row_tap f q w lag y i)

-- a view with row y + lag, the averages of that row, and room for a sum for each neighbour
pub record TapRow (v : View) (y lag : ℕ) (averages : List ℤ) (row : ℕ) : Type 0 where
  pub inside : y + lag < v.height
  pub averages-length : length averages ≡ v.width
  pub averages-small : AtMost average_limit averages
  pub row-length : row ≡ factors lag

-- the sums of the rows before, to which an i64 can add this row's
pub record TapAdd (p : PlanePair) (y lag : ℕ) (averages taps : List ℤ) : Type 0 where
  pub tap-row : TapRow p.view y lag averages (length taps)
  pub small : (i : ℕ) → i < factors lag → nat_abs (at taps i +ℤ row_tap (noise_in p) (at averages) p.view.width lag y i) < 2 ^ 63

-- ---- the averages of chroma row r, and n of their squares
pub record AverageRoom (g : Geometry) (r averages : ℕ) : Type 0 where
  pub row : r < g.chroma.height
  pub averages-length : averages ≡ g.chroma.width

pub record AverageSquares (l : Luma) (w r n lag : ℕ) (squares : ℤ) (averages : List ℤ) : Type 0 where
  pub squares-are : squares ≡ start_sum (quarters l r) (quarters l r) n lag lag
  pub averages-are : averages ≡ tabulate w (quarters l r)
