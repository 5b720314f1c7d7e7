-- "any two multiplied or any one squared": where the sum for every two neighbours stands. Two neighbours that lie equally far apart, from equally far above the sample, share a block of sums.
use Rattle.std.specs.Prelude.{List, ℕ, ◌+◌, ◌-◌, ◌*◌, ◌/◌, ◌%◌, min, max, ℤ}
use Rattle.noise.specs.Lines.{at}
use Rattle.positions.specs.Counts.{side}

-- blocks of k numbers follow one another in a list: number c of block z
abbrev pub block_at : List ℤ → ℕ → ℕ → ℕ → ℤ
block_at l k z c = at l (z * k + c)

-- a block for every two of lag + 1 rows, with a number for every two columns
abbrev pub sums_size : ℕ → ℕ
sums_size lag = (lag + 1) * (lag + 1) * (side lag * side lag)

-- for neighbours i and j, i not after j: the block of their rows, and their columns in it
abbrev pub ordered_at : List ℤ → ℕ → ℕ → ℕ → ℤ
ordered_at sums lag i j =
    block_at sums (side lag * side lag) ((j / side lag - i / side lag) * (lag + 1) + i / side lag) (i % side lag * side lag + j % side lag)

-- in either order
abbrev pub sum_at : List ℤ → ℕ → ℕ → ℕ → ℤ
sum_at sums lag i j = ordered_at sums lag (min i j) (max i j)
