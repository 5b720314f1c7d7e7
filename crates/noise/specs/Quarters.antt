-- "the average of the 1, 2 or 4 luma noises at the chroma place, the last row and column repeated": four times it, as the sum of the luma noise of two rows at two columns. They are the rows and columns of the chroma place; one of them twice where the format keeps it, or the last is repeated.
use Rattle.std.specs.Prelude.{◌≡◌, List, ℕ, ◌+◌, ◌-◌, ◌*◌, ◌^◌, ◌≤◌, ◌<◌, min, ℤ, ◌+ℤ◌, length}
use Rattle.frame.specs.Size.{sampled}
use Rattle.frame.specs.declared.view.View.{View}
use Rattle.frame.specs.declared.view.Sampling.{Sampling}
use Rattle.noise.specs.Lines.{at}

-- from the sums of the two rows: at luma column j of chroma column c, where sub is 1 if the format halves the columns, else 0; and over both columns
abbrev pub column_sum : ℕ → List ℤ → ℕ → ℕ → ℤ
column_sum sub sums c j = at sums (min (c * 2 ^ sub + j) (length sums - 1))

unfoldable pub quartered : ℕ → List ℤ → ℕ → ℤ
quartered sub sums c = column_sum sub sums c 0 +ℤ column_sum sub sums c sub

-- a chroma row over the luma that a view shows, with a place for each luma column and for each average
pub record AverageRow (v : View) (s : Sampling) (r sums line : ℕ) : Type 0 where
  pub across : s.across ≤ 1
  pub down : s.down ≤ 1
  pub row : r * 2 ^ s.down < v.height
  pub sums-length : sums ≡ v.width
  pub line-length : line ≡ sampled s.across v.width
