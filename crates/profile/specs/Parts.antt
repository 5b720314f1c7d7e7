-- A part: at most 256 samples of a row, their shifted noise in a line, and their bins in another. What the functions over a part's lines ask and promise.
use Rattle.std.specs.Prelude.{◌≡◌, List, ℕ, ◌+◌, ◌*◌, ◌/◌, ◌^◌, ◌≤◌, ◌<◌, ℤ, length, get_or}
use Rattle.laws.specs.Sums.{total, sum_n}
use Rattle.noise.specs.Lines.{at, AtMost}
use Rattle.profile.specs.Shifted.{square_of}
use Rattle.profile.specs.Bins.{in_bin}

-- the most samples of a part
abbrev pub part_limit : ℕ
part_limit = 256

-- the most that a shifted noise is in size, and its square
abbrev pub shifted_limit : ℕ
shifted_limit = 256

abbrev pub square_limit : ℕ
square_limit = shifted_limit * shifted_limit

-- ---- the lines of a part

-- n places, from start on, stride apart, lie in a plane
abbrev pub InPlane : List ℕ → ℕ → ℕ → ℕ → Type 0
InPlane plane start stride n = (i : ℕ) → i < n → start + i * stride < length plane

-- the sample at place i of a run, shifted right by `coarse`
abbrev pub coarse_at : List ℕ → ℕ → ℕ → ℕ → ℕ → ℕ
coarse_at plane start stride coarse i = get_or plane (start + i * stride) 0 / 2 ^ coarse

-- ---- the bins of a part

-- a part's line of shifted noise, and with the bin of each place
pub record ShiftedLine (line : List ℤ) : Type 0 where
  pub few : length line ≤ part_limit
  pub small : AtMost shifted_limit line

pub record Binned (line : List ℤ) (bins : List ℕ) : Type 0 where
  pub same : length line ≡ length bins
  pub shifted-line : ShiftedLine line

-- no bin is below the least or above the greatest
pub record Between (bins : List ℕ) (least greatest : ℕ) : Type 0 where
  pub least-is : (i : ℕ) → i < length bins → least ≤ get_or bins i 0
  pub greatest-is : (i : ℕ) → i < length bins → get_or bins i 0 ≤ greatest

-- over the places of bin j: how many, and the squares of the line
unfoldable pub line_count : List ℕ → ℕ → ℕ
unfolding total
line_count bins j = sum_n (in_bin (λ i. get_or bins i 0) j (λ i. 1)) (length bins)

unfoldable pub line_squares : List ℤ → List ℕ → ℕ → ℕ
unfolding total
line_squares line bins j = sum_n (in_bin (λ i. get_or bins i 0) j (λ i. square_of (at line i))) (length bins)
