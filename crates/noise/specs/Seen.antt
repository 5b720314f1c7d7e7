-- A plane and its denoised copy, as a view shows them; and sums over its rows and columns.
use Rattle.std.specs.Prelude.{◌≡◌, List, ℕ, ◌+◌, ◌-◌, ◌*◌, ◌^◌, ◌≤◌, ◌<◌, ℤ, ◌*ℤ◌}
use Rattle.laws.specs.Limits.{side_limit, sample_limit}
use Rattle.laws.specs.Sums.{sum_to}
use Rattle.frame.specs.Size.{sampled}
use Rattle.frame.specs.View.{place_at, viewed}
use Rattle.frame.specs.declared.view.View.{View}
use Rattle.frame.specs.declared.view.Geometry.{Geometry}
use Rattle.noise.specs.Noise.{noise, place, Pair, pair, noise_of}
use Rattle.noise.specs.Shift.{shifted}
use Rattle.noise.specs.Lines.{Places}
use Rattle.noise.specs.declared.sums.PlaneSums.{PlaneSums}
use Rattle.noise.specs.declared.rows.PairSums.{PairSums}

-- what a view shows of a plane and of its copy
abbrev pub seen : View → List ℕ → List ℕ → Pair
seen v source denoised = pair (viewed v source) (viewed v denoised) v.width v.height

-- the noise at row r and column c, through a view
abbrev pub noise_at : List ℕ → List ℕ → View → ℕ → ℕ → ℤ
noise_at source denoised v r c = noise source denoised (place_at v r c)

-- a view within the limits whose rows lie in two planes of one size, with low samples
pub record Seen (v : View) (source denoised : List ℕ) : Type 0 where
  pub narrow : v.width ≤ side_limit
  pub low : v.height ≤ side_limit
  pub rows : (r : ℕ) → r < v.height → Places sample_limit source denoised (v.start + r * v.step) v.stride v.width

-- how chroma lies over luma: every chroma row has a luma row; where there is a chroma row, chroma has as many columns as luma has, halved or not. (Monochrome: no rows.)
pub record Over (g : Geometry) : Type 0 where
  pub across : g.sampling.across ≤ 1
  pub down : g.sampling.down ≤ 1
  pub rows : (r : ℕ) → r < g.chroma.height → r * 2 ^ g.sampling.down < g.luma.height
  pub columns : 0 < g.chroma.height → g.chroma.width ≡ sampled g.sampling.across g.luma.width

-- the planes of a frame and of its denoised copy, as a geometry shows them
pub record SeenFrame (g : Geometry) (y y-denoised blue blue-denoised red red-denoised : List ℕ) : Type 0 where
  pub luma : Seen g.luma y y-denoised
  pub cb : Seen g.chroma blue blue-denoised
  pub cr : Seen g.chroma red red-denoised
  pub over : Over g

-- ---- sums
-- f r c for every row r and column c, added up
abbrev pub sum_over : ℕ → ℕ → (ℕ → ℕ → ℤ) → ℤ
sum_over rows columns f = sum_to (λ r. sum_to (λ c. f r c) columns) rows

-- of two planes of one size: a noise times the other's noise `lag` columns on, over all places where both are
abbrev pub lagged_sum : Pair → Pair → ℕ → ℤ
lagged_sum a b lag = sum_over a.height (a.width - lag) (λ r c. noise_of a r c *ℤ noise b.source b.denoised (place a.width r (c + lag)))

-- a noise, shifted and squared
abbrev pub squared : ℕ → ℤ → ℤ
squared shift z = shifted shift z *ℤ shifted shift z

-- "or one squared, or, for row correlation, a noise and the one `lag` columns on", of the noise n along a row, and over rows of it
pub record RowSums (n : ℕ → ℤ) (columns lag shift : ℕ) (s : PlaneSums) : Type 0 where
  pub squares : s.squares ≡ sum_to (λ c. squared shift (n c)) columns
  pub energy : s.energy ≡ sum_to (λ c. n c *ℤ n c) columns
  pub lagged : s.lagged ≡ sum_to (λ c. n c *ℤ n (c + lag)) (columns - lag)

pub record SumsOf (n : ℕ → ℕ → ℤ) (rows columns lag shift : ℕ) (s : PlaneSums) : Type 0 where
  pub squares : s.squares ≡ sum_over rows columns (λ r c. squared shift (n r c))
  pub energy : s.energy ≡ sum_over rows columns (λ r c. n r c *ℤ n r c)
  pub lagged : s.lagged ≡ sum_over rows (columns - lag) (λ r c. n r c *ℤ n r (c + lag))

-- "the two frames' noises at one place, or one squared", of the noises n and m
pub record RowCross (n m : ℕ → ℤ) (columns : ℕ) (s : PairSums) : Type 0 where
  pub second : s.second ≡ sum_to (λ c. m c *ℤ m c) columns
  pub cross : s.cross ≡ sum_to (λ c. n c *ℤ m c) columns

pub record CrossOf (n m : ℕ → ℕ → ℤ) (rows columns : ℕ) (s : PairSums) : Type 0 where
  pub second : s.second ≡ sum_over rows columns (λ r c. m r c *ℤ m r c)
  pub cross : s.cross ≡ sum_over rows columns (λ r c. n r c *ℤ m r c)
