-- A run: n places of a plane from a start on, a stride apart. A row of a view is a run, and so is a part of a row. What the functions that go through the rows of a view ask and promise.
use Rattle.std.specs.Prelude.{◌≡◌, List, ℕ, ◌+◌, ◌*◌, ◌^◌, ◌≤◌, ◌<◌, get_or, replicate}
use Rattle.laws.specs.Limits.{plane_limit}
use Rattle.laws.specs.Table.{tabulate}
use Rattle.laws.specs.Sums.{sum_n}
use Rattle.frame.specs.declared.view.View.{View}
use Rattle.noise.specs.Lines.{Places}
use Rattle.noise.specs.Seen.{Seen}
use Rattle.profile.specs.Shifted.{square}
use Rattle.profile.specs.Bins.{bin_at, in_bin}
use Rattle.profile.specs.Steps.{Profile}
use Rattle.profile.specs.Parts.{square_limit}

-- what a view shows of a plane and of its copy, with samples below 2 ^ depth; past the end stands 0
pub record SeenAt (depth : ℕ) (v : View) (source denoised : List ℕ) : Type 0 where
  pub least-depth : 8 ≤ depth
  pub most-depth : depth ≤ 12
  pub seen : Seen v source denoised
  pub source-low : (i : ℕ) → get_or source i 0 < 2 ^ depth
  pub denoised-low : (i : ℕ) → get_or denoised i 0 < 2 ^ depth

-- a run of such samples
pub record Run (depth : ℕ) (source denoised : List ℕ) (start stride n : ℕ) : Type 0 where
  pub least-depth : 8 ≤ depth
  pub most-depth : depth ≤ 12
  pub places : Places (2 ^ depth) source denoised start stride n

-- f at the places of a run, added up
abbrev pub run_sum : (ℕ → ℕ) → ℕ → ℕ → ℕ → ℕ
run_sum f start stride n = sum_n (λ i. f (start + i * stride)) n

-- over the places of a run that lie in bin j: how many, and the squares
abbrev pub run_count : ℕ → ℕ → List ℕ → ℕ → ℕ → ℕ → ℕ → ℕ
run_count bits shift source start stride n j = run_sum (in_bin (bin_at bits shift source) j (λ i. 1)) start stride n

abbrev pub run_squares : ℕ → ℕ → List ℕ → List ℕ → ℕ → ℕ → ℕ → ℕ → ℕ
run_squares bits shift source denoised start stride n j = run_sum (in_bin (bin_at bits shift source) j (square shift source denoised)) start stride n

-- ---- tables: an entry for each bin

-- 2 ^ bits entries in each of two tables have room for n samples more
pub record Tables (bits n : ℕ) (count squares : List ℕ) : Type 0 where
  pub count_room : (j : ℕ) → j < 2 ^ bits → get_or count j 0 + n ≤ plane_limit
  pub squares-room : (j : ℕ) → j < 2 ^ bits → get_or squares j 0 + square_limit * n ≤ square_limit * plane_limit

-- each entry of a table of n, increased
abbrev pub increased : List ℕ → ℕ → (ℕ → ℕ) → List ℕ
increased table n f = tabulate n (λ j. get_or table j 0 + f j)

-- both tables, increased by f and by g
pub record TablesAdded (bits : ℕ) (count squares : List ℕ) (f g : ℕ → ℕ) (count' squares' : List ℕ) : Type 0 where
  pub counts : count' ≡ increased count (2 ^ bits) f
  pub sums : squares' ≡ increased squares (2 ^ bits) g

-- tables of 2 ^ bits zeros
pub record Blank (bits : ℕ) (count squares : List ℕ) : Type 0 where
  pub counts : count ≡ replicate (2 ^ bits) 0
  pub sums : squares ≡ replicate (2 ^ bits) 0

-- these are the figures of a profile
pub record Profiled (p : Profile) (plane : ℕ) (sigma count squares : List ℕ) : Type 0 where
  pub plane-is : plane ≡ p.sigma16
  pub sigma-is : sigma ≡ p.sigma16_of_bin
  pub count-is : count ≡ p.count
  pub squares-is : squares ≡ p.squares
