-- "noise vectors: noise worked out from two lent planes as needed": a line is a list of numbers, worked out from samples in even steps.
use Rattle.std.specs.Prelude.{◌≡◌, List, ℕ, ◌+◌, ◌-◌, ◌*◌, ◌^◌, ◌≤◌, ◌<◌, ℤ, pos, nat_abs, ◌*ℤ◌, length, get_or}
use Rattle.laws.specs.Limits.{side_limit, sample_limit}
use Rattle.noise.specs.Noise.{noise}

-- the number at place i of a line
abbrev pub at : List ℤ → ℕ → ℤ
at line i = get_or line i (pos 0)

-- the product of two lines at place i
abbrev pub product : List ℤ → List ℤ → ℕ → ℤ
product p q i = at p i *ℤ at q i

-- every number of a line is at most m in size
abbrev pub AtMost : ℕ → List ℤ → Type 0
AtMost m line = (i : ℕ) → i < length line → nat_abs (at line i) ≤ m

-- every sample of a plane is below c
abbrev pub Below : ℕ → List ℕ → Type 0
Below c plane = (i : ℕ) → i < length plane → get_or plane i 0 < c

-- the largest noise of low samples
abbrev pub noise_limit : ℕ
noise_limit = sample_limit - 1

-- a place of two planes, where the samples are below a limit
pub record LowAt (limit : ℕ) (source denoised : List ℕ) (k : ℕ) : Type 0 where
  pub in_source : k < length source
  pub in-denoised : k < length denoised
  pub source-low : get_or source k 0 < limit
  pub denoised-low : get_or denoised k 0 < limit

-- the noise at place i of a row
abbrev pub row_noise : List ℕ → List ℕ → ℕ → ℕ → ℕ → ℤ
row_noise source denoised start stride i = noise source denoised (start + i * stride)

-- n places of two planes of one size, from start on, stride apart; every sample below a limit
pub record Places (limit : ℕ) (source denoised : List ℕ) (start stride n : ℕ) : Type 0 where
  pub same : length source ≡ length denoised
  pub begins : start ≤ length source
  pub inside : (i : ℕ) → i < n → start + i * stride < length source
  pub source-low : Below limit source
  pub denoised-low : Below limit denoised

-- a plane and its denoised copy: h rows of w low samples
pub record Plane (w h : ℕ) (source denoised : List ℕ) : Type 0 where
  pub source-size : length source ≡ w * h
  pub denoised-size : length denoised ≡ w * h
  pub source-low : Below sample_limit source
  pub denoised-low : Below sample_limit denoised

-- a line of noise of such samples
pub record NoiseLine (line : List ℤ) : Type 0 where
  pub few : length line ≤ side_limit
  pub small : AtMost noise_limit line

-- two lines of one length, whose products are so small that an i32 holds the sum of any `size` of them
pub record Lines (size : ℕ) (p q : List ℤ) : Type 0 where
  pub same : length p ≡ length q
  pub few : length p ≤ 2 ^ 32
  pub small : (i : ℕ) → i < length p → size * nat_abs (product p q i) < 2 ^ 31
