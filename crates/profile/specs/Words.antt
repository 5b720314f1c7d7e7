-- The scope on profiles, in its own words: "A bin gives its own sigma16 if its count is at least max(n/100, 64) for luma, max(n/100, 32) for chroma, division rounding down; else the plane's. The answer also carries each bin's count and sum of squares. Bin counts add up to the plane's samples and bin squares to its squares."
use Rattle.std.specs.Prelude.{◌≡◌, List, ℕ, ◌-◌, ◌/◌, ◌^◌, ◌≤◌, ◌<◌, max, ℤ, pos, neg_ℤ, length, get_or, ◌≤ℤ◌}
use Rattle.laws.specs.Limits.{plane_limit}
use Rattle.frame.specs.Planes.{cropped}
use Rattle.frame.specs.declared.Shape.{Shape}
use Rattle.frame.specs.declared.view.Component.TheVariants.{Y, CbCr}
use Rattle.float.specs.Sigma.{Nearest16}
use Rattle.laws.specs.Sums.{sum_n, sum_of}
use Rattle.profile.specs.Shifted.{shifted_noise, square}
use Rattle.profile.specs.Bins.{count_of_bin, squares_of_bin}
use Rattle.profile.specs.Steps.{Profile}
use Rattle.profile.specs.Answers.{luma_of, chroma_of, estimate_of}
use Rattle.profile.specs.declared.NoiseEstimate.{NoiseEstimate}

-- "each d from −256 to 255"
pub record InRange (d : ℤ) : Type 0 where
  pub least : neg_ℤ (pos 256) ≤ℤ d
  pub most : d ≤ℤ pos 255

-- samples below 2 ^ depth, of a plane and of its copy, and no more of them than a plane has
pub record LowSamples (depth : ℕ) (source denoised : List ℕ) : Type 0 where
  pub least-depth : 8 ≤ depth
  pub few : length source ≤ plane_limit
  pub source-low : (i : ℕ) → i < length source → get_or source i 0 < 2 ^ depth
  pub denoised-low : (i : ℕ) → i < length source → get_or denoised i 0 < 2 ^ depth

-- n samples with d in range, and k the whole number nearest to 16 × root(sum of d² / n)
pub record PlaneInWords (shift : ℕ) (source denoised : List ℕ) (k : ℕ) : Type 0 where
  pub range : (i : ℕ) → i < length source → InRange (shifted_noise shift source denoised i)
  pub nearest : 0 < length source → Nearest16 (sum_n (square shift source denoised) (length source)) (length source) k

-- 2 ^ bits bins, with `least` samples at least
pub record InWords (bits least shift : ℕ) (source denoised : List ℕ) (p : Profile) : Type 0 where
  pub plane : PlaneInWords shift source denoised p.sigma16
  pub count-is : (j : ℕ) → j < 2 ^ bits → get_or p.count j 0 ≡ count_of_bin bits shift source j
  pub squares-is : (j : ℕ) → j < 2 ^ bits → get_or p.squares j 0 ≡ squares_of_bin bits shift source denoised j
  pub counts-add-up : sum_of p.count ≡ length source
  pub squares-add-up : sum_of p.squares ≡ sum_n (square shift source denoised) (length source)
  pub own : (j : ℕ) → j < 2 ^ bits → max (length source / 100) least ≤ get_or p.count j 0 → Nearest16 (get_or p.squares j 0) (get_or p.count j 0) (get_or p.sigma16_of_bin j 0)
  pub other : (j : ℕ) → j < 2 ^ bits → get_or p.count j 0 < max (length source / 100) least → get_or p.sigma16_of_bin j 0 ≡ p.sigma16

-- the answer of an accepted frame call: eight luma bins of at least 64 samples, four chroma bins of at least 32, of the planes inside the active rectangle
pub record EstimateInWords (s : Shape) (y cb cr y-denoised cb-denoised cr-denoised : List ℕ) (e : NoiseEstimate) : Type 0 where
  pub y-profile : Profile
  pub cb-profile : Profile
  pub cr-profile : Profile
  pub answer : e ≡ estimate_of (luma_of y-profile) (chroma_of cb-profile) (chroma_of cr-profile)
  pub y-words : InWords 3 64 (s.depth - 8) (cropped s Y y) (cropped s Y y-denoised) y-profile
  pub cb-words : InWords 2 32 (s.depth - 8) (cropped s CbCr cb) (cropped s CbCr cb-denoised) cb-profile
  pub cr-words : InWords 2 32 (s.depth - 8) (cropped s CbCr cr) (cropped s CbCr cr-denoised) cr-profile
