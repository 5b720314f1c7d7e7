-- "Breaks a limit of the film grain params semantics .., does not fit its bits": the limits of a record, each in its own words, in stream order.
use Rattle.std.specs.Prelude.{◌≡◌, true, List, ◌↔◌, ℕ, ◌+◌, ◌^◌, ◌<◌, ◌≤◌, get_or}
use Rattle.header.specs.Record.{FilmGrainParams}
use Rattle.header.specs.Text.{coded, yuv420, cb_points_of, cr_points_of, luma_coeffs, chroma_coeffs}

-- "point values strictly increasing" along the first n places of a list
abbrev pub Rising : ℕ → List ℕ → Type 0
Rising n values = (i : ℕ) → i + 1 < n → get_or values i 0 < get_or values (i + 1) 0

-- the first n places of a list, 8 bits each
abbrev pub Bytes : ℕ → List ℕ → Type 0
Bytes n l = (i : ℕ) → i < n → get_or l i 0 < 256

-- a plane's points
pub record PointLimits (most n : ℕ) (values scalings : List ℕ) : Type 0 where
  pub count : n ≤ most
  pub rising : Rising n values
  pub value : Bytes n values
  pub scaling : Bytes n scalings

-- a chroma plane's mult, luma_mult and offset
abbrev pub MixLimits : ℕ → ℕ → ℕ → Type 0
MixLimits mult lumaMult offset = (mult < 256) × ((lumaMult < 256) × (offset < 512))

pub record Limits (p : FilmGrainParams) (format : ℕ) : Type 0 where
  -- 16 bits, and 3
  pub seed : p.grain_seed < 2 ^ 16
  pub slot : p.film_grain_params_ref_idx < 8
  -- "num_y_points at most 14; num_cb_points and num_cr_points at most 10"
  pub y-points : PointLimits 14 p.num_y_points p.point_y_value p.point_y_scaling
  pub cb-points : PointLimits 10 p.num_cb_points p.point_cb_value p.point_cb_scaling
  pub cr-points : PointLimits 10 p.num_cr_points p.point_cr_value p.point_cr_scaling
  -- "in 4:2:0, num_cb_points and num_cr_points are both 0 or both above 0"
  pub both : yuv420 format ≡ true → (p.num_cb_points ≡ 0) ↔ (p.num_cr_points ≡ 0)
  -- 2 bits, stored with 8 added
  pub scaling : coded p ≡ true → (8 ≤ p.grain_scaling) × (p.grain_scaling ≤ 11)
  -- 2 bits
  pub lag : p.ar_coeff_lag ≤ 3
  -- the coefficients that the syntax has
  pub y-coeffs : Bytes (luma_coeffs p) p.ar_coeffs_y_plus_128
  pub cb-coeffs : Bytes (chroma_coeffs p (cb_points_of p format)) p.ar_coeffs_cb_plus_128
  pub cr-coeffs : Bytes (chroma_coeffs p (cr_points_of p format)) p.ar_coeffs_cr_plus_128
  -- 2 bits, stored with 6 added
  pub shift : coded p ≡ true → (6 ≤ p.ar_coeff_shift) × (p.ar_coeff_shift ≤ 9)
  -- 2 bits
  pub scale-shift : p.grain_scale_shift ≤ 3
  -- 8 bits, 8 and 9
  pub cb-mix : MixLimits p.cb_mult p.cb_luma_mult p.cb_offset
  pub cr-mix : MixLimits p.cr_mult p.cr_luma_mult p.cr_offset
