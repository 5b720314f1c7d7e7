-- "Skipped by the syntax and differs from `FilmGrainParams::reset`, except `update_grain`, which is true when grain is applied on a frame that is not inter": none of a record, in words, in stream order.
use Rattle.std.specs.Prelude.{◌≡◌, Bool, true, false, not, ◌&&◌, List, ℕ, ◌<◌, ◌≤◌, get_or}
use Rattle.laws.specs.Limits.{neighbour_limit, order_limit}
use Rattle.header.specs.Record.{FilmGrainParams}
use Rattle.header.specs.Text.{luma_point_limit, chroma_point_limit, monochrome, coded, chroma, cb_points_of, cr_points_of, luma_coeffs, chroma_coeffs}

-- past the first n, the places of an array are 0
abbrev pub Past : ℕ → ℕ → List ℕ → Type 0
Past n places l = (i : ℕ) → n ≤ i → i < places → get_or l i 0 ≡ 0

-- a plane's points: none where the syntax skips their number, and 0 past it
pub record PointsReset (present : Bool) (places n : ℕ) (values scalings : List ℕ) : Type 0 where
  pub count : present ≡ false → n ≡ 0
  pub value : Past n places values
  pub scaling : Past n places scalings

-- a chroma plane's mult, luma_mult and offset: 0 without points
abbrev pub MixReset : ℕ → ℕ → ℕ → ℕ → Type 0
MixReset points mult lumaMult offset = points ≡ 0 → (mult ≡ 0) × ((lumaMult ≡ 0) × (offset ≡ 0))

pub record AsReset (p : FilmGrainParams) (inter : Bool) (format : ℕ) : Type 0 where
  -- without grain
  pub seed : p.apply_grain ≡ false → p.grain_seed ≡ 0
  pub update-unapplied : p.apply_grain ≡ false → p.update_grain ≡ false
  -- the exception
  pub update_other : p.apply_grain ≡ true → inter ≡ false → p.update_grain ≡ true
  -- unless grain is applied and not updated
  pub slot : (p.apply_grain && not p.update_grain) ≡ false → p.film_grain_params_ref_idx ≡ 0
  -- where the parameters are not coded, and past the points' number
  pub y-points : PointsReset (coded p) luma_point_limit p.num_y_points p.point_y_value p.point_y_scaling
  -- where they are not coded, or in monochrome
  pub from-luma : (coded p && not (monochrome format)) ≡ false → p.chroma_scaling_from_luma ≡ false
  -- where chroma's points are skipped, and past their number
  pub cb-points : PointsReset (chroma p format) chroma_point_limit p.num_cb_points p.point_cb_value p.point_cb_scaling
  pub cr-points : PointsReset (chroma p format) chroma_point_limit p.num_cr_points p.point_cr_value p.point_cr_scaling
  -- where the parameters are not coded
  pub scaling : coded p ≡ false → p.grain_scaling ≡ 0
  pub lag : coded p ≡ false → p.ar_coeff_lag ≡ 0
  -- past the coefficients' number
  pub y-coeffs : Past (luma_coeffs p) neighbour_limit p.ar_coeffs_y_plus_128
  pub cb-coeffs : Past (chroma_coeffs p (cb_points_of p format)) order_limit p.ar_coeffs_cb_plus_128
  pub cr-coeffs : Past (chroma_coeffs p (cr_points_of p format)) order_limit p.ar_coeffs_cr_plus_128
  -- where the parameters are not coded
  pub shift : coded p ≡ false → p.ar_coeff_shift ≡ 0
  pub scale-shift : coded p ≡ false → p.grain_scale_shift ≡ 0
  -- where the plane has no points
  pub cb-mix : MixReset p.num_cb_points p.cb_mult p.cb_luma_mult p.cb_offset
  pub cr-mix : MixReset p.num_cr_points p.cr_mult p.cr_luma_mult p.cr_offset
  -- where the parameters are not coded
  pub overlap : coded p ≡ false → p.overlap_flag ≡ false
  pub clip : coded p ≡ false → p.clip_to_restricted_range ≡ false
