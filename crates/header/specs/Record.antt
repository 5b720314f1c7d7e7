-- "A FilmGrainParams record": the fields of the Rust's record, by the syntax's names. `grain_scaling` is stored with 8 added and `ar_coeff_shift` with 6.
use Rattle.std.specs.Prelude.{Bool, List, ℕ}

pub record FilmGrainParams : Type 0 where
  pub apply_grain : Bool
  pub grain_seed : ℕ
  pub update_grain : Bool
  pub film_grain_params_ref_idx : ℕ
  pub num_y_points : ℕ
  pub point_y_value : List ℕ
  pub point_y_scaling : List ℕ
  pub chroma_scaling_from_luma : Bool
  pub num_cb_points : ℕ
  pub point_cb_value : List ℕ
  pub point_cb_scaling : List ℕ
  pub num_cr_points : ℕ
  pub point_cr_value : List ℕ
  pub point_cr_scaling : List ℕ
  pub grain_scaling : ℕ
  pub ar_coeff_lag : ℕ
  pub ar_coeffs_y_plus_128 : List ℕ
  pub ar_coeffs_cb_plus_128 : List ℕ
  pub ar_coeffs_cr_plus_128 : List ℕ
  pub ar_coeff_shift : ℕ
  pub grain_scale_shift : ℕ
  pub cb_mult : ℕ
  pub cb_luma_mult : ℕ
  pub cb_offset : ℕ
  pub cr_mult : ℕ
  pub cr_luma_mult : ℕ
  pub cr_offset : ℕ
  pub overlap_flag : Bool
  pub clip_to_restricted_range : Bool
  pub predicted : Bool
