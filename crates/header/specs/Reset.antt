-- "`FilmGrainParams::reset`": every field is 0 or false.
use Rattle.std.specs.Prelude.{Bool, false, replicate}
use Rattle.header.specs.Record.{FilmGrainParams}

abbrev pub reset : FilmGrainParams
reset =
    record {
      apply_grain = false;
      grain_seed = 0;
      update_grain = false;
      film_grain_params_ref_idx = 0;
      num_y_points = 0;
      point_y_value = replicate 14 0;
      point_y_scaling = replicate 14 0;
      chroma_scaling_from_luma = false;
      num_cb_points = 0;
      point_cb_value = replicate 10 0;
      point_cb_scaling = replicate 10 0;
      num_cr_points = 0;
      point_cr_value = replicate 10 0;
      point_cr_scaling = replicate 10 0;
      grain_scaling = 0;
      ar_coeff_lag = 0;
      ar_coeffs_y_plus_128 = replicate 24 0;
      ar_coeffs_cb_plus_128 = replicate 25 0;
      ar_coeffs_cr_plus_128 = replicate 25 0;
      ar_coeff_shift = 0;
      grain_scale_shift = 0;
      cb_mult = 0;
      cb_luma_mult = 0;
      cb_offset = 0;
      cr_mult = 0;
      cr_luma_mult = 0;
      cr_offset = 0;
      overlap_flag = false;
      clip_to_restricted_range = false;
      predicted = false;
    }

-- the same record but for `predicted`
abbrev pub with_predicted : Bool → FilmGrainParams → FilmGrainParams
with_predicted b p =
    record {
      apply_grain = p.apply_grain;
      grain_seed = p.grain_seed;
      update_grain = p.update_grain;
      film_grain_params_ref_idx = p.film_grain_params_ref_idx;
      num_y_points = p.num_y_points;
      point_y_value = p.point_y_value;
      point_y_scaling = p.point_y_scaling;
      chroma_scaling_from_luma = p.chroma_scaling_from_luma;
      num_cb_points = p.num_cb_points;
      point_cb_value = p.point_cb_value;
      point_cb_scaling = p.point_cb_scaling;
      num_cr_points = p.num_cr_points;
      point_cr_value = p.point_cr_value;
      point_cr_scaling = p.point_cr_scaling;
      grain_scaling = p.grain_scaling;
      ar_coeff_lag = p.ar_coeff_lag;
      ar_coeffs_y_plus_128 = p.ar_coeffs_y_plus_128;
      ar_coeffs_cb_plus_128 = p.ar_coeffs_cb_plus_128;
      ar_coeffs_cr_plus_128 = p.ar_coeffs_cr_plus_128;
      ar_coeff_shift = p.ar_coeff_shift;
      grain_scale_shift = p.grain_scale_shift;
      cb_mult = p.cb_mult;
      cb_luma_mult = p.cb_luma_mult;
      cb_offset = p.cb_offset;
      cr_mult = p.cr_mult;
      cr_luma_mult = p.cr_luma_mult;
      cr_offset = p.cr_offset;
      overlap_flag = p.overlap_flag;
      clip_to_restricted_range = p.clip_to_restricted_range;
      predicted = b;
    }
