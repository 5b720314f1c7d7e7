-- A record in two parts: its fields as the code holds them, and its lists where they stand.
use Rattle.std.specs.Prelude.{List, [], ℕ}
use Rattle.header.specs.declared.stored.Fields.{Fields}
use Rattle.header.specs.Record.{FilmGrainParams}
use Rattle.header.specs.Stored.{byte_of, flag_at, word_at, items_from}

-- the fields that bytes hold, with their three numbers of two bytes
abbrev pub fields_with : ℕ → ℕ → ℕ → List ℕ → Fields
fields_with seed cb cr l =
    record {
      apply_grain = flag_at l 0;
      grain_seed = seed;
      update_grain = flag_at l 4;
      film_grain_params_ref_idx = byte_of l 5;
      num_y_points = byte_of l 6;
      chroma_scaling_from_luma = flag_at l 35;
      num_cb_points = byte_of l 36;
      num_cr_points = byte_of l 57;
      grain_scaling = byte_of l 78;
      ar_coeff_lag = byte_of l 79;
      ar_coeff_shift = byte_of l 154;
      grain_scale_shift = byte_of l 155;
      cb_mult = byte_of l 156;
      cb_luma_mult = byte_of l 157;
      cb_offset = cb;
      cr_mult = byte_of l 160;
      cr_luma_mult = byte_of l 161;
      cr_offset = cr;
      overlap_flag = flag_at l 164;
      clip_to_restricted_range = flag_at l 165;
    }

unfoldable pub fields_of : List ℕ → Fields
fields_of l = fields_with (word_at l 2) (word_at l 158) (word_at l 162) l

-- fields put together with the lists that bytes hold
abbrev pub record_of : Fields → List ℕ → FilmGrainParams
record_of f l =
    record {
      apply_grain = f.apply_grain;
      grain_seed = f.grain_seed;
      update_grain = f.update_grain;
      film_grain_params_ref_idx = f.film_grain_params_ref_idx;
      num_y_points = f.num_y_points;
      point_y_value = items_from l 7 14;
      point_y_scaling = items_from l 21 14;
      chroma_scaling_from_luma = f.chroma_scaling_from_luma;
      num_cb_points = f.num_cb_points;
      point_cb_value = items_from l 37 10;
      point_cb_scaling = items_from l 47 10;
      num_cr_points = f.num_cr_points;
      point_cr_value = items_from l 58 10;
      point_cr_scaling = items_from l 68 10;
      grain_scaling = f.grain_scaling;
      ar_coeff_lag = f.ar_coeff_lag;
      ar_coeffs_y_plus_128 = items_from l 80 24;
      ar_coeffs_cb_plus_128 = items_from l 104 25;
      ar_coeffs_cr_plus_128 = items_from l 129 25;
      ar_coeff_shift = f.ar_coeff_shift;
      grain_scale_shift = f.grain_scale_shift;
      cb_mult = f.cb_mult;
      cb_luma_mult = f.cb_luma_mult;
      cb_offset = f.cb_offset;
      cr_mult = f.cr_mult;
      cr_luma_mult = f.cr_luma_mult;
      cr_offset = f.cr_offset;
      overlap_flag = f.overlap_flag;
      clip_to_restricted_range = f.clip_to_restricted_range;
      predicted = flag_at l 166;
    }

-- where only the fields matter
abbrev pub scalars : Fields → FilmGrainParams
scalars f = record_of f []
