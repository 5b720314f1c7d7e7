-- A record where it stands in memory, as C lays out `grain_film_params`: 168 bytes, of which bytes 1 and 167 are of no field.
use Rattle.std.specs.Prelude.{Bool, not, List, ℕ, ◌+◌, ◌*◌, eqb, get_or, take, drop}
use Rattle.header.specs.Record.{FilmGrainParams}

-- a byte; a flag, true where its byte is not 0; a number of two bytes, the low one first; a list of n bytes
abbrev pub byte_of : List ℕ → ℕ → ℕ
byte_of l i = get_or l i 0

abbrev pub flag_at : List ℕ → ℕ → Bool
flag_at l i = not (eqb (byte_of l i) 0)

abbrev pub word_at : List ℕ → ℕ → ℕ
word_at l i = byte_of l i + 256 * byte_of l (i + 1)

abbrev pub items_from : List ℕ → ℕ → ℕ → List ℕ
items_from l at n = take n (drop at l)

unfoldable pub stored : List ℕ → FilmGrainParams
stored l =
    record {
      apply_grain = flag_at l 0;
      grain_seed = word_at l 2;
      update_grain = flag_at l 4;
      film_grain_params_ref_idx = byte_of l 5;
      num_y_points = byte_of l 6;
      point_y_value = items_from l 7 14;
      point_y_scaling = items_from l 21 14;
      chroma_scaling_from_luma = flag_at l 35;
      num_cb_points = byte_of l 36;
      point_cb_value = items_from l 37 10;
      point_cb_scaling = items_from l 47 10;
      num_cr_points = byte_of l 57;
      point_cr_value = items_from l 58 10;
      point_cr_scaling = items_from l 68 10;
      grain_scaling = byte_of l 78;
      ar_coeff_lag = byte_of l 79;
      ar_coeffs_y_plus_128 = items_from l 80 24;
      ar_coeffs_cb_plus_128 = items_from l 104 25;
      ar_coeffs_cr_plus_128 = items_from l 129 25;
      ar_coeff_shift = byte_of l 154;
      grain_scale_shift = byte_of l 155;
      cb_mult = byte_of l 156;
      cb_luma_mult = byte_of l 157;
      cb_offset = word_at l 158;
      cr_mult = byte_of l 160;
      cr_luma_mult = byte_of l 161;
      cr_offset = word_at l 162;
      overlap_flag = flag_at l 164;
      clip_to_restricted_range = flag_at l 165;
      predicted = flag_at l 166;
    }
