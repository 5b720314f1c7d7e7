-- 5.9.30, the syntax of film_grain_params, once: its fields in stream order, each place of an array a row of its own, whether the syntax has it or skips it.
-- Every limit of the semantics is the least or the most of a row.
use Rattle.std.specs.Prelude.{Bool, true, false, cond, not, ◌&&◌, ◌||◌, List, [], ◌∷◌, ◌++◌, ℕ, ◌+◌, ◌-◌, ltb, eqb, get_or}
use Rattle.laws.specs.Limits.{neighbour_limit, order_limit}
use Rattle.positions.specs.Text.{num_pos_luma, num_pos_chroma}
use Rattle.header.specs.Record.{FilmGrainParams}
use Rattle.header.specs.declared.counts.Counts.{Counts}
use Rattle.header.specs.Row.{Row, limited, raised, field, bit, each}

-- "num_y_points at most 14; num_cb_points and num_cr_points at most 10"
abbrev pub luma_point_limit : ℕ
luma_point_limit = 14

abbrev pub chroma_point_limit : ℕ
chroma_point_limit = 10

-- ---- how much of each list the syntax has

-- the formats: 0 monochrome, 1 4:2:0
abbrev pub monochrome : ℕ → Bool
monochrome format = eqb format 0

abbrev pub yuv420 : ℕ → Bool
yuv420 format = eqb format 1

-- apply_grain and update_grain: the parameters themselves are in the header
abbrev pub coded : FilmGrainParams → Bool
coded p = p.apply_grain && p.update_grain

-- num_y_points, "present if update_grain is 1"
abbrev pub y_points_of : FilmGrainParams → ℕ
y_points_of p = cond (coded p) p.num_y_points 0

-- "not monochrome, not chroma_scaling_from_luma, and not (4:2:0 with num_y_points 0); otherwise both are 0"
abbrev pub chroma : FilmGrainParams → ℕ → Bool
chroma p format =
    coded p && (not (monochrome format) && (not p.chroma_scaling_from_luma && not (yuv420 format && eqb (y_points_of p) 0)))

abbrev pub cb_points_of : FilmGrainParams → ℕ → ℕ
cb_points_of p format = cond (chroma p format) p.num_cb_points 0

abbrev pub cr_points_of : FilmGrainParams → ℕ → ℕ
cr_points_of p format = cond (chroma p format) p.num_cr_points 0

-- "num_y_points above 0"; "chroma_scaling_from_luma or num_cb_points above 0", and the same of Cr
abbrev pub luma_coeffs : FilmGrainParams → ℕ
luma_coeffs p = cond (ltb 0 (y_points_of p)) (num_pos_luma p.ar_coeff_lag) 0

abbrev pub chroma_coeffs : FilmGrainParams → ℕ → ℕ
chroma_coeffs p points = cond (coded p && p.chroma_scaling_from_luma || ltb 0 points) (num_pos_chroma (y_points_of p) p.ar_coeff_lag) 0

unfoldable pub counts_of : FilmGrainParams → ℕ → Counts
counts_of p format =
    record {
      coded = coded p;
      chroma = chroma p format;
      y_points = y_points_of p;
      cb_points = cb_points_of p format;
      cr_points = cr_points_of p format;
      y_coeffs = luma_coeffs p;
      cb_coeffs = chroma_coeffs p (cb_points_of p format);
      cr_coeffs = chroma_coeffs p (cr_points_of p format);
    }

-- where the parameters themselves are not in the header
abbrev pub uncoded : Counts
uncoded =
    record {
      coded = false;
      chroma = false;
      y_points = 0;
      cb_points = 0;
      cr_points = 0;
      y_coeffs = 0;
      cb_coeffs = 0;
      cr_coeffs = 0;
    }

-- ---- lists

-- place i of a plane's points, "8, 8 in turn", "i below" their number; "point values strictly increasing"
unfoldable pub point : ℕ → List ℕ → List ℕ → ℕ → List Row
point n values scalings i =
    limited 8 (ltb i n) (cond (eqb i 0) 0 (get_or values (i - 1) 0 + 1)) 255 (get_or values i 0) ∷ field 8 (ltb i n) (get_or scalings i 0) ∷ []

unfoldable pub points : ℕ → ℕ → List ℕ → List ℕ → List Row
points places n values scalings = each places (point n values scalings)

-- place i of a plane's coefficients, "i below" their number
unfoldable pub coeff : ℕ → List ℕ → ℕ → List Row
coeff n values i = field 8 (ltb i n) (get_or values i 0) ∷ []

unfoldable pub coeffs : ℕ → ℕ → List ℕ → List Row
coeffs places n values = each places (coeff n values)

-- ---- the table, in five parts

-- apply_grain to film_grain_params_ref_idx; update_grain has its bit "if the frame is INTER_FRAME; otherwise it is 1 without a bit"
unfoldable pub opening : FilmGrainParams → Bool → List Row
opening p inter =
    field 1 true (bit p.apply_grain) ∷
    field 16 p.apply_grain p.grain_seed ∷
    raised (bit inter) p.apply_grain (bit (not inter)) (bit p.update_grain) ∷
    field 3 (p.apply_grain && not p.update_grain) p.film_grain_params_ref_idx ∷ []

-- num_y_points and its pairs
unfoldable pub luma_part : FilmGrainParams → Counts → List Row
luma_part p c =
    limited 4 c.coded 0 luma_point_limit p.num_y_points ∷
    points luma_point_limit c.y_points p.point_y_value p.point_y_scaling

-- chroma_scaling_from_luma; num_cb_points and its pairs; num_cr_points and its pairs: "in 4:2:0, num_cb_points and num_cr_points are both 0 or both above 0"
unfoldable pub chroma_part : FilmGrainParams → ℕ → Counts → List Row
chroma_part p format c =
    field 1 (c.coded && not (monochrome format)) (bit p.chroma_scaling_from_luma) ∷
    limited 4 c.chroma 0 chroma_point_limit p.num_cb_points ∷
    (points chroma_point_limit c.cb_points p.point_cb_value p.point_cb_scaling ++
    (limited 4 c.chroma (bit (yuv420 format && ltb 0 c.cb_points)) (cond (yuv420 format && eqb c.cb_points 0) 0 chroma_point_limit) p.num_cr_points ∷
    points chroma_point_limit c.cr_points p.point_cr_value p.point_cr_scaling))

-- grain_scaling_minus_8 to the coefficients
unfoldable pub filter_part : FilmGrainParams → Counts → List Row
filter_part p c =
    raised 2 c.coded 8 p.grain_scaling ∷
    field 2 c.coded p.ar_coeff_lag ∷
    (coeffs neighbour_limit c.y_coeffs p.ar_coeffs_y_plus_128 ++
    (coeffs order_limit c.cb_coeffs p.ar_coeffs_cb_plus_128 ++
    coeffs order_limit c.cr_coeffs p.ar_coeffs_cr_plus_128))

-- ar_coeff_shift_minus_6 to clip_to_restricted_range
unfoldable pub closing : FilmGrainParams → Counts → List Row
closing p c =
    let cb = ltb 0 c.cb_points in
    let cr = ltb 0 c.cr_points in
    raised 2 c.coded 6 p.ar_coeff_shift ∷
    field 2 c.coded p.grain_scale_shift ∷
    field 8 cb p.cb_mult ∷ field 8 cb p.cb_luma_mult ∷ field 9 cb p.cb_offset ∷
    field 8 cr p.cr_mult ∷ field 8 cr p.cr_luma_mult ∷ field 9 cr p.cr_offset ∷
    field 1 c.coded (bit p.overlap_flag) ∷
    field 1 c.coded (bit p.clip_to_restricted_range) ∷ []

-- all after the slot
abbrev pub rest : FilmGrainParams → ℕ → Counts → List Row
rest p format c = luma_part p c ++ (chroma_part p format c ++ (filter_part p c ++ closing p c))

unfoldable pub table : FilmGrainParams → Bool → ℕ → Counts → List Row
table p inter format c = opening p inter ++ rest p format c

unfoldable pub rows : FilmGrainParams → Bool → ℕ → List Row
rows p inter format = table p inter format (counts_of p format)
