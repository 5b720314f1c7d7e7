-- "The bits are those of the syntax table, and bytes past them remain." Headers with their bytes worked out apart from the definitions; and records that are refused with 4, 10 or 11, the destination as it was.
use Rattle.std.specs.Prelude.{Bool, true, false, List, [], ◌∷◌, ◌++◌, map, ℕ, ◌+◌, ◌-◌, ◌*◌, length, replicate}
use Rattle.laws.specs.Table.{tabulate}
use Rattle.table.specs.Cases.{Case, row}
use Rattle.header.specs.Record.{FilmGrainParams}
use Rattle.header.specs.declared.Written.{Written}
use Rattle.header.specs.Reset.{reset}
use Rattle.header.specs.Calls.{written, write_outcome}

-- ---- a record of few parts

-- apply_grain, grain_seed, update_grain, film_grain_params_ref_idx
abbrev Opening : Type 0
Opening = Bool × ℕ × Bool × ℕ

-- how many points it says, its points, its coefficients; of Cb and Cr also mult, luma_mult and offset. Lists without the zeros at their end
abbrev Luma : Type 0
Luma = ℕ × List (ℕ × ℕ) × List ℕ

abbrev Chroma : Type 0
Chroma = ℕ × List (ℕ × ℕ) × List ℕ × ℕ × ℕ × ℕ

-- chroma_scaling_from_luma, grain_scaling, ar_coeff_lag, ar_coeff_shift, grain_scale_shift, overlap_flag, clip_to_restricted_range, predicted
abbrev Rest : Type 0
Rest = Bool × ℕ × ℕ × ℕ × ℕ × Bool × Bool × Bool

-- an array of n places
abbrev places : ℕ → List ℕ → List ℕ
places n l = l ++ replicate (n - length l) 0

abbrev values : ℕ → List (ℕ × ℕ) → List ℕ
values n points = places n (map (λ q. q.0) points)

abbrev scalings : ℕ → List (ℕ × ℕ) → List ℕ
scalings n points = places n (map (λ q. q.1) points)

abbrev params : Opening → Luma → Chroma → Chroma → Rest → FilmGrainParams
params (apply, seed, update, slot) (y, y-points, y-coeffs) (cb, cb-points, cb-coeffs, cb-mult, cb-luma-mult, cb-offset) (cr, cr-points, cr-coeffs, cr-mult, cr-luma-mult, cr-offset) (from-luma, scaling, lag, shift, scale-shift, overlap, clip, predicted) =
    record {
      apply_grain = apply;
      grain_seed = seed;
      update_grain = update;
      film_grain_params_ref_idx = slot;
      num_y_points = y;
      point_y_value = values 14 y-points;
      point_y_scaling = scalings 14 y-points;
      chroma_scaling_from_luma = from-luma;
      num_cb_points = cb;
      point_cb_value = values 10 cb-points;
      point_cb_scaling = scalings 10 cb-points;
      num_cr_points = cr;
      point_cr_value = values 10 cr-points;
      point_cr_scaling = scalings 10 cr-points;
      grain_scaling = scaling;
      ar_coeff_lag = lag;
      ar_coeffs_y_plus_128 = places 24 y-coeffs;
      ar_coeffs_cb_plus_128 = places 25 cb-coeffs;
      ar_coeffs_cr_plus_128 = places 25 cr-coeffs;
      ar_coeff_shift = shift;
      grain_scale_shift = scale-shift;
      cb_mult = cb-mult;
      cb_luma_mult = cb-luma-mult;
      cb_offset = cb-offset;
      cr_mult = cr-mult;
      cr_luma_mult = cr-luma-mult;
      cr_offset = cr-offset;
      overlap_flag = overlap;
      clip_to_restricted_range = clip;
      predicted = predicted;
    }

-- ---- parts

-- the parameters themselves are in the header
abbrev updated : Opening
updated = (true, 0x1234, true, 0)

-- two points and, for lag 1, four coefficients
abbrev two : Luma
two = (2, (0, 20) ∷ (255, 40) ∷ [], 122 ∷ 148 ∷ 133 ∷ 152 ∷ [])

-- 14 points, whatever number it says, and 24 coefficients
abbrev fourteen : ℕ → Luma
fourteen n = (n, tabulate 14 (λ i. (242 + i, i)), replicate 24 0x5a)

-- a point, so many coefficients, and an offset
abbrev one : ℕ → ℕ → Chroma
one coeffs offset = (1, (0x65, 0x87) ∷ [], tabulate coeffs (λ i. i + 1), 0x13, 0x35, offset)

abbrev no_luma : Luma
no_luma = (0, [], [])

abbrev no_chroma : Chroma
no_chroma = (0, [], [], 0, 0, 0)

abbrev usual : Rest
usual = (false, 11, 1, 7, 0, true, true, false)

abbrev no_rest : Rest
no_rest = (false, 0, 0, 0, 0, false, false, false)

-- ---- records

-- of the first four fields alone, and with luma alone
abbrev opened : Opening → FilmGrainParams
opened o = params o no_luma no_chroma no_chroma no_rest

abbrev with_luma : Luma → Rest → FilmGrainParams
with_luma y = params updated y no_chroma no_chroma

abbrev slot_named : FilmGrainParams
slot_named = opened (true, 0x1234, false, 5)

abbrev two_points : FilmGrainParams
two_points = with_luma two usual

abbrev from_luma : FilmGrainParams
from_luma =
    params updated two
    (0, [], 1 ∷ 2 ∷ 3 ∷ 4 ∷ 5 ∷ [], 0, 0, 0)
    (0, [], 6 ∷ 7 ∷ 8 ∷ 9 ∷ 10 ∷ [], 0, 0, 0)
    (true, 11, 1, 7, 0, true, true, false)

abbrev three_planes : FilmGrainParams
three_planes =
    params (true, 0xabcd, true, 0)
    (1, (0x21, 0x43) ∷ [], [])
    (1, (0x65, 0x87) ∷ [], 0x8a ∷ [], 0x13, 0x35, 0x157)
    (2, (0x0e, 0x2d) ∷ (0x4c, 0x6b) ∷ [], 0xa9 ∷ [], 0x79, 0x9b, 0x0bd)
    (false, 9, 0, 8, 3, true, false, false)

-- luma points with those of Cr alone; those of Cb and Cr alone
abbrev cr_alone : FilmGrainParams
cr_alone = params updated two no_chroma (one 5 0) usual

abbrev chroma_alone : FilmGrainParams
chroma_alone = params updated no_luma (one 4 0) (one 4 0) usual

abbrev largest : FilmGrainParams
largest =
    params (true, 0xffff, true, 0) (fourteen 14)
    (10, tabulate 10 (λ i. (i, 200 + i)), replicate 25 0x11, 1, 2, 511)
    (10, tabulate 10 (λ i. (25 * i, 100 + i)), replicate 25 0xe7, 253, 254, 256)
    (false, 11, 3, 9, 3, true, true, false)

-- ---- rows: a record, whether the frame is inter, a format and a destination of 255s; the answer and the destination afterwards

abbrev pub Call : Type 0
Call = FilmGrainParams × Bool × ℕ × List ℕ

abbrev pub Outcome : Type 0
Outcome = Written × List ℕ

abbrev pub outcome : Call → Outcome
outcome (p, inter, format, d) = write_outcome p inter format d

-- so many bits, in these bytes; so many bytes past them remain
abbrev wrote : FilmGrainParams → Bool → ℕ → ℕ → List ℕ → ℕ → Case Call Outcome
wrote p inter format bits bytes past =
    row (p, inter, format, replicate (length bytes + past) 255) (written 0 bits, bytes ++ replicate past 255)

-- Bits, field by field, highest first. Two points:
--   1  0001 0010 0011 0100  1                           applied, the seed, updated
--   0010  0000 0000  0001 0100  1111 1111  0010 1000    2 points: 0 and 20, 255 and 40
--   0  0000  0000                                       chroma not from luma, no points of Cb, none of Cr
--   11  01  0111 1010  1001 0100  1000 0101  1001 1000  scaling 8 + 3, lag 1, four coefficients
--   01  00  1  1                                        shift 6 + 1, scale shift 0, overlap, clip
abbrev two_point_bytes : List ℕ
two_point_bytes = 0x89 ∷ 0x1a ∷ 0x48 ∷ 0x00 ∷ 0x53 ∷ 0xfc ∷ 0xa0 ∷ 0x01 ∷ 0xaf ∷ 0x52 ∷ 0x90 ∷ 0xb3 ∷ 0x09 ∷ 0x80 ∷ []

-- Chroma from luma: a 1 follows the points, and five coefficients of Cb and five of Cr those of luma.
abbrev from_luma_bytes : List ℕ
from_luma_bytes =
    0x89 ∷ 0x1a ∷ 0x48 ∷ 0x00 ∷ 0x53 ∷ 0xfc ∷ 0xa3 ∷ 0xaf ∷ 0x52 ∷ 0x90 ∷ 0xb3 ∷
    0x00 ∷ 0x20 ∷ 0x40 ∷ 0x60 ∷ 0x80 ∷ 0xa0 ∷ 0xc0 ∷ 0xe1 ∷ 0x01 ∷ 0x21 ∷ 0x49 ∷ 0x80 ∷ []

-- Three planes:
--   1  1010 1011 1100 1101  1                           applied, the seed, updated
--   0001  0010 0001  0100 0011  0                       a luma point, chroma not from luma
--   0001  0110 0101  1000 0111                          a point of Cb
--   0010  0000 1110  0010 1101  0100 1100  0110 1011    2 points of Cr
--   01  00  1000 1010  1010 1001                        scaling 8 + 1, lag 0, a coefficient of Cb, one of Cr
--   10  11                                              shift 6 + 2, scale shift 3
--   0001 0011  0011 0101  1 0101 0111                   multipliers and offset of Cb
--   0111 1001  1001 1011  0 1011 1101                   those of Cr
--   1  0                                                overlap, no clip
abbrev three_plane_bytes : List ℕ
three_plane_bytes =
    0xd5 ∷ 0xe6 ∷ 0xc4 ∷ 0x85 ∷ 0x0c ∷ 0x2c ∷ 0xb0 ∷ 0xe4 ∷ 0x1c ∷ 0x5a ∷ 0x98 ∷
    0xd6 ∷ 0x91 ∷ 0x55 ∷ 0x36 ∷ 0x26 ∷ 0x6b ∷ 0x57 ∷ 0x79 ∷ 0x9b ∷ 0x5e ∷ 0xc0 ∷ []

-- Of a point of Cr and five coefficients; of no luma point, so no luma coefficient, and four coefficients of Cb and Cr.
abbrev cr_alone_bytes : List ℕ
cr_alone_bytes =
    0x89 ∷ 0x1a ∷ 0x48 ∷ 0x00 ∷ 0x53 ∷ 0xfc ∷ 0xa0 ∷ 0x02 ∷ 0xcb ∷ 0x0f ∷ 0xaf ∷ 0x52 ∷
    0x90 ∷ 0xb3 ∷ 0x00 ∷ 0x20 ∷ 0x40 ∷ 0x60 ∷ 0x80 ∷ 0xa8 ∷ 0x26 ∷ 0x6a ∷ 0x00 ∷ 0xc0 ∷ []

abbrev chroma_alone_bytes : List ℕ
chroma_alone_bytes =
    0x89 ∷ 0x1a ∷ 0x40 ∷ 0x2c ∷ 0xb0 ∷ 0xe2 ∷ 0xcb ∷ 0x0f ∷ 0xa0 ∷ 0x20 ∷ 0x40 ∷ 0x60 ∷
    0x80 ∷ 0x20 ∷ 0x40 ∷ 0x60 ∷ 0x88 ∷ 0x26 ∷ 0x6a ∷ 0x00 ∷ 0x13 ∷ 0x35 ∷ 0x00 ∷ 0x60 ∷ []

-- The largest, to the points of Y, to those of Cb, to those of Cr, then the coefficients, which begin three bits into a byte.
abbrev largest_bytes : List ℕ
largest_bytes =
    0xff ∷ 0xff ∷ 0xfb ∷ 0xc8 ∷ 0x03 ∷ 0xcc ∷ 0x07 ∷ 0xd0 ∷ 0x0b ∷ 0xd4 ∷ 0x0f ∷ 0xd8 ∷ 0x13 ∷ 0xdc ∷ 0x17 ∷
    0xe0 ∷ 0x1b ∷ 0xe4 ∷ 0x1f ∷ 0xe8 ∷ 0x23 ∷ 0xec ∷ 0x27 ∷ 0xf0 ∷ 0x2b ∷ 0xf4 ∷ 0x2f ∷ 0xf8 ∷ 0x33 ∷ 0xfc ∷ 0x35 ∷
    0x40 ∷ 0x19 ∷ 0x00 ∷ 0x39 ∷ 0x20 ∷ 0x59 ∷ 0x40 ∷ 0x79 ∷ 0x60 ∷ 0x99 ∷ 0x80 ∷ 0xb9 ∷ 0xa0 ∷ 0xd9 ∷ 0xc0 ∷ 0xf9 ∷ 0xe1 ∷ 0x1a ∷ 0x01 ∷ 0x3a ∷
    0x34 ∷ 0x00 ∷ 0xc8 ∷ 0x32 ∷ 0xca ∷ 0x64 ∷ 0xcc ∷ 0x96 ∷ 0xce ∷ 0xc8 ∷ 0xd0 ∷ 0xfa ∷ 0xd3 ∷ 0x2c ∷ 0xd5 ∷ 0x5e ∷ 0xd7 ∷ 0x90 ∷ 0xd9 ∷ 0xc2 ∷ 0xdb ∷
    0xeb ∷ replicate 23 0x4b ++ (0x42 ∷ replicate 24 0x22 ++ (0x3c ∷ replicate 24 0xfc ++ (0xfe ∷ 0x02 ∷ 0x05 ∷ 0xff ∷ 0xfd ∷ 0xfe ∷ 0x80 ∷ 0x60 ∷ [])))

abbrev pub written_cases : List (Case Call Outcome)
written_cases =
    -- not applied; a slot: 1  0001 0010 0011 0100  0  101
    wrote reset true 1 1 (0x00 ∷ []) 2 ∷
    wrote slot_named true 1 21 (0x89 ∷ 0x1a ∷ 0x28 ∷ []) 2 ∷
    -- two points; with `predicted`; on a frame that is not inter, with no bit of update_grain; monochrome, with none of chroma
    wrote two_points true 1 105 two_point_bytes 2 ∷
    wrote (with_luma two (false, 11, 1, 7, 0, true, true, true)) true 1 105 two_point_bytes 2 ∷
    wrote two_points false 1 104 (0x89 ∷ 0x1a ∷ 0x10 ∷ 0x00 ∷ 0xa7 ∷ 0xf9 ∷ 0x40 ∷ 0x03 ∷ 0x5e ∷ 0xa5 ∷ 0x21 ∷ 0x66 ∷ 0x13 ∷ []) 2 ∷
    wrote two_points true 0 96 (0x89 ∷ 0x1a ∷ 0x48 ∷ 0x00 ∷ 0x53 ∷ 0xfc ∷ 0xa3 ∷ 0x5e ∷ 0xa5 ∷ 0x21 ∷ 0x66 ∷ 0x13 ∷ []) 2 ∷
    -- chroma
    wrote from_luma true 1 177 from_luma_bytes 2 ∷
    wrote three_planes true 3 171 three_plane_bytes 2 ∷
    wrote cr_alone true 2 186 cr_alone_bytes 2 ∷
    wrote chroma_alone true 2 187 chroma_alone_bytes 2 ∷
    wrote largest true 1 1227 largest_bytes 0 ∷
    []

-- refused with this number, where the destination has so many bytes
abbrev refused : ℕ → FilmGrainParams → Bool → ℕ → ℕ → Case Call Outcome
refused n p inter format room = row (p, inter, format, replicate room 255) (written n 0, replicate room 255)

-- for a field, on an inter frame in 4:2:0 with room for any header
abbrev fault : FilmGrainParams → Case Call Outcome
fault p = refused 10 p true 1 154

abbrev equal_points : FilmGrainParams
equal_points = with_luma (2, (7, 20) ∷ (7, 40) ∷ [], []) usual

abbrev pub refused_cases : List (Case Call Outcome)
refused_cases =
    -- the format, also of a record that has a fault and no room
    refused 4 two_points true 4 154 ∷
    refused 4 equal_points true 4 0 ∷
    -- not applied but updated; slot 8; a slot and overlap; a slot and updated; a slot on a frame that is not inter
    fault (opened (false, 0, true, 0)) ∷
    fault (opened (true, 0x1234, false, 8)) ∷
    fault (params (true, 0x1234, false, 5) no_luma no_chroma no_chroma (false, 0, 0, 0, 0, true, false, false)) ∷
    fault (params (true, 0x1234, true, 5) two no_chroma no_chroma usual) ∷
    refused 10 slot_named false 1 154 ∷
    -- points: equal, past their number, too many
    fault equal_points ∷
    fault (with_luma (1, (0, 20) ∷ (0, 40) ∷ [], []) usual) ∷
    fault (with_luma (fourteen 15) (false, 11, 3, 7, 0, true, true, false)) ∷
    fault (with_luma (fourteen 200) (false, 11, 3, 7, 0, true, true, false)) ∷
    -- chroma points: of Cr alone, and without luma's, in 4:2:0; in monochrome
    fault cr_alone ∷
    fault chroma_alone ∷
    refused 10 three_planes true 0 154 ∷
    -- grain_scaling 7; lag 4; a fifth coefficient at lag 1; a Cb offset of 512
    fault (with_luma two (false, 7, 1, 7, 0, true, true, false)) ∷
    fault (with_luma two (false, 11, 4, 7, 0, true, true, false)) ∷
    fault (with_luma (2, (0, 20) ∷ (255, 40) ∷ [], 122 ∷ 148 ∷ 133 ∷ 152 ∷ 1 ∷ []) usual) ∷
    fault (params updated two (one 5 512) (one 5 0) usual) ∷
    -- a byte too few; a fault and no room
    refused 11 reset true 1 0 ∷
    refused 11 slot_named true 1 2 ∷
    refused 11 largest true 1 153 ∷
    refused 10 equal_points true 1 0 ∷
    []
