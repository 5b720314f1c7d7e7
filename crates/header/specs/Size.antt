-- "The answer is their number": how many bits the table of 5.9.30 has, in closed form. A list that is longer than its array has no more places than that.
use Rattle.std.specs.Prelude.{Bool, cond, not, ◌&&◌, ℕ, ◌+◌, ◌*◌, min, ltb}
use Rattle.laws.specs.Limits.{neighbour_limit, order_limit}
use Rattle.header.specs.Record.{FilmGrainParams}
use Rattle.header.specs.declared.counts.Counts.{Counts}
use Rattle.header.specs.Text.{luma_point_limit, chroma_point_limit, monochrome}

-- apply_grain, grain_seed, update_grain, the slot
unfoldable pub opening_size : FilmGrainParams → Bool → ℕ
opening_size p inter =
    1 + cond p.apply_grain 16 0 + cond (p.apply_grain && inter) 1 0 + cond (p.apply_grain && not p.update_grain) 3 0

unfoldable pub size_of : FilmGrainParams → Bool → ℕ → Counts → ℕ
size_of p inter format c =
    opening_size p inter
    + (cond c.coded 14 0 + cond (c.coded && not (monochrome format)) 1 0 + cond c.chroma 8 0)
    + 16 * (min c.y_points luma_point_limit + min c.cb_points chroma_point_limit + min c.cr_points chroma_point_limit)
    + 8 * (min c.y_coeffs neighbour_limit + min c.cb_coeffs order_limit + min c.cr_coeffs order_limit)
    + (cond (ltb 0 c.cb_points) 25 0 + cond (ltb 0 c.cr_points) 25 0)
