-- "Chroma size (yuv_frame.rs) is 0×0 for 0; width (w+1)>>1 for 1 and 2; height (h+1)>>1 for 1; else as luma."
-- The formats: 0 monochrome, 1 4:2:0, 2 4:2:2, 3 4:4:4.
use Rattle.std.specs.Prelude.{cond, ℕ, ◌+◌, ◌/◌, ◌^◌, eqb, leb}

unfoldable pub chroma_width : ℕ → ℕ → ℕ
chroma_width format w = cond (eqb format 0) 0 (cond (leb format 2) ((w + 1) / 2) w)

unfoldable pub chroma_height : ℕ → ℕ → ℕ
chroma_height format h = cond (eqb format 0) 0 (cond (eqb format 1) ((h + 1) / 2) h)

-- `subsampling()` of yuv_frame.rs: 1 where a format halves the columns, and the rows, else 0
abbrev pub sub_x : ℕ → ℕ
sub_x format = cond (leb format 2) 1 0

abbrev pub sub_y : ℕ → ℕ
sub_y format = cond (leb format 1) 1 0

-- (x + sub) >> sub: how many there are of x rows or columns, halved or not
abbrev pub sampled : ℕ → ℕ → ℕ
sampled sub x = (x + sub) / 2 ^ sub
