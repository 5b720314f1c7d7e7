-- Chroma size by the AV1 specification: (w + subX) >> subX columns and (h + subY) >> subY rows; monochrome has no chroma, and the syntax counts it as subX = subY = 1.
use Rattle.std.specs.Prelude.{ℕ}
use Rattle.frame.specs.Size.{sampled}

pub data Format : Type 0 where
  monochrome yuv420 yuv422 yuv444 : Format

unfoldable pub sub_x : Format → ℕ
sub_x monochrome = 1
sub_x yuv420 = 1
sub_x yuv422 = 1
sub_x yuv444 = 0

unfoldable pub sub_y : Format → ℕ
sub_y monochrome = 1
sub_y yuv420 = 1
sub_y yuv422 = 0
sub_y yuv444 = 0

unfoldable pub columns : Format → ℕ → ℕ
columns monochrome w = 0
columns yuv420 w = sampled (sub_x yuv420) w
columns yuv422 w = sampled (sub_x yuv422) w
columns yuv444 w = sampled (sub_x yuv444) w

unfoldable pub rows : Format → ℕ → ℕ
rows monochrome h = 0
rows yuv420 h = sampled (sub_y yuv420) h
rows yuv422 h = sampled (sub_y yuv422) h
rows yuv444 h = sampled (sub_y yuv444) h

-- the number by which the scope calls a format
abbrev pub number : Format → ℕ
number monochrome = 0
number yuv420 = 1
number yuv422 = 2
number yuv444 = 3
