-- The tests of a format are those of its number. By cases on the format. Assumes nothing.
use mathlib.Core.Path.{◌≡◌, refl}
use mathlib.Core.Bool.{true}
use lib.Dec.{leb, eqb}
use denote.Enum.Bare.{sameb}
use Rattle.header.specs.declared.format.Format.{Format}
use Rattle.header.specs.declared.format.Format.TheVariants.{Monochrome, Yuv420, Yuv422, Yuv444}
use Rattle.header.specs.contracts.format.Format.{the_type}
use Rattle.header.specs.Format.{format_number}

pub is_monochrome : (f : Format) → sameb the_type f Monochrome ≡ eqb (format_number f) 0
is_monochrome Monochrome = refl
is_monochrome Yuv420 = refl
is_monochrome Yuv422 = refl
is_monochrome Yuv444 = refl

pub is_yuv420 : (f : Format) → sameb the_type f Yuv420 ≡ eqb (format_number f) 1
is_yuv420 Monochrome = refl
is_yuv420 Yuv420 = refl
is_yuv420 Yuv422 = refl
is_yuv420 Yuv444 = refl

pub number_known : (f : Format) → leb (format_number f) 3 ≡ true
number_known Monochrome = refl
number_known Yuv420 = refl
number_known Yuv422 = refl
number_known Yuv444 = refl
