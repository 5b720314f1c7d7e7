-- The bit pattern of each constant, which is what the code holds, and the values of those that divide sums. By computation. Assumes nothing.
use mathlib.Core.Path.{◌≡◌, refl}
use mathlib.Core.Bool.{false}
use lib.Ieee.{binary64, of_bits, round}
use lib.Ieee.Exact.{HasValue}
use Rattle.laws.specs.Constants.{four, sixteen, sixty_four, tiny, three_quarters, two_fifths}

pub four-bits : of_bits binary64 0x4010_0000_0000_0000 ≡ four
unfolding of_bits round
four-bits = refl

pub sixteen-bits : of_bits binary64 0x4030_0000_0000_0000 ≡ sixteen
unfolding of_bits round
sixteen-bits = refl

pub sixty-four-bits : of_bits binary64 0x4050_0000_0000_0000 ≡ sixty_four
unfolding of_bits round
sixty-four-bits = refl

pub tiny-bits : of_bits binary64 0x3e11_2e0b_e826_d695 ≡ tiny
unfolding of_bits round
tiny-bits = refl

pub three-quarters-bits : of_bits binary64 0x3fe8_0000_0000_0000 ≡ three_quarters
unfolding of_bits round
three-quarters-bits = refl

pub two-fifths-bits : of_bits binary64 0x3fd9_9999_9999_999a ≡ two_fifths
unfolding of_bits round
two-fifths-bits = refl

pub four-value : HasValue four false 4 1
unfolding round
four-value = (refl, refl)

pub sixteen-value : HasValue sixteen false 16 1
unfolding round
sixteen-value = (refl, refl)
