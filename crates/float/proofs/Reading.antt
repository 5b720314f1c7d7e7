-- A coefficient that is set to zero reads as one of plus zero, quantised; and a part of what a reading tells is a reading. Assumes nothing.
use Rattle.std.proofs.Common.{◌≡◌, refl}
use lib.Ieee.{mul, round, of_bits, to_signed}
use Rattle.laws.specs.Scaled.{plus_zero}
use Rattle.float.specs.Mark.{mark}
use Rattle.float.specs.Reading.{Reading, coefficients, marks, both}
use Rattle.float.specs.Steps.{quant_ar}

pub zero-coefficient : coefficients.of plus_zero ≡ coefficients.unquantised
unfolding quant_ar mul round of_bits to_signed
zero-coefficient = refl

pub zero-mark : marks.of plus_zero ≡ marks.unquantised
unfolding mark of_bits
zero-mark = refl

pub zero-both : both.of plus_zero ≡ both.unquantised
unfolding quant_ar mark mul round of_bits to_signed
zero-both = refl

abbrev pub part : {A B : Type 0} → (A → B) → Reading A → Reading B
part f R = record { of = λ c. f (R.of c); unquantised = f R.unquantised }
