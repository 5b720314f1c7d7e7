-- "The luma fit, the chroma fit and the chroma correlation carry this for each coefficient. One set to zero without quantising counts as inside."
-- Coefficients and marks are two readings of the same values: a fit's definition is written once, for any reading.
use Rattle.std.specs.Prelude.{ℕ, ℤ, pos, Float}
use Rattle.float.specs.Mark.{mark, number}
use Rattle.float.specs.Steps.{quant_ar}
use Rattle.float.specs.declared.quant.Mark.TheVariants.{Inside}
use Rattle.float.specs.declared.quant.Quantised.{Quantised}

-- what is told of a value that is quantised, and of a coefficient that is set to zero without
pub record Reading (A : Type 0) : Type 0 where
  pub of : Float → A
  pub unquantised : A

-- the Rust's coefficients
abbrev pub coefficients : Reading ℤ
coefficients = record { of = quant_ar; unquantised = pos 0 }

-- as bytes of an answer
abbrev pub marks : Reading ℕ
marks = record { of = λ c. number (mark c); unquantised = number Inside }

-- the answer of `quant_ar`
abbrev pub quantise : Float → Quantised
quantise c = record { coefficient = quant_ar c; mark = mark c }

-- a coefficient with its mark
abbrev pub both : Reading Quantised
both = record { of = quantise; unquantised = record { coefficient = pos 0; mark = Inside } }
