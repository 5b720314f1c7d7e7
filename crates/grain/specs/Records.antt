-- "A refused call returns its number, with every other field of the answer zero." The answers that are or hold enums, as records: an enum doesn't cross to C.
use Rattle.std.specs.Float.{fin}
use Rattle.std.specs.Prelude.{ℕ, pos, false, Result, Ok, Err, Float}
use Rattle.float.specs.Mark.{number}
use Rattle.float.specs.declared.quant.Quantised.{Quantised}
use Rattle.random.specs.Register.{Step}
use Rattle.random.specs.declared.register.RandomRegister.{RandomRegister}
use Rattle.grain.specs.declared.fits.QuantisedRecord.{QuantisedRecord}
use Rattle.grain.specs.declared.gates.RhoRecord.{RhoRecord}
use Rattle.grain.specs.declared.draws.DrawRecord.{DrawRecord}
use Rattle.grain.specs.declared.draws.StepRecord.{StepRecord}

-- the mark by its number
abbrev pub of_quantised : Quantised → QuantisedRecord
of_quantised q = record { coefficient = q.coefficient; mark = number q.mark }

-- plus zero where it is refused
abbrev pub of_rho : Result Float ℕ → RhoRecord
of_rho (Err n) = record { refusal = n; value = fin false 0 (pos 0) }
of_rho (Ok x) = record { refusal = 0; value = x }

abbrev pub of_draw : Result ℕ ℕ → DrawRecord
of_draw (Err n) = record { refusal = n; value = 0 }
of_draw (Ok x) = record { refusal = 0; value = x }

abbrev pub of_stepped : Step → StepRecord
of_stepped s =
    let d = of_draw s.draw in
    record { refusal = d.refusal; value = d.value; after = s.register }

-- the draw, and the register as it is left
abbrev pub of_next : Step → DrawRecord × RandomRegister
of_next s = (of_draw s.draw, s.register)
