-- Every row of the tables holds, by computation. Assumes nothing.
use mathlib.Core.Path.{refl}
use lib.Ieee.{mul, div, round, of_int, of_bits, to_signed, to_unsigned}
use Rattle.table.specs.Cases.{Right}
use Rattle.float.specs.Round.{round_half_away}
use Rattle.float.specs.Root.{root}
use Rattle.float.specs.WorkedDigits.{worked_digits}
use Rattle.float.specs.Steps.{quant_ar, sigma16_of}
use Rattle.float.specs.Coefficient.{coefficient}
use Rattle.float.specs.Mark.{mark}
use Rattle.float.specs.Reading.{quantise}
use Rattle.float.specs.Sigma.{whole_sigma16, sum_of_squares}
use Rattle.table.specs.Float.{sigma, whole_sigma, sigma_cases, coefficient_cases, mark_cases, root_cases, digit_cases, round_cases}

pub sigma-cases-right : Right sigma sigma_cases
unfolding sigma16_of sum_of_squares mul div of_int of_bits to_unsigned
sigma-cases-right = (refl, (refl, (refl, (refl, (refl, (refl, (refl, tt)))))))

pub whole-sigma-cases-right : Right whole_sigma sigma_cases
unfolding whole_sigma16 sum_of_squares
whole-sigma-cases-right = (refl, (refl, (refl, (refl, (refl, (refl, (refl, tt)))))))

pub quant-cases-right : Right quant_ar coefficient_cases
unfolding quant_ar mul of_bits to_signed
quant-cases-right = (refl, (refl, (refl, (refl, (refl, (refl, (refl, tt)))))))

pub coefficient-cases-right : Right coefficient coefficient_cases
unfolding coefficient
coefficient-cases-right = (refl, (refl, (refl, (refl, (refl, (refl, (refl, tt)))))))

pub mark-cases-right : Right quantise mark_cases
unfolding quant_ar mark mul to_signed
mark-cases-right = (refl, (refl, (refl, (refl, (refl, (refl, (refl, (refl, (refl, (refl, (refl, tt)))))))))))

pub root-cases-right : Right root root_cases
unfolding root of_bits
root-cases-right = (refl, (refl, (refl, (refl, (refl, (refl, (refl, (refl, (refl, (refl, tt))))))))))

pub digit-cases-right : Right worked_digits digit_cases
unfolding worked_digits of_bits
digit-cases-right = (refl, (refl, (refl, (refl, (refl, (refl, (refl, (refl, (refl, (refl, (refl, (refl, (refl, (refl, (refl, (refl, (refl, (refl, (refl, tt)))))))))))))))))))

pub round-cases-right : Right round_half_away round_cases
unfolding round_half_away round of_bits
round-cases-right = (refl, (refl, (refl, (refl, (refl, (refl, (refl, (refl, (refl, (refl, (refl, tt)))))))))))
