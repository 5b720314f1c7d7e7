-- The rows of `sum_cases`, by computation. Assumes nothing.
use mathlib.Core.Path.{refl}
use lib.Ieee.{add, round, of_bits}
use Rattle.table.specs.Cases.{Right}
use Rattle.laws.specs.Scaled.{of_scaled}
use Rattle.laws.specs.FloatSums.{sum_f}
use Rattle.table.specs.Sums.{sum_cases}

pub sum-cases-right : Right sum_f sum_cases
unfolding sum_f add round of_bits of_scaled
sum-cases-right = (refl, (refl, (refl, (refl, tt))))
