-- The worked cases of the solver, by computation. Assumes nothing.
use mathlib.Core.Path.{refl}
use lib.Ieee.{of_bits, of_int, neg, lt, sub, mul, div}
use Rattle.laws.specs.Loop.{loop, turns}
use Rattle.table.specs.Cases.{Right}
use Rattle.float.specs.Magnitude.{magnitude_of}
use Rattle.solve.specs.Elimination.{larger, pivot_of, pivoted, cell_less, row_less, row_cleared, cleared, tested, column, eliminated, known_less, unknown_of, placed, substituted}
use Rattle.solve.specs.Answer.{answer_of, solved_of}
use Rattle.table.specs.Solver.{solved, cases}

pub cases-right : Right solved cases
unfolding solved_of answer_of eliminated column tested pivoted pivot_of larger magnitude_of cleared row_cleared row_less cell_less substituted placed unknown_of known_less loop turns of_bits of_int neg lt sub mul div
cases-right = (refl, (refl, (refl, (refl, (refl, (refl, (refl, (refl, tt))))))))
