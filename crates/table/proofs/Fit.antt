-- The worked fits, by computation. Assumes nothing.
use mathlib.Core.Path.{refl}
use lib.Ieee.{add, sub, mul, div, lt, le, of_int, of_bits, to_signed}
use Rattle.table.specs.Cases.{Right}
use Rattle.laws.specs.Loop.{turns, loop}
use Rattle.frame.specs.Size.{chroma_width, chroma_height}
use Rattle.frame.specs.View.{viewed}
use Rattle.frame.specs.Questions.{each, low, all_low}
use Rattle.frame.specs.Calls.{shape_numbers, frame_numbers, copy_questions, fit_refusal}
use Rattle.float.specs.Magnitude.{magnitude_of}
use Rattle.float.specs.Mark.{mark}
use Rattle.float.specs.Steps.{quant_ar}
use Rattle.noise.specs.Steps.{window_f}
use Rattle.positions.specs.Positions as positions
use Rattle.solve.specs.Elimination.{larger, pivot_of, pivoted, cell_less, row_less, row_cleared, cleared, tested, column, eliminated, known_less, unknown_of, placed, substituted}
use Rattle.solve.specs.Answer.{answer_of, solved_of}
use Rattle.fit.specs.Steps.{fit_f, cell_of, row_of, matrix_of, value_of, right_of, solved_fit, quantised, coefficients_of, energy_f, luma_fit, chroma_fit}
use Rattle.fit.specs.Answer.{all_zero, first_of, fit_of, fit_answer}
use Rattle.table.specs.Fit.{fit, cases}

pub cases-right : Right fit cases
unfolding fit_answer fit_of all_zero first_of luma_fit chroma_fit energy_f coefficients_of quantised solved_fit right_of value_of matrix_of row_of cell_of fit_f fit_refusal copy_questions frame_numbers shape_numbers each low all_low chroma_width chroma_height viewed solved_of answer_of larger pivot_of pivoted cell_less row_less row_cleared cleared tested column eliminated known_less unknown_of placed substituted magnitude_of quant_ar mark window_f turns loop add sub mul div lt le of_int of_bits to_signed positions.positions positions.row positions.turn positions.body
cases-right = (refl, (refl, (refl, (refl, (refl, (refl, tt))))))
