-- The worked examples, by computation. Assumes nothing.
use mathlib.Core.Path.{refl}
use lib.Ieee.{add, sub, mul, div, le, of_int, of_bits, to_signed}
use Rattle.table.specs.Cases.{Right}
use Rattle.frame.specs.Size.{chroma_width, chroma_height}
use Rattle.frame.specs.View.{viewed}
use Rattle.frame.specs.Questions.{each, low, all_low}
use Rattle.frame.specs.Calls.{shape_numbers, frame_numbers, copy_questions, frame_refusal}
use Rattle.float.specs.Steps.{quant_ar}
use Rattle.float.specs.Mark.{mark}
use Rattle.noise.specs.Average.{average_f, quarters}
use Rattle.noise.specs.Steps.{window_f}
use Rattle.chroma_correlation.specs.Steps.{squares_f, products_f, corr}
use Rattle.chroma_correlation.specs.Answer.{corr_answer}
use Rattle.table.specs.Correlation.{figures, cases}

pub cases-right : Right figures cases
unfolding corr_answer frame_refusal copy_questions frame_numbers shape_numbers each low all_low chroma_width chroma_height viewed corr squares_f products_f quant_ar mark average_f quarters window_f add sub mul div le of_int of_bits to_signed
cases-right = (refl, (refl, (refl, (refl, (refl, tt)))))
