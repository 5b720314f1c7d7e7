-- The worked examples, by computation. Assumes nothing.
use mathlib.Core.Path.{refl}
use lib.Ieee.{add, sub, mul, div, le, lt, of_int, of_bits, to_unsigned}
use Rattle.laws.specs.Sums.{total}
use Rattle.table.specs.Cases.{Right}
use Rattle.frame.specs.Size.{chroma_width, chroma_height}
use Rattle.frame.specs.View.{viewed}
use Rattle.frame.specs.Questions.{each, low, all_low}
use Rattle.frame.specs.Calls.{shape_numbers, gate_numbers, gate_refusal}
use Rattle.float.specs.Magnitude.{magnitude_of}
use Rattle.float.specs.Root.{root}
use Rattle.float.specs.Steps.{sigma16_of}
use Rattle.noise.specs.Steps.{window_f, dot_f, lag_f}
use Rattle.profile.specs.Steps.{plane_sigma16, plane_squares}
use Rattle.gate.specs.RowCorrelation.{energy_f, row_correlation}
use Rattle.gate.specs.Answers.{luma_answer, chroma_answer}
use Rattle.gate.specs.Tests.{time_test, luma_row, temporal_by, luma_by, chroma_by}
use Rattle.table.specs.Gates.{luma_found, chroma_found, row_found, tests, near_found, active_found, active_cases, cases, row_cases, test_cases, near_cases}

pub row-cases-right : Right row_found row_cases
unfolding row_correlation energy_f window_f lag_f add sub mul div le of_int of_bits
row-cases-right = (refl, (refl, (refl, tt)))

pub luma-cases-right : Right luma_found cases
unfolding luma_answer viewed gate_refusal gate_numbers shape_numbers each low all_low luma_by temporal_by time_test luma_row magnitude_of root plane_sigma16 plane_squares sigma16_of window_f dot_f add sub mul div le lt of_int of_bits to_unsigned
luma-cases-right = (refl, (refl, (refl, (refl, tt))))

pub chroma-cases-right : Right chroma_found cases
unfolding chroma_answer viewed gate_refusal gate_numbers shape_numbers chroma_width chroma_height each low all_low chroma_by temporal_by time_test row_correlation energy_f lag_f magnitude_of root plane_sigma16 plane_squares sigma16_of window_f dot_f add sub mul div le lt of_int of_bits to_unsigned
chroma-cases-right = (refl, (refl, (refl, (refl, tt))))

pub active-cases-right : Right active_found active_cases
unfolding luma_answer chroma_answer viewed gate_refusal gate_numbers shape_numbers chroma_width chroma_height each low all_low luma_by chroma_by temporal_by time_test luma_row row_correlation energy_f lag_f magnitude_of root plane_sigma16 plane_squares sigma16_of window_f dot_f add sub mul div le lt of_int of_bits to_unsigned
active-cases-right = (refl, (refl, tt))

pub test-cases-right : Right tests test_cases
unfolding time_test magnitude_of root mul div lt of_int of_bits
test-cases-right = (refl, (refl, (refl, (refl, tt))))

pub near-cases-right : Right near_found near_cases
unfolding luma_answer viewed gate_refusal gate_numbers shape_numbers each low all_low luma_by temporal_by time_test luma_row magnitude_of root plane_sigma16 plane_squares sigma16_of window_f dot_f add sub mul div le lt of_int of_bits to_unsigned total
near-cases-right = (refl, tt)
