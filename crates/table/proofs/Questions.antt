-- The worked refusals, row by row. By computation. Assumes nothing.
use mathlib.Core.Path.{refl}
use Rattle.table.specs.Cases.{Right}
use Rattle.frame.specs.Size.{chroma_width, chroma_height}
use Rattle.frame.specs.Questions.{each, low, all_low}
use Rattle.frame.specs.Calls.{plane_numbers, pair_numbers, shape_numbers, frame_numbers, gate_numbers, copy_questions, plane_refusal, pair_refusal, frame_refusal, fit_refusal, gate_refusal, denoise_frame_refusal}
use Rattle.table.specs.Questions.{plane, plane_cases, pair, pair_cases, frame, frame_cases, active, active_cases, fit, fit_cases, denoise_frame, denoise_frame_cases, luma_gate, luma_gate_cases, chroma_gate, chroma_gate_cases, order, order_cases, bits, bits_cases}

pub planes-right : Right plane plane_cases
unfolding plane_refusal plane_numbers each
planes-right = (refl, (refl, (refl, (refl, (refl, (refl, (refl, tt)))))))

pub pairs-right : Right pair pair_cases
unfolding pair_refusal pair_numbers each all_low low
pairs-right = (refl, (refl, (refl, (refl, (refl, (refl, (refl, (refl, (refl, (refl, (refl, (refl, tt))))))))))))

pub frames-right : Right frame frame_cases
unfolding frame_refusal copy_questions frame_numbers shape_numbers chroma_width chroma_height each all_low low
frames-right = (refl, (refl, (refl, (refl, (refl, (refl, (refl, (refl, (refl, (refl, (refl, (refl, (refl, (refl, (refl, (refl, (refl, (refl, (refl, (refl, (refl, (refl, tt))))))))))))))))))))))

pub active-right : Right active active_cases
unfolding frame_refusal copy_questions frame_numbers shape_numbers chroma_width chroma_height each all_low low
active-right = (refl, (refl, (refl, (refl, (refl, (refl, (refl, (refl, (refl, (refl, (refl, (refl, (refl, (refl, (refl, (refl, (refl, (refl, (refl, (refl, (refl, tt)))))))))))))))))))))

pub fits-right : Right fit fit_cases
unfolding fit_refusal copy_questions frame_numbers shape_numbers chroma_width chroma_height each all_low low
fits-right = (refl, (refl, (refl, (refl, tt))))

pub denoise-frames-right : Right denoise_frame denoise_frame_cases
unfolding denoise_frame_refusal frame_numbers shape_numbers chroma_width chroma_height each all_low low
denoise-frames-right = (refl, (refl, (refl, (refl, (refl, (refl, (refl, tt)))))))

pub luma-gates-right : Right luma_gate luma_gate_cases
unfolding gate_refusal gate_numbers shape_numbers each all_low low
luma-gates-right = (refl, (refl, (refl, (refl, (refl, (refl, (refl, (refl, (refl, tt)))))))))

pub chroma-gates-right : Right chroma_gate chroma_gate_cases
unfolding gate_refusal gate_numbers shape_numbers chroma_width chroma_height each all_low low
chroma-gates-right = (refl, (refl, (refl, (refl, (refl, tt)))))

pub orders-right : Right order order_cases
orders-right = (refl, (refl, (refl, (refl, tt))))

pub bits-right : Right bits bits_cases
bits-right = (refl, (refl, tt))
