-- The numbers first, and then the samples.
use Rattle.std.proofs.Common.{[], ◌∷◌, refl, map, length, arith}
use Rattle.std.proofs.lemmas.Grind.{common_steps}
use Rattle.frame.specs.Questions.{samples_low}
use Rattle.frame.specs.Calls.{shape_numbers, frame_numbers, copy_questions, frame_refusal}
use Rattle.frame.proofs.FirstNo.{stopped_by, after}
use Rattle.frame.proofs.asked.ask_frame.Goals as goal

pub returns-in_err-ask_lengths : goal.returns-in_err-ask_lengths
unfolding frame_refusal copy_questions frame_numbers shape_numbers
returns-in_err-ask_lengths c =
    let a = c.args in
    let s = a.frame.now.source in
    let d = a.frame.now.denoised in
    let qs = frame_numbers a.s (map length (s.y.now ∷ d.y.now ∷ [])) (map length (s.cb.now ∷ s.cr.now ∷ d.cb.now ∷ d.cr.now ∷ [])) in
    let h = stopped_by qs (samples_low a.s.depth (s.y.now ∷ s.cb.now ∷ s.cr.now ∷ d.y.now ∷ d.cb.now ∷ d.cr.now ∷ []) ∷ []) refl _ c.in_err-ask_lengths.ensures in
    grind (arith, common_steps, h)

pub returns : goal.returns
unfolding frame_refusal copy_questions frame_numbers shape_numbers
returns c =
    let a = c.args in
    let s = a.frame.now.source in
    let d = a.frame.now.denoised in
    let qs = frame_numbers a.s (map length (s.y.now ∷ d.y.now ∷ [])) (map length (s.cb.now ∷ s.cr.now ∷ d.cb.now ∷ d.cr.now ∷ [])) in
    let h = after qs (samples_low a.s.depth (s.y.now ∷ s.cb.now ∷ s.cr.now ∷ d.y.now ∷ d.cb.now ∷ d.cr.now ∷ []) ∷ []) refl c.in_ok-ask_lengths.ensures in
    grind (arith, common_steps, h)
