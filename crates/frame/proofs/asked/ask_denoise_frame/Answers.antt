-- The numbers first, and then the samples.
use Rattle.std.proofs.Common.{[], ◌∷◌, refl, length, arith}
use Rattle.std.proofs.lemmas.Grind.{common_steps}
use Rattle.frame.specs.Questions.{samples_low}
use Rattle.frame.specs.Calls.{shape_numbers, frame_numbers, denoise_frame_refusal}
use Rattle.frame.proofs.FirstNo.{stopped_by, after}
use Rattle.frame.proofs.asked.ask_denoise_frame.Goals as goal

pub returns-in_err-ask_lengths : goal.returns-in_err-ask_lengths
unfolding denoise_frame_refusal frame_numbers shape_numbers
returns-in_err-ask_lengths c =
    let a = c.args in
    let f = a.frame.now in
    let qs = frame_numbers a.s (length f.y.now ∷ a.yout ∷ []) (length f.cb.now ∷ length f.cr.now ∷ a.cbout ∷ a.crout ∷ []) in
    let h = stopped_by qs (samples_low a.s.depth (f.y.now ∷ f.cb.now ∷ f.cr.now ∷ []) ∷ []) refl _ c.in_err-ask_lengths.ensures in
    grind (arith, common_steps, h)

pub returns : goal.returns
unfolding denoise_frame_refusal frame_numbers shape_numbers
returns c =
    let a = c.args in
    let f = a.frame.now in
    let qs = frame_numbers a.s (length f.y.now ∷ a.yout ∷ []) (length f.cb.now ∷ length f.cr.now ∷ a.cbout ∷ a.crout ∷ []) in
    let h = after qs (samples_low a.s.depth (f.y.now ∷ f.cb.now ∷ f.cr.now ∷ []) ∷ []) refl c.in_ok-ask_lengths.ensures in
    grind (arith, common_steps, h)
