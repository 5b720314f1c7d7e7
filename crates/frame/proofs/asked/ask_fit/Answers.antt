-- The frame first, and then the lag.
use Rattle.std.proofs.Common.{[], ◌∷◌, refl, arith}
use Rattle.std.proofs.lemmas.Grind.{common_steps}
use Rattle.frame.specs.Questions.{lag_known}
use Rattle.frame.specs.Calls.{shape_numbers, frame_numbers, copy_questions, frame_refusal, fit_refusal}
use Rattle.frame.proofs.FirstNo.{stopped_by, after}
use Rattle.frame.proofs.asked.ask_fit.Goals as goal

pub returns-in_err-ask_frame : goal.returns-in_err-ask_frame
unfolding fit_refusal frame_refusal copy_questions frame_numbers shape_numbers
returns-in_err-ask_frame c =
    let a = c.args in
    let s = a.frame.now.source in
    let d = a.frame.now.denoised in
    let h = stopped_by (copy_questions a.s s.y.now s.cb.now s.cr.now d.y.now d.cb.now d.cr.now) (lag_known a.lag ∷ []) refl _ c.in_err-ask_frame.ensures in
    grind (arith, common_steps, h)

pub returns : goal.returns
unfolding fit_refusal frame_refusal copy_questions frame_numbers shape_numbers
returns c =
    let a = c.args in
    let s = a.frame.now.source in
    let d = a.frame.now.denoised in
    let h = after (copy_questions a.s s.y.now s.cb.now s.cr.now d.y.now d.cb.now d.cr.now) (lag_known a.lag ∷ []) refl c.in_ok-ask_frame.ensures in
    grind (arith, common_steps, h)
