-- `chroma_correlation::fit_chroma_corr`: the questions, then the correlations of what the frame's geometry shows.
use Rattle.std.proofs.Common.{sym, refl, arith}
use Rattle.std.proofs.lemmas.Grind.{common_steps}
use Rattle.frame.proofs.Accepted.{frame-inside}
use Rattle.frame.proofs.FirstNo.{number-above}
use Rattle.chroma_correlation.proofs.Answers.{refused, shown, told, answered}
use Rattle.chroma_correlation.proofs.fit_chroma_corr.Goals as goal

pub returns-in_err-ask_frame : goal.returns-in_err-ask_frame
returns-in_err-ask_frame c = let h = refused _ _ _ _ _ _ _ _ c.in_err-ask_frame.ensures (number-above _) in grind (arith, common_steps, h)

pub geometry_of-requires : goal.geometry_of-requires
geometry_of-requires c = frame-inside _ _ _ _ _ _ _ (sym c.in_ok-ask_frame.ensures)

pub show_frame-shown-requires : goal.show_frame-shown-requires
show_frame-shown-requires c = rw c.geometry_of.ensures (shown _ _ _ _ _ _ _ _ c.in_ok-ask_frame.ensures refl)

pub returns : goal.returns
returns c =
    let E = c.show_frame-shown.ensures in
    let r = told _ _ _ _ _ _ _ c.correlate.result E.luma E.cb E.cr c.correlate.ensures.cb c.correlate.ensures.cr in
    answered _ _ _ _ _ _ _ _ c.in_ok-ask_frame.ensures _ refl (rw c.geometry_of.ensures at r)
