-- `fit_ar_lag`: the questions, luma's fit, then chroma's.
use Rattle.std.proofs.Common.{◌∙◌, sym, ap, arith, length-take-le}
use Rattle.std.proofs.lemmas.Grind.{common_steps}
use Rattle.frame.specs.declared.view.Geometry.{Geometry}
use Rattle.noise.specs.Average.{luma_seen}
use Rattle.noise.specs.Seen.{seen}
use Rattle.fit.specs.Answer.{first_of}
use Rattle.fit.proofs.Zeros.{front-zero}
use Rattle.frame.proofs.Accepted.{fit-inside}
use Rattle.frame.proofs.FirstNo.{number-above}
use Rattle.noise.proofs.Accepted.{fit-seen}
use Rattle.float.specs.Reading.{both}
use Rattle.fit.proofs.Answers.{refused, none, some}
use Rattle.fit.proofs.Places.{first-room}
use Rattle.fit.proofs.fit_ar_lag.Goals as goal

pub returns-in_err-ask_fit : goal.returns-in_err-ask_fit
returns-in_err-ask_fit c =
    let h = refused _ _ _ _ _ _ _ _ _ c.in_err-ask_fit.ensures (number-above c.in_err-ask_fit.field-0.0) in
    grind (arith, common_steps, h)

pub geometry_of-requires : goal.geometry_of-requires
geometry_of-requires c = fit-inside _ _ _ _ _ _ _ _ (sym c.in_ok-ask_fit.ensures)

pub show_frame-shown-requires : goal.show_frame-shown-requires
show_frame-shown-requires c = rw c.geometry_of.ensures (fit-seen _ _ _ _ _ _ _ _ (sym c.in_ok-ask_fit.ensures)).0

pub invariant_of-lag : goal.invariant_of-lag
invariant_of-lag c = record { few = (fit-seen _ _ _ _ _ _ _ _ (sym c.in_ok-ask_fit.ensures)).1 }

pub slice_bounds-luma-end : goal.slice_bounds-luma-end
slice_bounds-luma-end c = first-room both (fit-seen _ _ _ _ _ _ _ _ (sym c.in_ok-ask_fit.ensures)).1 c.neighbours-count.ensures c.luma_fit.result c.without_tap-luma.ensures

pub slice_bounds-all_zero-end : goal.slice_bounds-all_zero-end
slice_bounds-all_zero-end c = sym (length-take-le _ c.without_tap-luma.result (first-room both (fit-seen _ _ _ _ _ _ _ _ (sym c.in_ok-ask_fit.ensures)).1 c.neighbours-count.ensures c.luma_fit.result c.without_tap-luma.ensures))

pub returns-then-all_zero : goal.returns-then-all_zero
returns-then-all_zero c =
    let F = c.args.frame.now in
    let S = c.show_frame-shown.ensures in
    let g = c.geometry_of.ensures in
    let seen-is = S.luma ∙ ap (λ (h : Geometry). luma_seen h F.source.y.now F.denoised.y.now) g in
    let solved = c.without_tap-luma.ensures ∙ ap (first_of both) c.luma_fit.ensures in
    let tested = c.all_zero.ensures ∙ front-zero (λ q. q.coefficient) c.without_tap-luma.result c.neighbours-count.result (first-room both (fit-seen _ _ _ _ _ _ _ _ (sym c.in_ok-ask_fit.ensures)).1 c.neighbours-count.ensures c.luma_fit.result c.without_tap-luma.ensures) in
    none _ _ _ _ _ _ _ _ c.in_ok-ask_fit.ensures _ seen-is _ c.neighbours-count.ensures _ solved _ tested c.if-all_zero.true

pub returns : goal.returns
returns c =
    let F = c.args.frame.now in
    let S = c.show_frame-shown.ensures in
    let g = c.geometry_of.ensures in
    let seen-is = S.luma ∙ ap (λ (h : Geometry). luma_seen h F.source.y.now F.denoised.y.now) g in
    let solved = c.without_tap-luma.ensures ∙ ap (first_of both) c.luma_fit.ensures in
    let tested = c.all_zero.ensures ∙ front-zero (λ q. q.coefficient) c.without_tap-luma.result c.neighbours-count.result (first-room both (fit-seen _ _ _ _ _ _ _ _ (sym c.in_ok-ask_fit.ensures)).1 c.neighbours-count.ensures c.luma_fit.result c.without_tap-luma.ensures) in
    some _ _ _ _ _ _ _ _ c.in_ok-ask_fit.ensures _ seen-is _ c.neighbours-count.ensures _ solved _ tested c.if-all_zero.false
    _ _ (S.cb ∙ ap (λ (h : Geometry). seen h.chroma F.source.cb.now F.denoised.cb.now) g) (S.cr ∙ ap (λ (h : Geometry). seen h.chroma F.source.cr.now F.denoised.cr.now) g)
    _ _ c.chroma_fit.ensures.cb c.chroma_fit.ensures.cr
