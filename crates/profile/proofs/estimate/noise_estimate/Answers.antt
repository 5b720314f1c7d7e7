-- `profile::estimate::noise_estimate`: a refusal, or the profiles of its planes.
use Rattle.std.proofs.Common.{refl, sym, arith}
use Rattle.std.proofs.lemmas.Grind.{common_steps}
use Rattle.frame.proofs.Accepted.{frame-inside}
use Rattle.frame.proofs.FirstNo.{number-above}
use Rattle.profile.specs.Answers.{luma_of, chroma_of}
use Rattle.profile.proofs.Answered.{estimate-refused, estimate-accepted, estimate-seen}
use Rattle.profile.proofs.Figures.{profile-is}
use Rattle.profile.proofs.estimate.noise_estimate.Goals as goal

pub returns-in_err-ask_frame : goal.returns-in_err-ask_frame
returns-in_err-ask_frame c =
    let a = c.args.s in
    let p = c.args.frame.now.source in
    let q = c.args.frame.now.denoised in
    let h = estimate-refused a p.y.now p.cb.now p.cr.now q.y.now q.cb.now q.cr.now c.in_err-ask_frame.ensures (number-above _) in
    grind (arith, common_steps, h)

pub view_of-chroma-requires : goal.view_of-chroma-requires
view_of-chroma-requires c = frame-inside _ _ _ _ _ _ _ (sym c.in_ok-ask_frame.ensures)

pub view_of-requires : goal.view_of-requires
view_of-requires c = frame-inside _ _ _ _ _ _ _ (sym c.in_ok-ask_frame.ensures)

pub invariant_of-y : goal.invariant_of-y
invariant_of-y c =
    let p = c.args.frame.now.source in
    let q = c.args.frame.now.denoised in
    let seen = estimate-seen c.args.s p.y.now p.cb.now p.cr.now q.y.now q.cb.now q.cr.now c.in_ok-ask_frame.ensures refl c.view_of.ensures c.view_of-chroma.ensures in
    record { low = seen.0 }

pub invariant_of-cb : goal.invariant_of-cb
invariant_of-cb c =
    let p = c.args.frame.now.source in
    let q = c.args.frame.now.denoised in
    let seen = estimate-seen c.args.s p.y.now p.cb.now p.cr.now q.y.now q.cb.now q.cr.now c.in_ok-ask_frame.ensures refl c.view_of.ensures c.view_of-chroma.ensures in
    record { low = seen.1 }

pub invariant_of-cr : goal.invariant_of-cr
invariant_of-cr c =
    let p = c.args.frame.now.source in
    let q = c.args.frame.now.denoised in
    let seen = estimate-seen c.args.s p.y.now p.cb.now p.cr.now q.y.now q.cb.now q.cr.now c.in_ok-ask_frame.ensures refl c.view_of.ensures c.view_of-chroma.ensures in
    record { low = seen.2 }

pub returns : goal.returns
returns c =
    let p = c.args.frame.now.source in
    let q = c.args.frame.now.denoised in
    estimate-accepted c.args.s p.y.now p.cb.now p.cr.now q.y.now q.cb.now q.cr.now c.in_ok-ask_frame.ensures refl c.view_of.ensures c.view_of-chroma.ensures
    (λ i. luma_of (profile-is c.profile_of.ensures i)) (λ i. chroma_of (profile-is c.profile_of-2.ensures i)) (λ i. chroma_of (profile-is c.profile_of-3.ensures i))
