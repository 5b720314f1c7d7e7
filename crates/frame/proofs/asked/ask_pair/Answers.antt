-- The numbers first, and then the samples.
use Rattle.std.proofs.Common.{[], ◌∷◌, refl, length, arith}
use Rattle.std.proofs.lemmas.Grind.{common_steps}
use Rattle.frame.specs.Questions.{samples_low}
use Rattle.frame.specs.Calls.{pair_numbers, pair_refusal}
use Rattle.frame.proofs.FirstNo.{stopped_by, after}
use Rattle.frame.proofs.asked.ask_pair.Goals as goal

pub returns-in_err-ask_pair_numbers : goal.returns-in_err-ask_pair_numbers
unfolding pair_refusal pair_numbers
returns-in_err-ask_pair_numbers c =
    let a = c.args in
    let p = a.pair in
    let qs = pair_numbers a.width a.height a.depth (length p.source.now ∷ length p.denoised.now ∷ []) in
    let h = stopped_by qs (samples_low a.depth (p.source.now ∷ p.denoised.now ∷ []) ∷ []) refl _ c.in_err-ask_pair_numbers.ensures in
    grind (arith, common_steps, h)

pub returns : goal.returns
unfolding pair_refusal pair_numbers
returns c =
    let a = c.args in
    let p = a.pair in
    let qs = pair_numbers a.width a.height a.depth (length p.source.now ∷ length p.denoised.now ∷ []) in
    let h = after qs (samples_low a.depth (p.source.now ∷ p.denoised.now ∷ []) ∷ []) refl c.in_ok-ask_pair_numbers.ensures in
    grind (arith, common_steps, h)
