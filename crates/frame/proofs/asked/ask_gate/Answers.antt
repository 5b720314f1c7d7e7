-- The shape first, then the lengths against the size of an accepted shape, and then the samples.
use Rattle.std.proofs.Common.{[], ◌∷◌, refl, sym, map, length, arith}
use Rattle.std.proofs.lemmas.Grind.{common_steps}
use Rattle.frame.specs.Planes.{width_of, height_of}
use Rattle.frame.specs.Questions.{filled, samples_low}
use Rattle.frame.specs.Calls.{shape_numbers, gate_numbers, gate_refusal}
use Rattle.frame.proofs.FirstNo.{stopped_by, after}
use Rattle.frame.proofs.Facts.{is_known}
use Rattle.frame.proofs.asked.ask_gate.Goals as goal

pub returns-in_err-ask_shape : goal.returns-in_err-ask_shape
unfolding gate_refusal gate_numbers shape_numbers
returns-in_err-ask_shape c =
    let a = c.args in
    let planes = a.first.source.now ∷ a.first.denoised.now ∷ a.second.source.now ∷ a.second.denoised.now ∷ [] in
    let h = stopped_by (shape_numbers a.s) (filled (width_of a.s a.component) (height_of a.s a.component) (map length planes) ∷ samples_low a.s.depth planes ∷ []) refl _ c.in_err-ask_shape.ensures in
    grind (arith, common_steps, h)

pub samples-requires : goal.samples-requires
samples-requires c = let k = is_known c.args.s (sym c.in_ok-ask_shape.ensures) in (k.size.wide, k.size.high)

pub returns-in_err-ask : goal.returns-in_err-ask
unfolding gate_refusal gate_numbers shape_numbers
returns-in_err-ask c =
    let a = c.args in
    let planes = a.first.source.now ∷ a.first.denoised.now ∷ a.second.source.now ∷ a.second.denoised.now ∷ [] in
    let h = after (shape_numbers a.s) (filled (width_of a.s a.component) (height_of a.s a.component) (map length planes) ∷ samples_low a.s.depth planes ∷ []) refl c.in_ok-ask_shape.ensures in
    grind (arith, common_steps, h)

pub returns : goal.returns
unfolding gate_refusal gate_numbers shape_numbers
returns c =
    let a = c.args in
    let planes = a.first.source.now ∷ a.first.denoised.now ∷ a.second.source.now ∷ a.second.denoised.now ∷ [] in
    let h = after (shape_numbers a.s) (filled (width_of a.s a.component) (height_of a.s a.component) (map length planes) ∷ samples_low a.s.depth planes ∷ []) refl c.in_ok-ask_shape.ensures in
    grind (arith, common_steps, h)
