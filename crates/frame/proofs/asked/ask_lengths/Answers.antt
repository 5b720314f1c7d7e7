-- The shape first, and then the lengths against the sizes of an accepted shape.
use Rattle.std.proofs.Common.{[], ◌∷◌, refl, sym, arith}
use Rattle.std.proofs.lemmas.Grind.{common_steps}
use Rattle.frame.specs.Questions.{frame_filled}
use Rattle.frame.specs.Calls.{shape_numbers, frame_numbers}
use Rattle.frame.proofs.FirstNo.{stopped_by, after}
use Rattle.frame.proofs.Facts.{is_known}
use Rattle.frame.proofs.asked.ask_lengths.Goals as goal

pub returns-in_err-ask_shape : goal.returns-in_err-ask_shape
unfolding frame_numbers shape_numbers
returns-in_err-ask_shape c =
    let a = c.args in
    let h = stopped_by (shape_numbers a.s) (frame_filled a.s a.luma.now a.chroma.now ∷ []) refl _ c.in_err-ask_shape.ensures in
    grind (arith, common_steps, h)

pub samples-requires : goal.samples-requires
samples-requires c = let k = is_known c.args.s (sym c.in_ok-ask_shape.ensures) in (k.size.wide, k.size.high)

pub samples-requires-then-all_are : goal.samples-requires-then-all_are
samples-requires-then-all_are c = let k = is_known c.args.s (sym c.in_ok-ask_shape.ensures) in (k.size.wide, k.size.high)

pub returns : goal.returns
unfolding frame_numbers shape_numbers
returns c =
    let a = c.args in
    let h = after (shape_numbers a.s) (frame_filled a.s a.luma.now a.chroma.now ∷ []) refl c.in_ok-ask_shape.ensures in
    grind (arith, common_steps, h)
