-- Acceptance gives each plane the size and the samples that it is denoised at.
use Rattle.std.proofs.Common.{sym, le_trans}
use Rattle.frame.proofs.Accepted.{denoise-frame-call}
use Rattle.frame.proofs.Size.{chroma-width-le}
use Rattle.denoise.proofs.denoise_frame.Goals as goal

pub new-requires : goal.new-requires
new-requires c =
    let k = denoise-frame-call _ _ _ _ _ _ _ (sym c.in_ok-ask_denoise_frame.ensures) in
    record { narrow = k.shape.size.wide; filled = k.source.y.samples }

pub smooth-requires : goal.smooth-requires
smooth-requires c =
    let k = denoise-frame-call _ _ _ _ _ _ _ (sym c.in_ok-ask_denoise_frame.ensures) in
    rw (c.new.ensures.1, c.new.ensures.2) k.to-y

pub new-requires-2 : goal.new-requires-2
new-requires-2 c =
    let k = denoise-frame-call _ _ _ _ _ _ _ (sym c.in_ok-ask_denoise_frame.ensures) in
    rw (c.width_of-width.ensures, c.height_of-height.ensures) record { narrow = le_trans (chroma-width-le _ _) k.shape.size.wide; filled = k.source.cb.samples }

pub smooth-requires-2 : goal.smooth-requires-2
smooth-requires-2 c =
    let k = denoise-frame-call _ _ _ _ _ _ _ (sym c.in_ok-ask_denoise_frame.ensures) in
    rw (c.new-2.ensures.1, c.new-2.ensures.2, c.width_of-width.ensures, c.height_of-height.ensures) k.to-cb

pub new-requires-3 : goal.new-requires-3
new-requires-3 c =
    let k = denoise-frame-call _ _ _ _ _ _ _ (sym c.in_ok-ask_denoise_frame.ensures) in
    rw (c.width_of-width.ensures, c.height_of-height.ensures) record { narrow = le_trans (chroma-width-le _ _) k.shape.size.wide; filled = k.source.cr.samples }

pub smooth-requires-3 : goal.smooth-requires-3
smooth-requires-3 c =
    let k = denoise-frame-call _ _ _ _ _ _ _ (sym c.in_ok-ask_denoise_frame.ensures) in
    rw (c.new-3.ensures.1, c.new-3.ensures.2, c.width_of-width.ensures, c.height_of-height.ensures) k.to-cr
