-- "Between two accepted calls of one shape that differ only in Cr samples, every luma and Cb result is the same." Assumes nothing.
use mathlib.Core.Path.{◌≡◌, refl}
use Rattle.frame.specs.declared.Shape.{Shape}
use Rattle.denoise.specs.Calls.{Frame, denoised_frame, frame_outcome}
use Rattle.denoise.proofs.Calls.{frame-left}

pub only-cr : (f : Shape) (s s' d d' : Frame) → (frame_outcome f s d).0 ≡ 0 → (frame_outcome f s' d').0 ≡ 0 → s.y ≡ s'.y → s.cb ≡ s'.cb
    → ((frame_outcome f s d).1.y ≡ (frame_outcome f s' d').1.y) × ((frame_outcome f s d).1.cb ≡ (frame_outcome f s' d').1.cb)
unfolding denoised_frame
only-cr f s s' d d' e e' y cb = rw (frame-left f s d e, frame-left f s' d' e', y, cb) (refl, refl)
