-- "Each result lies within the minimum and maximum of those nine": at every place of what an accepted call leaves. Assumes nothing.
use mathlib.Core.Path.{◌≡◌, sym, subst}
use mathlib.Core.List.{List}
use Prim.Native.Nat.{ℕ}
use Rattle.frame.specs.declared.Shape.{Shape}
use Rattle.denoise.specs.Denoise.{nine, denoised}
use Rattle.denoise.specs.Calls.{plane_outcome, Frame, denoised_frame, frame_outcome}
use Rattle.denoise.specs.Within.{Within, PlaneWithin, FrameWithin}
use Rattle.denoise.proofs.Denoised.{denoised-at}
use Rattle.denoise.proofs.Calls.{plane-left, frame-left}
use Rattle.denoise.proofs.Within.{within}

denoised-within : (s : List ℕ) (w h : ℕ) → PlaneWithin s (denoised s w h) w h
denoised-within s w h r c rh cw = subst (Within (nine s w h r c)) (sym (denoised-at s w h r c rh cw)) (within s w h r c)

pub plane-within : (s d : List ℕ) (w h : ℕ) → (plane_outcome s d w h).0 ≡ 0 → PlaneWithin s (plane_outcome s d w h).1 w h
plane-within s d w h e = subst (λ (x : List ℕ). PlaneWithin s x w h) (sym (plane-left s d w h e)) (denoised-within s w h)

pub frame-within : (f : Shape) (s d : Frame) → (frame_outcome f s d).0 ≡ 0 → FrameWithin f s (frame_outcome f s d).1
unfolding denoised_frame
frame-within f s d e =
    subst (FrameWithin f s) (sym (frame-left f s d e)) (record { y = denoised-within _ _ _; cb = denoised-within _ _ _; cr = denoised-within _ _ _ })
