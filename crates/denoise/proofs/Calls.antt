-- The outcome of a call whose answer is known: refused, the destinations are as they were; accepted, they are denoised. And what an accepted outcome leaves. Assumes nothing.
use mathlib.Core.Path.{◌≡◌}
use mathlib.Core.List.{List}
use Prim.Native.Nat.{ℕ}
use Rattle.frame.specs.declared.Shape.{Shape}
use Rattle.frame.specs.declared.refusal.Refusal.{Refusal}
use Rattle.frame.specs.Refusal.{number}
use Rattle.frame.specs.Questions.{accepted}
use Rattle.frame.proofs.FirstNo.{refused, granted, number-above}
use Rattle.denoise.specs.Denoise.{denoised}
use Rattle.denoise.specs.Calls.{plane_outcome, Frame, denoised_frame, frame_outcome}

-- a refused call changes nothing, by its refusal
pub accepted_number : {A : Type 0} (e : Refusal) (new old : A) → accepted (number e) new old ≡ old
accepted_number e new old = refused (number e) new old (number-above e)

pub plane-left : (s d : List ℕ) (w h : ℕ) → (plane_outcome s d w h).0 ≡ 0 → (plane_outcome s d w h).1 ≡ denoised s w h
unfolding plane_outcome
plane-left s d w h e = granted _ (denoised s w h) d e

pub frame-left : (f : Shape) (s d : Frame) → (frame_outcome f s d).0 ≡ 0 → (frame_outcome f s d).1 ≡ denoised_frame f s
unfolding frame_outcome
frame-left f s d e = granted _ (denoised_frame f s) d e
