-- "A refused call returns its number .. ; destinations .. remain." What a call leaves: its answer, and what its destinations hold.
use Rattle.std.specs.Prelude.{List, ℕ, length}
use Rattle.std.specs.Borrow.{MutBor}
use Rattle.frame.specs.declared.Shape.{Shape}
use Rattle.frame.specs.Size.{chroma_width, chroma_height}
use Rattle.frame.specs.Questions.{accepted}
use Rattle.frame.specs.Calls.{plane_refusal, denoise_frame_refusal}
use Rattle.denoise.specs.Denoise.{denoised}

-- `denoise_plane` of a plane s into the destination d
unfoldable pub plane_outcome : List ℕ → List ℕ → ℕ → ℕ → ℕ × List ℕ
plane_outcome s d w h = let n = plane_refusal w h (length s) (length d) in (n, accepted n (denoised s w h) d)

-- the planes of a frame; monochrome has empty chroma planes
pub record Frame : Type 0 where
  pub y : List ℕ
  pub cb : List ℕ
  pub cr : List ℕ

abbrev pub planes : List ℕ → List ℕ → List ℕ → Frame
planes y cb cr = record { y = y; cb = cb; cr = cr }

-- the planes behind three destinations, as a call leaves them
abbrev pub left : {A : Type 0} → MutBor (List ℕ) × (MutBor (List ℕ) × (MutBor (List ℕ) × A)) → Frame
left d = planes d.0.now d.1.0.now d.1.1.0.now

-- each plane denoised at its own size
unfoldable pub denoised_frame : Shape → Frame → Frame
denoised_frame f s =
    let w = chroma_width f.format f.width in
    let h = chroma_height f.format f.height in
    planes (denoised s.y f.width f.height) (denoised s.cb w h) (denoised s.cr w h)

-- `denoise_frame` of the planes s into the destinations d
unfoldable pub frame_outcome : Shape → Frame → Frame → ℕ × Frame
frame_outcome f s d =
    let n = denoise_frame_refusal f s.y s.cb s.cr (length d.y) (length d.cb) (length d.cr) in
    (n, accepted n (denoised_frame f s) d)
