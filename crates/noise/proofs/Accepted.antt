-- The planes of an accepted call are seen as the kernels want them, and within the claim's limit. From what a call knows of its arguments. Assumes nothing.
use mathlib.Core.Path.{◌≡◌}
use mathlib.Core.List.{List}
use Prim.Native.Nat.{ℕ, ◌*◌, ◌≤◌}
use Rattle.frame.specs.Planes.{samples_of, width_of, height_of, active_of, view_of, geometry_of}
use Rattle.frame.specs.Calls.{frame_refusal, fit_refusal}
use Rattle.frame.specs.declared.Shape.{Shape}
use Rattle.frame.specs.declared.view.Component.{Component}
use Rattle.frame.specs.declared.view.Component.TheVariants.{Y, CbCr}
use Rattle.frame.proofs.Size.{columns-le, rows-le}
use Rattle.frame.proofs.Inside.{active-across, active-down}
use Rattle.frame.proofs.Facts.{Known, LowPlane}
use Rattle.frame.proofs.Accepted.{FrameCall, frame-call, fit-call}
use Rattle.noise.specs.Lines as lines
use Rattle.noise.specs.Seen.{Seen, SeenFrame}
use Rattle.noise.proofs.Seen.{seen-part}
use Rattle.noise.proofs.Over.{shape-over}

-- a plane and its copy of one size, whose samples are low
pub plane-of : (w h depth : ℕ) (source denoised : List ℕ) → LowPlane (w * h) depth source → LowPlane (w * h) depth denoised → lines.Plane w h source denoised
plane-of w h depth source denoised P Q = record {
  source-size = P.samples;
  denoised-size = Q.samples;
  source-low = λ i l. P.below-limit i;
  denoised-low = λ i l. Q.below-limit i;
}

-- the active part of a component of an accepted shape
pub plane-seen : (s : Shape) (component : Component) {source denoised : List ℕ} → Known s → LowPlane (samples_of s component) s.depth source → LowPlane (samples_of s component) s.depth denoised
    → Seen (view_of s component) source denoised
plane-seen s component K P Q =
    seen-part (plane-of (width_of s component) (height_of s component) s.depth _ _ P Q) (active_of s component) (active-across s component K) (active-down s component K)
    (columns-le s.format component K.size.wide) (rows-le s.format component K.size.high)

-- ---- the calls

frame-call-seen : (s : Shape) (y cb cr y-denoised cb-denoised cr-denoised : List ℕ) → FrameCall s y cb cr y-denoised cb-denoised cr-denoised → SeenFrame (geometry_of s) y y-denoised cb cb-denoised cr cr-denoised
frame-call-seen s y cb cr y-denoised cb-denoised cr-denoised C = record {
  luma = plane-seen s Y C.shape C.source.y C.copy.y;
  cb = plane-seen s CbCr C.shape C.source.cb C.copy.cb;
  cr = plane-seen s CbCr C.shape C.source.cr C.copy.cr;
  over = shape-over s;
}

pub frame-seen : (s : Shape) (y cb cr y-denoised cb-denoised cr-denoised : List ℕ) → frame_refusal s y cb cr y-denoised cb-denoised cr-denoised ≡ 0 → SeenFrame (geometry_of s) y y-denoised cb cb-denoised cr cr-denoised
frame-seen s y cb cr y-denoised cb-denoised cr-denoised e = frame-call-seen s y cb cr y-denoised cb-denoised cr-denoised (frame-call s y cb cr y-denoised cb-denoised cr-denoised e)

pub fit-seen : (s : Shape) (y cb cr y-denoised cb-denoised cr-denoised : List ℕ) (lag : ℕ) → fit_refusal s y cb cr y-denoised cb-denoised cr-denoised lag ≡ 0
    → SeenFrame (geometry_of s) y y-denoised cb cb-denoised cr cr-denoised × (lag ≤ 3)
fit-seen s y cb cr y-denoised cb-denoised cr-denoised lag e =
    let C = fit-call s y cb cr y-denoised cb-denoised cr-denoised lag e in
    (frame-call-seen s y cb cr y-denoised cb-denoised cr-denoised C.frame, C.lag-known)
