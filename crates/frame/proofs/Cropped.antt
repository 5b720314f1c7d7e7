-- A frame that the active rectangle cuts out: where its samples stand, and that a call on it is accepted where the call with the rectangle is, and sees all of it. Assumes nothing.
use mathlib.Core.Path.{◌≡◌, refl, ap, ◌∙◌}
use mathlib.Core.List.{List}
use Prim.Native.Nat.{ℕ, ◌+◌, ◌*◌, ◌≤◌, ◌<◌}
use native.Mathlib.Nat.{le_trans, add-mul}
use native.Mathlib.Omega.{arith}
use lib.ListN.{length, get_or}
use Rattle.frame.specs.View.{whole}
use Rattle.frame.specs.Planes.{whole_frame, columns_of, rows_of, width_of, samples_of, active_of, view_of, cropped, cropped_frame}
use Rattle.frame.specs.Calls.{frame_refusal, fit_refusal, gate_refusal}
use Rattle.frame.specs.declared.Shape.{Shape}
use Rattle.frame.specs.declared.view.Component.{Component}
use Rattle.frame.specs.declared.view.Component.TheVariants.{Y, CbCr}
use Rattle.frame.proofs.Size.{columns-le, rows-le}
use Rattle.frame.proofs.Viewed.{viewed-length, viewed-at, viewed-low, part-whole, viewed-whole}
use Rattle.frame.proofs.Facts.{Known, LowPlane, is-plane}
use Rattle.frame.proofs.Accepted.{Frame, FrameCall, frame-call, fit-call, GateCall, gate-call}
use Rattle.frame.proofs.Passes.{frame-passes, fit-passes, gate-passes}

-- row r and column c of a cropped plane are row top + r and column left + c of the plane
pub cropped-at : (s : Shape) (component : Component) (plane : List ℕ) (r c : ℕ) → let a = active_of s component in r < a.height → c < a.width
    → get_or (cropped s component plane) (r * a.width + c) 0 ≡ get_or plane ((a.top + r) * width_of s component + (a.left + c)) 0
cropped-at s component plane r c l m =
    let a = active_of s component in
    let w = width_of s component in
    viewed-at (view_of s component) plane r c l m ∙ ap (λ (n : ℕ). get_or plane n 0) (omega (arith, add-mul a.top r w))

-- ---- a frame that is active as a whole is seen as a whole
no-columns : (format : ℕ) (component : Component) → columns_of format component 0 ≡ 0
no-columns format component = let none : columns_of format component 0 ≤ 0 = columns-le format component (omega arith) in omega arith

no_rows : (format : ℕ) (component : Component) → rows_of format component 0 ≡ 0
no_rows format component = let none : rows_of format component 0 ≤ 0 = rows-le format component (omega arith) in omega arith

whole-view : (w h depth format : ℕ) (component : Component) → view_of (whole_frame w h depth format) component ≡ whole (columns_of format component w) (rows_of format component h)
whole-view w h depth format component = part-whole _ _ (no-columns format component) (no_rows format component)

pub whole-cropped : (w h depth format : ℕ) (component : Component) (plane : List ℕ) → length plane ≡ samples_of (whole_frame w h depth format) component → cropped (whole_frame w h depth format) component plane ≡ plane
whole-cropped w h depth format component plane e = rw (whole-view w h depth format component) (viewed-whole _ _ plane e)

-- ---- the cropped frame
module _ (s : Shape) where
  cropped-known : Known s → Known (cropped_frame s)
  cropped-known k =
      record {
        size = record { wide = le_trans (ends s.active.left s.active.width k.across.ends) k.size.wide; high = le_trans (ends s.active.top s.active.height k.down.ends) k.size.high };
        columns = k.across.some;
        rows = k.down.some;
        depth = k.depth;
        format = k.format;
        across = record { some = k.across.some; ends = omega arith; even = λ e. refl };
        down = record { some = k.down.some; ends = omega arith; even = λ e. refl };
      }
    where
      ends : (start size : ℕ) {side : ℕ} → start + size ≤ side → size ≤ side
      ends start size l = omega arith

  cropped-plane : (component : Component) {n : ℕ} {plane : List ℕ} → Known s → LowPlane n s.depth plane → LowPlane (samples_of (cropped_frame s) component) s.depth (cropped s component plane)
  cropped-plane component {n} {plane} k p =
      is-plane _ _ (cropped s component plane) k.depth.most (viewed-length (view_of s component) plane) (viewed-low (view_of s component) s.depth plane p.below)

  -- what a call sees of a cropped plane is all of it
  pub cropped-whole : (component : Component) (plane : List ℕ) → cropped (cropped_frame s) component (cropped s component plane) ≡ cropped s component plane
  cropped-whole component plane = whole-cropped s.active.width s.active.height s.depth s.format component (cropped s component plane) (viewed-length (view_of s component) plane)

  cropped-frame : {y cb cr : List ℕ} → Known s → Frame s y cb cr → Frame (cropped_frame s) (cropped s Y y) (cropped s CbCr cb) (cropped s CbCr cr)
  cropped-frame k f = record { y = cropped-plane Y k f.y; cb = cropped-plane CbCr k f.cb; cr = cropped-plane CbCr k f.cr }

  module _ (y cb cr y-denoised cb-denoised cr-denoised : List ℕ) where
    pub cropped-frame-call : FrameCall s y cb cr y-denoised cb-denoised cr-denoised
        → FrameCall (cropped_frame s) (cropped s Y y) (cropped s CbCr cb) (cropped s CbCr cr) (cropped s Y y-denoised) (cropped s CbCr cb-denoised) (cropped s CbCr cr-denoised)
    cropped-frame-call c = record { shape = cropped-known c.shape; source = cropped-frame c.shape c.source; copy = cropped-frame c.shape c.copy }

    pub cropped-frame-passes : frame_refusal s y cb cr y-denoised cb-denoised cr-denoised ≡ 0
        → frame_refusal (cropped_frame s) (cropped s Y y) (cropped s CbCr cb) (cropped s CbCr cr) (cropped s Y y-denoised) (cropped s CbCr cb-denoised) (cropped s CbCr cr-denoised) ≡ 0
    cropped-frame-passes e = frame-passes (cropped-frame-call (frame-call s y cb cr y-denoised cb-denoised cr-denoised e))

    pub cropped-fit-passes : (lag : ℕ) → fit_refusal s y cb cr y-denoised cb-denoised cr-denoised lag ≡ 0
        → fit_refusal (cropped_frame s) (cropped s Y y) (cropped s CbCr cb) (cropped s CbCr cr) (cropped s Y y-denoised) (cropped s CbCr cb-denoised) (cropped s CbCr cr-denoised) lag ≡ 0
    cropped-fit-passes lag e =
        let c = fit-call s y cb cr y-denoised cb-denoised cr-denoised lag e in
        fit-passes (record { frame = cropped-frame-call c.frame; lag-known = c.lag-known })

  module _ (component : Component) (a b c d : List ℕ) where
    pub cropped-gate-call : GateCall s component a b c d → GateCall (cropped_frame s) component (cropped s component a) (cropped s component b) (cropped s component c) (cropped s component d)
    cropped-gate-call k =
        record {
          shape = cropped-known k.shape;
          first = cropped-plane component k.shape k.first;
          second = cropped-plane component k.shape k.second;
          third = cropped-plane component k.shape k.third;
          fourth = cropped-plane component k.shape k.fourth;
        }

    pub cropped-gate-passes : gate_refusal s component a b c d ≡ 0 → gate_refusal (cropped_frame s) component (cropped s component a) (cropped s component b) (cropped s component c) (cropped s component d) ≡ 0
    cropped-gate-passes e = gate-passes (cropped-gate-call (gate-call s component a b c d e))
