-- What an accepted call knows of its arguments: an answer of 0 is a yes to each question, and each yes is a fact. Assumes nothing.
use mathlib.Core.Path.{◌≡◌, refl}
use mathlib.Core.Bool.{true, and-eq-true_iff}
use mathlib.Core.List.{List, [], ◌∷◌, ◌++◌}
use Prim.Native.Nat.{ℕ, ◌*◌, ◌≤◌}
use lib.ListN.{length}
use borrow.Author.Tests.{leb-true}
use Rattle.frame.specs.declared.Shape.{Shape}
use Rattle.frame.specs.Planes.{width_of, height_of, samples_of}
use Rattle.frame.specs.Inside.{Inside}
use Rattle.frame.specs.declared.view.Component.{Component}
use Rattle.frame.specs.declared.view.Component.TheVariants.{Y, CbCr}
use Rattle.frame.specs.Questions.{Question, first_no, filled, frame_filled, samples_low, lag_known, each}
use Rattle.frame.specs.Calls.{shape_numbers, plane_numbers, pair_numbers, frame_numbers, gate_numbers, copy_questions, plane_refusal, pair_refusal, frame_refusal, fit_refusal, gate_refusal, denoise_frame_refusal}
use Rattle.frame.proofs.FirstNo.{numbered, passed, parts}
use Rattle.frame.proofs.Facts.{Sides, is-small, Depth, is-depth, Known, is_known, inside, Each, are-each, LowPlane, is-plane, Lows, are-low}

-- a call that is asked about samples last
sampled : (qs : List Question) (depth : ℕ) (planes : List (List ℕ)) → numbered qs ≡ true → first_no (qs ++ (samples_low depth planes ∷ [])) ≡ 0
    → (first_no qs ≡ 0) × Lows depth planes
sampled qs depth planes h e =
    let p = parts qs (samples_low depth planes ∷ []) h e in
    (p.0, are-low depth planes (passed (samples_low depth planes ∷ []) refl p.1).0)

-- ---- lone planes

pub record PlaneCall (w h src dst : ℕ) : Type 0 where
  pub size : Sides w h
  pub source : src ≡ w * h
  pub destination : dst ≡ w * h

pub plane-call : (w h src dst : ℕ) → plane_refusal w h src dst ≡ 0 → PlaneCall w h src dst
unfolding plane_refusal plane_numbers
plane-call w h src dst e =
    let p = passed (plane_numbers w h (src ∷ dst ∷ [])) refl e in
    let l = are-each (w * h) (src ∷ dst ∷ []) p.1.0 in
    record { size = is-small w h p.0; source = l.0; destination = l.1.0 }

pub record PairCall (w h depth : ℕ) (a b : List ℕ) : Type 0 where
  pub size : Sides w h
  pub depth-known : Depth depth
  pub first : LowPlane (w * h) depth a
  pub second : LowPlane (w * h) depth b

pub pair-call : (w h depth : ℕ) (a b : List ℕ) → pair_refusal w h depth a b ≡ 0 → PairCall w h depth a b
unfolding pair_refusal pair_numbers
pair-call w h depth a b e =
    let lengths = length a ∷ length b ∷ [] in
    let f = sampled (pair_numbers w h depth lengths) depth (a ∷ b ∷ []) refl e in
    let p = passed (pair_numbers w h depth lengths) refl f.0 in
    let l = are-each (w * h) lengths p.1.1.0 in
    let d = is-depth depth p.1.0 in
    record {
      size = is-small w h p.0;
      depth-known = d;
      first = is-plane (w * h) depth a d.most l.0 f.1.0;
      second = is-plane (w * h) depth b d.most l.1.0 f.1.1.0;
    }

-- ---- frames

-- the planes of a frame
pub record Frame (s : Shape) (luma blue red : List ℕ) : Type 0 where
  pub y : LowPlane (samples_of s Y) s.depth luma
  pub cb : LowPlane (samples_of s CbCr) s.depth blue
  pub cr : LowPlane (samples_of s CbCr) s.depth red

is-frame : (s : Shape) (y cb cr : List ℕ) → s.depth ≤ 12
    → length y ≡ samples_of s Y → length cb ≡ samples_of s CbCr → length cr ≡ samples_of s CbCr → Lows s.depth (y ∷ cb ∷ cr ∷ []) → Frame s y cb cr
is-frame s y cb cr d m b r f =
    record { y = is-plane _ _ y d m f.0; cb = is-plane _ _ cb d b f.1.0; cr = is-plane _ _ cr d r f.1.1.0 }

-- the shape and the lengths
frame-numbers : (s : Shape) (luma chroma : List ℕ) → first_no (frame_numbers s luma chroma) ≡ 0
    → Known s × Each (samples_of s Y) luma × Each (samples_of s CbCr) chroma
unfolding frame_numbers shape_numbers
frame-numbers s luma chroma e =
    let q = frame_filled s luma chroma in
    let p = parts (shape_numbers s) (q ∷ []) refl e in
    let b = (and-eq-true_iff (each (samples_of s Y) luma) (each (samples_of s CbCr) chroma)).0 (passed (q ∷ []) refl p.1).0 in
    (is_known s p.0, are-each (samples_of s Y) luma b.0, are-each (samples_of s CbCr) chroma b.1)

pub record FrameCall (s : Shape) (y cb cr y-denoised cb-denoised cr-denoised : List ℕ) : Type 0 where
  pub shape : Known s
  pub source : Frame s y cb cr
  pub copy : Frame s y-denoised cb-denoised cr-denoised

pub frame-call : (s : Shape) (y cb cr y-denoised cb-denoised cr-denoised : List ℕ) → frame_refusal s y cb cr y-denoised cb-denoised cr-denoised ≡ 0 → FrameCall s y cb cr y-denoised cb-denoised cr-denoised
unfolding frame_refusal copy_questions frame_numbers shape_numbers
frame-call s y cb cr y-denoised cb-denoised cr-denoised e =
    let luma = length y ∷ length y-denoised ∷ [] in
    let chroma = length cb ∷ length cr ∷ length cb-denoised ∷ length cr-denoised ∷ [] in
    let f = sampled (frame_numbers s luma chroma) s.depth (y ∷ cb ∷ cr ∷ y-denoised ∷ cb-denoised ∷ cr-denoised ∷ []) refl e in
    let k = frame-numbers s luma chroma f.0 in
    let d = k.0.depth.most in
    record {
      shape = k.0;
      source = is-frame s y cb cr d k.1.0 k.2.0 k.2.1.0 (f.1.0, (f.1.1.0, (f.1.1.1.0, tt)));
      copy = is-frame s y-denoised cb-denoised cr-denoised d k.1.1.0 k.2.1.1.0 k.2.1.1.1.0 f.1.1.1.1;
    }

pub record FitCall (s : Shape) (y cb cr y-denoised cb-denoised cr-denoised : List ℕ) (lag : ℕ) : Type 0 where
  pub frame : FrameCall s y cb cr y-denoised cb-denoised cr-denoised
  pub lag-known : lag ≤ 3

pub fit-call : (s : Shape) (y cb cr y-denoised cb-denoised cr-denoised : List ℕ) (lag : ℕ) → fit_refusal s y cb cr y-denoised cb-denoised cr-denoised lag ≡ 0 → FitCall s y cb cr y-denoised cb-denoised cr-denoised lag
unfolding fit_refusal frame_refusal copy_questions frame_numbers shape_numbers
fit-call s y cb cr y-denoised cb-denoised cr-denoised lag e =
    let p = parts (copy_questions s y cb cr y-denoised cb-denoised cr-denoised) (lag_known lag ∷ []) refl e in
    record {
      frame = frame-call s y cb cr y-denoised cb-denoised cr-denoised p.0;
      lag-known = leb-true lag 3 (passed (lag_known lag ∷ []) refl p.1).0;
    }

pub record DenoiseFrameCall (s : Shape) (y cb cr : List ℕ) (toY toCb toCr : ℕ) : Type 0 where
  pub shape : Known s
  pub source : Frame s y cb cr
  pub to-y : toY ≡ samples_of s Y
  pub to-cb : toCb ≡ samples_of s CbCr
  pub to-cr : toCr ≡ samples_of s CbCr

pub denoise-frame-call : (s : Shape) (y cb cr : List ℕ) (toY toCb toCr : ℕ) → denoise_frame_refusal s y cb cr toY toCb toCr ≡ 0
    → DenoiseFrameCall s y cb cr toY toCb toCr
unfolding denoise_frame_refusal frame_numbers shape_numbers
denoise-frame-call s y cb cr toY toCb toCr e =
    let luma = length y ∷ toY ∷ [] in
    let chroma = length cb ∷ length cr ∷ toCb ∷ toCr ∷ [] in
    let f = sampled (frame_numbers s luma chroma) s.depth (y ∷ cb ∷ cr ∷ []) refl e in
    let k = frame-numbers s luma chroma f.0 in
    let d = k.0.depth.most in
    record {
      shape = k.0;
      source = is-frame s y cb cr d k.1.0 k.2.0 k.2.1.0 f.1;
      to-y = k.1.1.0;
      to-cb = k.2.1.1.0;
      to-cr = k.2.1.1.1.0;
    }

-- ---- gates: one component of two frames and of their copies

pub record GateCall (s : Shape) (component : Component) (a b c d : List ℕ) : Type 0 where
  pub shape : Known s
  pub first : LowPlane (samples_of s component) s.depth a
  pub second : LowPlane (samples_of s component) s.depth b
  pub third : LowPlane (samples_of s component) s.depth c
  pub fourth : LowPlane (samples_of s component) s.depth d

pub gate-call : (s : Shape) (component : Component) (a b c d : List ℕ) → gate_refusal s component a b c d ≡ 0 → GateCall s component a b c d
unfolding gate_refusal gate_numbers shape_numbers
gate-call s component a b c d e =
    let lengths = length a ∷ length b ∷ length c ∷ length d ∷ [] in
    let size = filled (width_of s component) (height_of s component) lengths in
    let f = sampled (shape_numbers s ++ (size ∷ [])) s.depth (a ∷ b ∷ c ∷ d ∷ []) refl e in
    let p = parts (shape_numbers s) (size ∷ []) refl f.0 in
    let l = are-each (samples_of s component) lengths (passed (size ∷ []) refl p.1).0 in
    let k = is_known s p.0 in
    let m = k.depth.most in
    record {
      shape = k;
      first = is-plane _ _ a m l.0 f.1.0;
      second = is-plane _ _ b m l.1.0 f.1.1.0;
      third = is-plane _ _ c m l.1.1.0 f.1.1.1.0;
      fourth = is-plane _ _ d m l.1.1.1.0 f.1.1.1.1.0;
    }

-- ---- the active rectangle of an accepted call lies in the frame
module _ (s : Shape) (y cb cr y-denoised cb-denoised cr-denoised : List ℕ) where
  pub frame-inside : frame_refusal s y cb cr y-denoised cb-denoised cr-denoised ≡ 0 → Inside s
  frame-inside e = inside (frame-call s y cb cr y-denoised cb-denoised cr-denoised e).shape

  pub fit-inside : (lag : ℕ) → fit_refusal s y cb cr y-denoised cb-denoised cr-denoised lag ≡ 0 → Inside s
  fit-inside lag e = inside (fit-call s y cb cr y-denoised cb-denoised cr-denoised lag e).frame.shape

pub gate-inside : (s : Shape) (component : Component) (a b c d : List ℕ) → gate_refusal s component a b c d ≡ 0 → Inside s
gate-inside s component a b c d e = inside (gate-call s component a b c d e).shape
