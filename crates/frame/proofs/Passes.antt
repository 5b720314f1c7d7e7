-- What is known of an accepted call is all that it is asked: a call of which this is known is accepted. The converse of `Accepted`. Assumes nothing.
use mathlib.Core.Path.{◌≡◌, refl}
use mathlib.Core.Bool.{Bool, true, false, cond}
use mathlib.Core.Logic.{◌⊎◌, inl, inr}
use mathlib.Core.List.{List, [], ◌∷◌, ◌++◌}
use Prim.Native.Nat.{ℕ, ◌+◌, ◌%◌}
use lib.Dec.{eqb}
use lib.ListN.{length}
use borrow.Author.Tests.{le-leb, eq-eqb}
use Rattle.laws.specs.Limits.{side_limit}
use Rattle.frame.specs.declared.Shape.{Shape}
use Rattle.frame.specs.declared.view.Component.{Component}
use Rattle.frame.specs.declared.view.Component.TheVariants.{Y, CbCr}
use Rattle.frame.specs.Planes.{width_of, height_of, samples_of}
use Rattle.frame.specs.Questions.{first_no, depth_known, is_part, filled, frame_filled, samples_low, lag_known, each, low, all_low}
use Rattle.frame.specs.Calls.{shape_numbers, frame_numbers, gate_numbers, copy_questions, frame_refusal, fit_refusal, gate_refusal}
use Rattle.frame.proofs.FirstNo.{all-passed, both}
use Rattle.frame.proofs.Samples.{below-low}
use Rattle.frame.proofs.Facts.{Depth, Part, Known, Each, LowPlane, Lows}
use Rattle.frame.proofs.Accepted.{FrameCall, FitCall, GateCall}

-- ---- the questions

depth-known : {d : ℕ} → Depth d → (depth_known d).0 ≡ true
depth-known {d} k = go k.one_of
  where
    go : (d ≡ 8) ⊎ ((d ≡ 10) ⊎ (d ≡ 12)) → (depth_known d).0 ≡ true
    go (inl e) = rw e
    go (inr (inl e)) = rw e
    go (inr (inr e)) = rw e

part-known : {halved : Bool} {start size side : ℕ} → Part halved start size side → is_part halved start size side ≡ true
part-known {halved} {start} {size} {side} p = rw (le-leb 1 size p.some, le-leb (start + size) side p.ends) (go halved p.even)
  where
    go : (b : Bool) → (b ≡ true → start % 2 ≡ 0) → cond b (eqb (start % 2) 0) true ≡ true
    go true e = eq-eqb (start % 2) 0 (e refl)
    go false e = refl

shape-passes : {s : Shape} → Known s → first_no (shape_numbers s) ≡ 0
unfolding shape_numbers
shape-passes {s} k =
    all-passed (shape_numbers s) (
      rw (le-leb s.width side_limit k.size.wide, le-leb s.height side_limit k.size.high) refl,
      (
        rw (le-leb 1 s.width k.columns, le-leb 1 s.height k.rows) refl,
        (
          depth-known k.depth,
          (
            le-leb s.format 3 k.format,
            (
              rw (part-known k.across, part-known k.down) refl,
              tt,
            ),
          ),
        ),
      ),
    )

each-is : (n : ℕ) (ls : List ℕ) → Each n ls → each n ls ≡ true
unfolding each
each-is n [] e = refl
each-is n (l ∷ ls) e = rw (eq-eqb l n e.0, each-is n ls e.1)

plane-low : {n depth : ℕ} {xs : List ℕ} → LowPlane n depth xs → low depth xs ≡ true
plane-low p = below-low _ _ (λ i l. p.below i)

all-low : (depth : ℕ) (ps : List (List ℕ)) → Lows depth ps → all_low depth ps ≡ true
unfolding all_low
all-low depth [] e = refl
all-low depth (p ∷ ps) e = rw (e.0, all-low depth ps e.1)

-- ---- the calls
module _ {s : Shape} where
  frame-filled : {y cb cr y-denoised cb-denoised cr-denoised : List ℕ} → FrameCall s y cb cr y-denoised cb-denoised cr-denoised
      → first_no (frame_numbers s (length y ∷ length y-denoised ∷ []) (length cb ∷ length cr ∷ length cb-denoised ∷ length cr-denoised ∷ [])) ≡ 0
  unfolding frame_numbers shape_numbers
  frame-filled {y} {cb} {cr} {y-denoised} {cb-denoised} {cr-denoised} c =
      let luma = length y ∷ length y-denoised ∷ [] in
      let chroma = length cb ∷ length cr ∷ length cb-denoised ∷ length cr-denoised ∷ [] in
      both (shape_numbers s) (frame_filled s luma chroma ∷ []) refl (shape-passes c.shape)
      (rw (
        each-is (samples_of s Y) luma (c.source.y.samples, (c.copy.y.samples, tt)),
        each-is (samples_of s CbCr) chroma (c.source.cb.samples, (c.source.cr.samples, (c.copy.cb.samples, (c.copy.cr.samples, tt)))),
      ) refl)

  pub frame-passes : {y cb cr y-denoised cb-denoised cr-denoised : List ℕ} → FrameCall s y cb cr y-denoised cb-denoised cr-denoised → frame_refusal s y cb cr y-denoised cb-denoised cr-denoised ≡ 0
  unfolding frame_refusal copy_questions frame_numbers shape_numbers
  frame-passes {y} {cb} {cr} {y-denoised} {cb-denoised} {cr-denoised} c =
      let planes = y ∷ cb ∷ cr ∷ y-denoised ∷ cb-denoised ∷ cr-denoised ∷ [] in
      let lows : Lows s.depth planes =
      (plane-low c.source.y, (plane-low c.source.cb, (plane-low c.source.cr, (plane-low c.copy.y, (plane-low c.copy.cb, (plane-low c.copy.cr, tt)))))) in
      both (frame_numbers s (length y ∷ length y-denoised ∷ []) (length cb ∷ length cr ∷ length cb-denoised ∷ length cr-denoised ∷ []))
      (samples_low s.depth planes ∷ []) refl (frame-filled c) (rw (all-low s.depth planes lows) refl)

  pub fit-passes : {y cb cr y-denoised cb-denoised cr-denoised : List ℕ} {lag : ℕ} → FitCall s y cb cr y-denoised cb-denoised cr-denoised lag → fit_refusal s y cb cr y-denoised cb-denoised cr-denoised lag ≡ 0
  unfolding fit_refusal frame_refusal copy_questions frame_numbers shape_numbers
  fit-passes {y} {cb} {cr} {y-denoised} {cb-denoised} {cr-denoised} {lag} c =
      both (copy_questions s y cb cr y-denoised cb-denoised cr-denoised) (lag_known lag ∷ []) refl (frame-passes c.frame) (rw (le-leb lag 3 c.lag-known) refl)

  pub gate-passes : {component : Component} {a b c d : List ℕ} → GateCall s component a b c d → gate_refusal s component a b c d ≡ 0
  unfolding gate_refusal gate_numbers shape_numbers
  gate-passes {component} {a} {b} {c} {d} k =
      let lengths = length a ∷ length b ∷ length c ∷ length d ∷ [] in
      let planes = a ∷ b ∷ c ∷ d ∷ [] in
      let size = filled (width_of s component) (height_of s component) lengths in
      both (shape_numbers s ++ (size ∷ [])) (samples_low s.depth planes ∷ []) refl
      (both (shape_numbers s) (size ∷ []) refl (shape-passes k.shape)
      (rw (each-is (samples_of s component) lengths (k.first.samples, (k.second.samples, (k.third.samples, (k.fourth.samples, tt))))) refl))
      (rw (all-low s.depth planes (plane-low k.first, (plane-low k.second, (plane-low k.third, (plane-low k.fourth, tt))))) refl)
