-- "Each result lies within the minimum and maximum of those nine."
use Rattle.std.specs.Prelude.{List, [], ◌∷◌, ℕ, ◌≤◌, ◌<◌, min, max}
use Rattle.frame.specs.declared.Shape.{Shape}
use Rattle.frame.specs.Size.{chroma_width, chroma_height}
use Rattle.denoise.specs.Denoise.{sample_at, nine}
use Rattle.denoise.specs.Calls.{Frame}

-- of a number and those after it
unfoldable pub minimum : ℕ → List ℕ → ℕ
minimum x [] = x
minimum x (y ∷ ys) = min x (minimum y ys)

unfoldable pub maximum : ℕ → List ℕ → ℕ
maximum x [] = x
maximum x (y ∷ ys) = max x (maximum y ys)

-- x lies within the minimum and the maximum of a list
abbrev pub Within : List ℕ → ℕ → Type 0
Within [] x = ⊥
Within (y ∷ ys) x = (minimum y ys ≤ x) × (x ≤ maximum y ys)

-- at every place of a plane w wide and h high, the result d lies within those nine of the source s
abbrev pub PlaneWithin : List ℕ → List ℕ → ℕ → ℕ → Type 0
PlaneWithin s d w h = (r c : ℕ) → r < h → c < w → Within (nine s w h r c) (sample_at d w r c)

-- and so in every plane of a frame
pub record FrameWithin (f : Shape) (s d : Frame) : Type 0 where
  pub y : PlaneWithin s.y d.y f.width f.height
  pub cb : PlaneWithin s.cb d.cb (chroma_width f.format f.width) (chroma_height f.format f.height)
  pub cr : PlaneWithin s.cr d.cr (chroma_width f.format f.width) (chroma_height f.format f.height)
