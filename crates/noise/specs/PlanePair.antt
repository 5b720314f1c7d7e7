-- What stands in the code's pair of a plane and its copy: what its view shows, the noise there by row and column, and pairs of one size.
use Rattle.std.specs.Prelude.{◌≡◌, ℕ, ℤ}
use Rattle.frame.specs.declared.view.View.{View}
use Rattle.noise.specs.Noise.{Pair}
use Rattle.noise.specs.Seen.{seen, noise_at}
use Rattle.noise.specs.declared.plane_pair.PlanePair.{PlanePair}

-- the plane and its copy that the view shows
abbrev pub shown : PlanePair → Pair
shown p = seen p.view p.source.now p.denoised.now

-- the noise at row r and column c, through the view
abbrev pub noise_in : PlanePair → ℕ → ℕ → ℤ
noise_in p = noise_at p.source.now p.denoised.now p.view

-- two views of one size
pub record SameSize (v w : View) : Type 0 where
  pub width : w.width ≡ v.width
  pub height : w.height ≡ v.height
