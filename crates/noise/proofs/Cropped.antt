-- What a call sees of the planes that the active rectangle cuts out, in a frame of their size, is what it sees of the planes. Assumes nothing.
use mathlib.Core.Path.{◌≡◌, sym}
use mathlib.Core.List.{List}
use Prim.Native.Nat.{ℕ}
use Rattle.frame.specs.Planes.{view_of, cropped, cropped_frame, sampling_of, geometry_of}
use Rattle.frame.specs.declared.Shape.{Shape}
use Rattle.frame.specs.declared.view.Component.{Component}
use Rattle.frame.specs.declared.view.Component.TheVariants.{Y}
use Rattle.frame.proofs.Cropped.{cropped-whole}
use Rattle.noise.specs.Noise.{pair}
use Rattle.noise.specs.Seen.{seen}
use Rattle.noise.specs.Average.{luma_seen}

module _ (s : Shape) where
  -- a plane and its copy
  pub seen-cropped : (component : Component) (a b : List ℕ) → seen (view_of s component) a b ≡ seen (view_of (cropped_frame s) component) (cropped s component a) (cropped s component b)
  seen-cropped component a b = sym (λ i. pair (cropped-whole s component a i) (cropped-whole s component b i) (view_of s component).width (view_of s component).height)

  -- the luma that averages are taken of
  pub luma-cropped : (y y-denoised : List ℕ) → luma_seen (geometry_of s) y y-denoised ≡ luma_seen (geometry_of (cropped_frame s)) (cropped s Y y) (cropped s Y y-denoised)
  luma-cropped y y-denoised = λ i. record { plane = seen-cropped Y y y-denoised i; sampling = sampling_of s }
