-- The worked examples, by computation. Assumes nothing.
use mathlib.Core.Path.{refl}
use Rattle.table.specs.Cases.{Right}
use Rattle.denoise.specs.Denoise.{nine, smoothed, denoised}
use Rattle.table.specs.Denoise.{denoised_plane, cases}

pub cases-right : Right denoised_plane cases
unfolding denoised smoothed nine
cases-right = (refl, (refl, (refl, tt)))
