-- The denoised plane's length, and its entry at a row and a column. Assumes nothing.
use mathlib.Core.Path.{◌≡◌, ◌∙◌}
use mathlib.Core.List.{List}
use Prim.Native.Nat.{ℕ, ◌+◌, ◌*◌, ◌<◌}
use native.Mathlib.Omega.{arith}
use lib.ListN.{length}
use lib.Arith.{digits_div, digits_mod}
use Rattle.laws.proofs.Table.{length-tabulate, get_d_tabulate}
use Rattle.denoise.specs.Denoise.{sample_at, smoothed, denoised}
use Rattle.denoise.proofs.Rows.{entry, row_within}

pub denoised-length : (s : List ℕ) (w h : ℕ) → length (denoised s w h) ≡ w * h
unfolding denoised
denoised-length s w h = length-tabulate (w * h) (entry s w h)

pub denoised-at : (s : List ℕ) (w h r c : ℕ) → r < h → c < w → sample_at (denoised s w h) w r c ≡ smoothed s w h r c
unfolding denoised
denoised-at s w h r c rh cw =
    get_d_tabulate (w * h) (entry s w h) (r * w + c) 0 (omega (arith, row_within w h r rh)) ∙ rw (digits_div r cw, digits_mod r cw)
