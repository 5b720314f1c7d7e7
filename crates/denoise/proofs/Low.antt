-- A denoised plane of samples below 2^depth has samples below 2^depth: it passes question 6 again. Assumes nothing.
use mathlib.Core.Path.{◌≡◌}
use mathlib.Core.Bool.{true}
use mathlib.Core.List.{List}
use Prim.Native.Nat.{ℕ, ◌-◌, ◌*◌, ◌/◌, ◌%◌, ◌^◌, ◌<◌}
use native.Mathlib.Omega.{arith}
use lib.ListN.{get_or}
use lib.Pow.{pow_pos}
use Rattle.laws.proofs.Table.{get_d_tabulate}
use Rattle.frame.specs.Questions.{low}
use Rattle.frame.proofs.Samples.{low_below, below-low}
use Rattle.denoise.specs.Denoise.{denoised}
use Rattle.denoise.proofs.Rows.{entry}
use Rattle.denoise.proofs.Denoised.{denoised-length}
use Rattle.denoise.proofs.Within.{smoothed-le}

pub denoised-low : (depth : ℕ) (s : List ℕ) (w h : ℕ) → low depth s ≡ true → low depth (denoised s w h) ≡ true
unfolding denoised
denoised-low depth s w h e = below-low depth (denoised s w h) (λ i l. at i (rw denoised-length at l))
  where
    at : (i : ℕ) → i < w * h → get_or (denoised s w h) i 0 < 2 ^ depth
    at i l =
        rw (get_d_tabulate (w * h) (entry s w h) i 0 l)
        (omega (arith, smoothed-le (2 ^ depth - 1) s (λ j. omega (arith, low_below depth s e j)) w h (i / w) (i % w), pow_pos depth))
