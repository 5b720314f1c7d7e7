-- "Width or height 0 with empty planes is accepted and writes nothing." Assumes nothing.
use mathlib.Core.Path.{◌≡◌}
use mathlib.Core.List.{[]}
use Prim.Native.Nat.{ℕ, ◌*◌, ◌≤◌}
use borrow.Author.Tests.{le-leb}
use Rattle.laws.specs.Limits.{side_limit}
use Rattle.frame.specs.Questions.{each}
use Rattle.frame.specs.Calls.{plane_numbers, plane_refusal}
use Rattle.denoise.specs.Denoise.{denoised}
use Rattle.denoise.specs.Calls.{plane_outcome}

pub empty : (w h : ℕ) → w ≤ side_limit → h ≤ side_limit → w * h ≡ 0 → plane_outcome [] [] w h ≡ (0, [])
unfolding plane_outcome plane_refusal plane_numbers each denoised
empty w h wl hl e = rw (le-leb w side_limit wl, le-leb h side_limit hl, e)
