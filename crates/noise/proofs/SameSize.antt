-- The rows of a plane that is of one size with another, which has them too. Assumes nothing.
use mathlib.Core.List.{List}
use Prim.Native.Nat.{ℕ, ◌+◌, ◌*◌, ◌<◌}
use Rattle.laws.specs.Limits.{sample_limit}
use Rattle.frame.specs.declared.view.View.{View}
use Rattle.noise.specs.Lines.{Places}
use Rattle.noise.specs.Seen.{Seen}
use Rattle.noise.specs.PlanePair.{SameSize}

pub same-rows : {v w : View} {source denoised : List ℕ} → Seen w source denoised → SameSize v w → (r : ℕ) → r < v.height
    → Places sample_limit source denoised (w.start + r * w.step) w.stride v.width
same-rows S e r l = rw (← e.width) (S.rows r (rw e.height l))
