-- A pivot's test and a column's step from what their parts return, and that no column changes the end at a small pivot. Assumes nothing.
use mathlib.Core.Path.{◌≡◌, refl, ◌∙◌}
use mathlib.Core.Bool.{Bool, cond}
use Prim.Native.Nat.{ℕ, ◌+◌, ◌<◌}
use lib.Ieee.{Float, lt}
use Rattle.laws.proofs.Turns.{Turned, turned_more}
use Rattle.float.specs.Magnitude.{magnitude_of}
use Rattle.solve.specs.Elimination.{System, going, none, cell, limit, pivoted, cleared, tested, column}

-- what a test on two magnitudes picks, said of the floats that they are the magnitudes of
pub picked : (p q u v : Float) (t : Bool) (x y z : ℕ) → p ≡ u → q ≡ v → lt p q ≡ t → z ≡ cond t x y → z ≡ cond (lt u v) x y
picked p q u v t x y z e d h k = k ∙ rw (← h, e, d)

-- one column more: u is t with the pivot's row at i, and x the pivot's magnitude
pub column-turn : (p i : ℕ) (s t u : System) (x : Float) (b : Bool)
    → Turned (column p) 0 p (going s) i (going t)
    → i < p
    → u ≡ pivoted p i t
    → x ≡ magnitude_of (cell u.matrix i i)
    → lt x limit ≡ b
    → Turned (column p) 0 p (going s) (i + 1) (cond b none (going (cleared p i u)))
unfolding column tested
column-turn p i s t u x b h l hu hx hb = turned_more _ _ _ _ _ h l (rw (← hb, hx, hu))

pub none_stays : (p k : ℕ) → column p k none ≡ none
unfolding column
none_stays p k = refl
