-- The nine weights are 1 2 1 down the columns and then 1 2 1 along the line of the sums; so the means along the line about a row are that row of the result.
-- Assumes nothing.
use mathlib.Core.Path.{◌≡◌}
use mathlib.Core.List.{List, [], ◌∷◌}
use Prim.Native.Nat.{ℕ, ◌+◌, ◌-◌, ◌<◌, min}
use native.Mathlib.Omega.{arith}
use lib.ListN.{get_or}
use Rattle.laws.specs.Table.{tabulate}
use Rattle.laws.proofs.Table.{tabulate-same}
use Rattle.denoise.specs.Denoise.{sample_at, before, after, nine, weights, weighed, smoothed}
use Rattle.denoise.specs.Line.{weigh, column_sums, line_mean, row_of}
use Rattle.denoise.proofs.Rows.{row_at}
use Rattle.denoise.proofs.Sums.{get_or-column_sums}

-- the nine weights are 1 2 1 down the columns, then 1 2 1 along the sums
pub separable : (a b c d e f g h i : ℕ) → weigh (weigh a d g) (weigh b e h) (weigh c f i) ≡ weighed weights (a ∷ b ∷ c ∷ d ∷ e ∷ f ∷ g ∷ h ∷ i ∷ [])
separable a b c d e f g h i = omega arith

-- the line of the sums about row r
abbrev pub sums_about : List ℕ → ℕ → ℕ → ℕ → List ℕ
sums_about s w h r = column_sums (row_of s w (before r)) (row_of s w r) (row_of s w (after h r)) w

module _ (s : List ℕ) (w h r : ℕ) (some : 0 < w) where
  -- column c of the three rows about row r
  abbrev column : ℕ → ℕ
  column c = weigh (sample_at s w (before r) c) (sample_at s w r c) (sample_at s w (after h r) c)

  sums-about-at : (i c : ℕ) → i < w + 2 → min (i - 1) (w - 1) ≡ c → c < w → get_or (sums_about s w h r) i 0 ≡ column c
  sums-about-at i c l e k = rw (get_or-column_sums _ _ _ w i l, e, row_at s w (before r) c k, row_at s w r c k, row_at s w (after h r) c k)

  mean-smooth : (c : ℕ) → c < w → line_mean (sums_about s w h r) c ≡ smoothed s w h r c
  unfolding line_mean smoothed nine
  mean-smooth c l =
      rw (
        sums-about-at c (before c) (omega arith) (omega arith) (omega arith),
        sums-about-at (c + 1) c (omega arith) (omega arith) l,
        sums-about-at (c + 2) (after w c) (omega arith) (omega arith) (omega arith),
        separable,
      )

  -- the means along that line are row r of the result
  pub means-smooth : tabulate w (line_mean (sums_about s w h r)) ≡ tabulate w (smoothed s w h r)
  means-smooth = tabulate-same w _ _ mean-smooth
