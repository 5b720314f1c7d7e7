-- How large the sums of a fit are: every one is a whole number, or one of quarters or of sixteenths, that an f64 holds. Assumes nothing.
use mathlib.Core.List.{List}
use Prim.Native.Nat.{ℕ, ◌-◌, ◌*◌, ◌^◌, ◌≤◌, ◌<◌}
use native.Mathlib.Nat.{le_trans, mul-le-mul, le_refl}
use native.Mathlib.Omega.{arith}
use lib.Dec.{lit≤}
use lib.IntN.{nat_abs}
use Rattle.laws.specs.Limits.{side_limit}
use Rattle.frame.specs.declared.view.View.{View}
use Rattle.frame.specs.declared.view.Geometry.{Geometry}
use Rattle.noise.specs.Noise.{noise_of}
use Rattle.noise.specs.Lines.{noise_limit}
use Rattle.noise.specs.Seen.{Seen, Over, seen}
use Rattle.noise.specs.Average.{luma_seen, quarters}
use Rattle.noise.proofs.Seen.{seen-plane, plane-noise-le}
use Rattle.noise.proofs.Over.{average-le}
use Rattle.positions.specs.Counts.{factors}
use Rattle.normal.specs.Normal.{Picture, neighbour, window_sum, entry, tap_entry, tap_square}
use Rattle.normal.specs.Calls.{Window}
use Rattle.normal.specs.Starts.{average_limit}
use Rattle.normal.proofs.Windows.{InWindow, window-bound, neighbour-row, neighbour-column}

module _ {v : View} {source denoised : List ℕ} (S : Seen v source denoised) {lag : ℕ} (W : Window v.width v.height lag) where
  -- two pictures that are at most c and d in size
  window-le : (f g : Picture) (c d : ℕ) → ((y x : ℕ) → InWindow v.width v.height lag y x → nat_abs (f y x) ≤ c) → ((y x : ℕ) → InWindow v.width v.height lag y x → nat_abs (g y x) ≤ d)
      → nat_abs (window_sum v.width v.height lag f g) ≤ side_limit * (side_limit * (c * d))
  window-le f g c d p q = le_trans (window-bound v.width v.height lag f g c d p q) (mul-le-mul rows (mul-le-mul columns (le_refl (c * d))))
    where
      rows : v.height - lag ≤ side_limit
      rows = omega (arith, S.low)

      columns : v.width - 2 * lag ≤ side_limit
      columns = omega (arith, S.narrow)

  noise-small : (i : ℕ) → i < factors lag → (y x : ℕ) → InWindow v.width v.height lag y x → nat_abs (neighbour (noise_of (seen v source denoised)) lag i y x) ≤ noise_limit
  noise-small i l y x p = plane-noise-le (seen-plane S) _ _ (neighbour-row W i l y x p) (neighbour-column W i l y x p)

  pub entry-bound : (i j : ℕ) → i < factors lag → j < factors lag → nat_abs (entry (noise_of (seen v source denoised)) v.width v.height lag i j) ≤ 2 ^ 48
  entry-bound i j k l = le_trans (window-le _ _ noise_limit noise_limit (noise-small i k) (noise-small j l)) (lit≤ tt)

-- ---- with the luma tap
module _ {g : Geometry} (O : Over g) {y y-denoised : List ℕ} (L : Seen g.luma y y-denoised) {source denoised : List ℕ} (S : Seen g.chroma source denoised)
    {lag : ℕ} (W : Window g.chroma.width g.chroma.height lag) where
  average-small : (r c : ℕ) → InWindow g.chroma.width g.chroma.height lag r c → nat_abs (quarters (luma_seen g y y-denoised) r c) ≤ average_limit
  average-small r c p = average-le O L p.below c (omega (arith, p.right))

  pub tap-bound : (i : ℕ) → i < factors lag → nat_abs (tap_entry (noise_of (seen g.chroma source denoised)) (quarters (luma_seen g y y-denoised)) g.chroma.width g.chroma.height lag i) ≤ 2 ^ 50
  tap-bound i k = le_trans (window-le S W _ _ noise_limit average_limit (noise-small S W i k) average-small) (lit≤ tt)

  pub square-bound : nat_abs (tap_square (quarters (luma_seen g y y-denoised)) g.chroma.width g.chroma.height lag) ≤ 2 ^ 52
  square-bound = le_trans (window-le S W _ _ average_limit average_limit average-small average-small) (lit≤ tt)
