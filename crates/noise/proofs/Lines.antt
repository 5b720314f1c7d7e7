-- A line of noise: its places lie in both planes, and the noise of low samples is small. Assumes nothing.
use mathlib.Core.List.{List}
use Prim.Native.Nat.{ℕ, ◌+◌, ◌*◌, ◌≤◌, ◌<◌}
use native.Mathlib.Nat.{le_of_eq, le_of_suc-le-suc, lt_of_lt_of_le}
use lib.IntN.{nat_abs}
use Rattle.laws.specs.Limits.{sample_limit}
use Rattle.laws.proofs.Whole.{abs_diff}
use Rattle.noise.specs.Noise.{noise}
use Rattle.noise.specs.Lines.{LowAt, noise_limit, Places}

-- each of n places
pub low-at : {limit : ℕ} {source denoised : List ℕ} {start stride n : ℕ} → Places limit source denoised start stride n → {i : ℕ} → i < n → LowAt limit source denoised (start + i * stride)
low-at P {i} l =
    let k = P.inside i l in
    let m = lt_of_lt_of_le k (le_of_eq P.same) in
    record { in_source = k; in-denoised = m; source-low = P.source-low _ k; denoised-low = P.denoised-low _ m }

-- ---- low samples
pub noise-small : (source denoised : List ℕ) (k : ℕ) → LowAt sample_limit source denoised k → nat_abs (noise source denoised k) ≤ noise_limit
noise-small source denoised k L = le_of_suc-le-suc (abs_diff _ _ sample_limit L.source-low L.denoised-low)

module _ {source denoised : List ℕ} {start stride n : ℕ} (P : Places sample_limit source denoised start stride n) where
  pub noise-le : (i : ℕ) → i < n → nat_abs (noise source denoised (start + i * stride)) ≤ noise_limit
  noise-le i l = noise-small source denoised (start + i * stride) (low-at P l)
