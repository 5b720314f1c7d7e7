-- Two lines of noise, from places of two planes: the sum of their products, and its size. Assumes nothing.
use mathlib.Core.Path.{◌≡◌}
use mathlib.Core.List.{List}
use Prim.Native.Nat.{ℕ, ◌+◌, ◌*◌, ◌≤◌}
use lib.IntN.{ℤ, nat_abs, ◌*ℤ◌}
use lib.ListN.{length}
use Rattle.laws.specs.Limits.{sample_limit}
use Rattle.laws.specs.Table.{tabulate}
use Rattle.laws.specs.Sums.{sum_to}
use Rattle.noise.specs.Noise.{noise}
use Rattle.noise.specs.Lines.{product, noise_limit, Places}
use Rattle.noise.proofs.Lines.{noise-le}
use Rattle.noise.proofs.LineSums.{sum_is, sum-le}

module _ {source0 denoised0 source1 denoised1 : List ℕ} {start0 stride0 start1 stride1 n : ℕ}
    (P : Places sample_limit source0 denoised0 start0 stride0 n) (Q : Places sample_limit source1 denoised1 start1 stride1 n) where
  abbrev first : ℕ → ℤ
  first i = noise source0 denoised0 (start0 + i * stride0)

  abbrev second : ℕ → ℤ
  second i = noise source1 denoised1 (start1 + i * stride1)

  pub noise-sum-le : nat_abs (sum_to (λ i. first i *ℤ second i) n) ≤ n * (noise_limit * noise_limit)
  noise-sum-le = sum-le n first second noise_limit noise_limit (noise-le P) (noise-le Q)

  module _ {p q : List ℤ} (e : p ≡ tabulate n first) (d : q ≡ tabulate n second) where
    pub noise-sum : sum_to (product p q) (length p) ≡ sum_to (λ i. first i *ℤ second i) n
    noise-sum = sum_is n first second noise_limit noise_limit (noise-le P) (noise-le Q) e d
